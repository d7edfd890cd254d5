-- Lists of marks, and the numbers that they mark.
use Rattle.std.proofs.Common.{◌≡◌, ◌≢◌, ◌<◌, ◌≤◌, ◌+◌, ◌++◌, ◌∷◌, [], ℕ, zero, suc, List, length, get_or, set, refl, sym, ap, ◌∙◌, arith}
use Rattle.std.specs.Prelude.{remove}
use Rattle.dictionary_mode.specs.Counts.{marked_from}

-- the sum of the first marks
abbrev pub total : List ℕ → ℕ → ℕ
total [] n = 0
total (x ∷ xs) zero = 0
total (x ∷ xs) (suc n) = x + total xs n

abbrev pub AreMarks : List ℕ → Type 0
AreMarks xs = (s : ℕ) → get_or xs s 0 ≤ 1

pub total_more : (xs : List ℕ) (n : ℕ) → total xs (n + 1) ≡ total xs n + get_or xs n 0
total_more [] n = refl
total_more (x ∷ xs) zero = none xs x
  where
    none : (xs : List ℕ) (x : ℕ) → x + total xs 0 ≡ 0 + x
    none [] x = omega arith
    none (y ∷ ys) x = omega arith
total_more (x ∷ xs) (suc n) = let e = total_more xs n in ap (λ m. total (x ∷ xs) m) (shift n) ∙ omega (arith, e)
  where
    shift : (n : ℕ) → suc n + 1 ≡ suc (n + 1)
    shift n = omega arith

pub total_zero : (xs : List ℕ) → total xs 0 ≡ 0
total_zero [] = refl
total_zero (x ∷ xs) = refl

pub total_small : (xs : List ℕ) (n : ℕ) → AreMarks xs → total xs n ≤ n
total_small [] n marks = omega arith
total_small (x ∷ xs) zero marks = omega arith
total_small (x ∷ xs) (suc n) marks = let first : x ≤ 1 = marks 0 in omega (arith, total_small xs n (λ s. marks (suc s)))

pub length-marked : (xs : List ℕ) (k n : ℕ) → AreMarks xs → length xs ≤ n → length (marked_from k xs) ≡ total xs n
length-marked [] k n marks le = refl
length-marked (x ∷ xs) k zero marks le = absurd (omega arith)
length-marked (zero ∷ xs) k (suc n) marks le = omega (arith, length-marked xs (k + 1) n (λ s. marks (suc s)) (omega arith))
length-marked (suc y ∷ xs) k (suc n) marks le = let first : suc y ≤ 1 = marks 0 in omega (arith, length-marked xs (k + 1) n (λ s. marks (suc s)) (omega arith))

-- a mark's number stands where so many marks come before
pub within-marked : (xs : List ℕ) (k s : ℕ) → AreMarks xs → get_or xs s 0 ≡ 1 → total xs s < length (marked_from k xs)
within-marked [] k s marks here = absurd (omega arith)
within-marked (zero ∷ xs) k zero marks here = absurd (omega arith)
within-marked (zero ∷ xs) k (suc s) marks here = omega (arith, within-marked xs (k + 1) s (λ q. marks (suc q)) here)
within-marked (suc y ∷ xs) k zero marks here = omega arith
within-marked (suc y ∷ xs) k (suc s) marks here = let first : suc y ≤ 1 = marks 0 in omega (arith, within-marked xs (k + 1) s (λ q. marks (suc q)) here)

at_further : (xs : List ℕ) (k y n : ℕ) → y ≡ 0 → get_or (k ∷ xs) (suc y + n) 0 ≡ get_or xs n 0
at_further xs k y n e = let f : suc y + n ≡ suc n = omega arith in ap (λ m. get_or (k ∷ xs) m 0) f

pub at-marked : (xs : List ℕ) (k s : ℕ) → AreMarks xs → get_or xs s 0 ≡ 1 → get_or (marked_from k xs) (total xs s) 0 ≡ k + s
at-marked [] k s marks here = absurd (omega arith)
at-marked (zero ∷ xs) k zero marks here = absurd (omega arith)
at-marked (zero ∷ xs) k (suc s) marks here =
    let e : 0 + total xs s ≡ total xs s = omega arith in
    ap (λ m. get_or (marked_from (k + 1) xs) m 0) e ∙ at-marked xs (k + 1) s (λ q. marks (suc q)) here ∙ omega arith
at-marked (suc y ∷ xs) k zero marks here = omega arith
at-marked (suc y ∷ xs) k (suc s) marks here =
    let first : suc y ≤ 1 = marks 0 in let none : y ≡ 0 = omega arith in
    at_further (marked_from (k + 1) xs) k y (total xs s) none ∙ at-marked xs (k + 1) s (λ q. marks (suc q)) here ∙ omega arith

-- no number before the first
above-marked : (xs : List ℕ) (k i : ℕ) → i < length (marked_from k xs) → k ≤ get_or (marked_from k xs) i 0
above-marked [] k i lt = absurd (omega arith)
above-marked (zero ∷ xs) k i lt = omega (arith, above-marked xs (k + 1) i lt)
above-marked (suc y ∷ xs) k zero lt = omega arith
above-marked (suc y ∷ xs) k (suc i) lt = omega (arith, above-marked xs (k + 1) i (omega arith))

-- what is not marked is no number of the list
pub lacks-marked : (xs : List ℕ) (k s i : ℕ) → get_or xs s 0 ≡ 0 → i < length (marked_from k xs) → get_or (marked_from k xs) i 0 ≢ k + s
lacks-marked [] k s i none lt e = absurd (omega arith)
lacks-marked (zero ∷ xs) k zero i none lt e = omega (arith, above-marked xs (k + 1) i lt)
lacks-marked (zero ∷ xs) k (suc s) i none lt e = lacks-marked xs (k + 1) s i none lt (e ∙ omega arith)
lacks-marked (suc y ∷ xs) k zero i none lt e = absurd (omega arith)
lacks-marked (suc y ∷ xs) k (suc s) zero none lt e = omega arith
lacks-marked (suc y ∷ xs) k (suc s) (suc i) none lt e = lacks-marked xs (k + 1) s i none (omega arith) (e ∙ omega arith)

remove_further : (xs : List ℕ) (k y n : ℕ) → y ≡ 0 → remove (k ∷ xs) (suc y + n) ≡ k ∷ remove xs n
remove_further xs k y n e = let f : suc y + n ≡ suc n = omega arith in ap (λ m. remove (k ∷ xs) m) f

-- a mark less
pub marked-unset : (xs : List ℕ) (k s : ℕ) → AreMarks xs → get_or xs s 0 ≡ 1 → marked_from k (set xs s 0) ≡ remove (marked_from k xs) (total xs s)
marked-unset [] k s marks here = absurd (omega arith)
marked-unset (zero ∷ xs) k zero marks here = absurd (omega arith)
marked-unset (zero ∷ xs) k (suc s) marks here =
    let e : total xs s ≡ 0 + total xs s = omega arith in
    marked-unset xs (k + 1) s (λ q. marks (suc q)) here ∙ ap (remove (marked_from (k + 1) xs)) e
marked-unset (suc y ∷ xs) k zero marks here = refl
marked-unset (suc y ∷ xs) k (suc s) marks here =
    let first : suc y ≤ 1 = marks 0 in let none : y ≡ 0 = omega arith in
    ap (λ is. k ∷ is) (marked-unset xs (k + 1) s (λ q. marks (suc q)) here) ∙ sym (remove_further (marked_from (k + 1) xs) k y (total xs s) none)

pub none-marked : (xs : List ℕ) (k : ℕ) → ((q : ℕ) → get_or xs q 0 ≡ 0) → marked_from k xs ≡ []
none-marked [] k none = refl
none-marked (zero ∷ xs) k none = none-marked xs (k + 1) (λ q. none (suc q))
none-marked (suc y ∷ xs) k none = absurd (let e : suc y ≡ 0 = none 0 in omega arith)

-- a mark more, behind all others
pub marked-set : (xs : List ℕ) (k s : ℕ) → s < length xs → ((q : ℕ) → s ≤ q → get_or xs q 0 ≡ 0) → marked_from k (set xs s 1) ≡ marked_from k xs ++ (k + s) ∷ []
marked-set [] k s lt none = absurd (omega arith)
marked-set (zero ∷ xs) k zero lt none =
    ap (λ is. k ∷ is) (rest xs k none) ∙ (λ t. sym (rest xs k none) t ++ plus k t ∷ [])
  where
    rest : (xs : List ℕ) (k : ℕ) → ((q : ℕ) → zero ≤ q → get_or (zero ∷ xs) q 0 ≡ 0) → marked_from (k + 1) xs ≡ []
    rest xs k none = none-marked xs (k + 1) (λ q. none (suc q) (omega arith))

    plus : (k : ℕ) → k ≡ k + 0
    plus k = omega arith
marked-set (zero ∷ xs) k (suc s) lt none = marked-set xs (k + 1) s (omega arith) (λ q le. none (suc q) (omega arith)) ∙ ap (λ m. marked_from (k + 1) xs ++ m ∷ []) (shift k s)
  where
    shift : (k s : ℕ) → (k + 1) + s ≡ k + suc s
    shift k s = omega arith
marked-set (suc y ∷ xs) k zero lt none = absurd (let e : suc y ≡ 0 = none 0 (omega arith) in omega arith)
marked-set (suc y ∷ xs) k (suc s) lt none = ap (λ is. k ∷ is) (marked-set xs (k + 1) s (omega arith) (λ q le. none (suc q) (omega arith)) ∙ ap (λ m. marked_from (k + 1) xs ++ m ∷ []) (shift k s))
  where
    shift : (k s : ℕ) → (k + 1) + s ≡ k + suc s
    shift k s = omega arith
