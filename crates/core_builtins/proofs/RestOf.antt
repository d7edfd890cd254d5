-- The arguments behind the first one, over plain variables.
use Rattle.std.proofs.Common.{◌≡◌, ◌≤◌, ◌+◌, ℕ, zero, suc, Some, List, [], ◌∷◌, ◌++◌, length, take, slice_get, refl, ap, sym, subst, ◌∙◌, arith}
use Rattle.std.proofs.Math.Seq.{take-suc}
use Rattle.std.proofs.lemmas.Option.{slice_get_within, get_or_from_slice_get}
use Rattle.property_keys.specs.declared.values.Value.{Value}
use Rattle.core_builtins.specs.Answers.{rest_of}

rest-get : (l : List Value) (n : ℕ) (x : Value) → slice_get l (suc n) ≡ Some x → slice_get (rest_of l) n ≡ Some x
rest-get [] n x s = s
rest-get (v ∷ vs) n x s = s

one-more : (l : List Value) (n m : ℕ) (x : Value) → m ≡ n + 1 → slice_get l n ≡ Some x → take n l ++ x ∷ [] ≡ take m l
one-more l n m x e s =
    let next : suc n ≡ m = omega arith in
    ap (λ y. take n l ++ y ∷ []) (sym (get_or_from_slice_get l n x x s)) ∙ sym (take-suc l n x (slice_get_within l n x s)) ∙ ap (λ k. take k l) next

-- one argument more
pub rest_copied : (l : List Value) (n m : ℕ) (x : Value) → n ≡ suc m → slice_get l n ≡ Some x → take m (rest_of l) ++ x ∷ [] ≡ take n (rest_of l)
rest_copied l n m x is s = one-more (rest_of l) m n x (omega (arith, is)) (rest-get l m x (subst (λ k. slice_get l k ≡ Some x) is s))

take-all : (l : List Value) (n : ℕ) → length l ≤ n → take n l ≡ l
take-all [] zero h = refl
take-all [] (suc n) h = refl
take-all (v ∷ vs) zero h = absurd (omega (arith, h))
take-all (v ∷ vs) (suc n) h = ap (λ xs. v ∷ xs) (take-all vs n (omega (arith, h)))

-- all of them
pub rest_whole : (l : List Value) (n : ℕ) → length l ≤ suc n → take n (rest_of l) ≡ rest_of l
rest_whole [] n h = take-all [] n (omega arith)
rest_whole (v ∷ vs) n h = take-all vs n (omega (arith, h))
