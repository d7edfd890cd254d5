-- Two texts that are the same up to a place.
use Rattle.std.proofs.Common.{◌≡◌, ◌≢◌, ◌≤◌, ◌+◌, ℕ, zero, suc, true, false, cond, Some, List, [], ◌∷◌, length, drop, slice_get, inl, inr, length-drop, ◌-◌, refl, sym, ap, subst, ◌∙◌, arith}
use Rattle.std.specs.Prelude.{nat_lt, ◌==◌}
use Rattle.std.proofs.lemmas.Bool.{cases_lt, le-ltb, lt-ltb}
use Rattle.std.proofs.lemmas.Bool.Decides.{eqb_tells}
use Rattle.object_heap.proofs.StartLists.{dropped-one}
use Rattle.plain_builtins.specs.Comparisons.{units_less, units_looked}

same-eqb : (a b : ℕ) → a ≡ b → (a == b) ≡ true
same-eqb a b e = elim (eqb_tells a b) [ inl p ↦ p.0 | inr q ↦ absurd (q.1 e) ]

other-eqb : (a b : ℕ) → a ≢ b → (a == b) ≡ false
other-eqb a b n = elim (eqb_tells a b) [ inl p ↦ absurd (n p.1) | inr q ↦ q.0 ]

-- behind so many places that are the same
pub record IsSame (us vs : List ℕ) (i : ℕ) : Type 0 where
  pub looked : units_looked us vs ≡ i + units_looked (drop i us) (drop i vs)
  pub less : units_less us vs ≡ units_less (drop i us) (drop i vs)

looked-at : (us vs : List ℕ) (i a b : ℕ) → slice_get us i ≡ Some a → slice_get vs i ≡ Some b → units_looked (drop i us) (drop i vs) ≡ cond (a == b) (suc (units_looked (drop (suc i) us) (drop (suc i) vs))) 1
looked-at us vs i a b e f = λ t. units_looked (dropped-one us i a e t) (dropped-one vs i b f t)

less-at : (us vs : List ℕ) (i a b : ℕ) → slice_get us i ≡ Some a → slice_get vs i ≡ Some b → units_less (drop i us) (drop i vs) ≡ cond (a == b) (units_less (drop (suc i) us) (drop (suc i) vs)) (nat_lt a b)
less-at us vs i a b e f = λ t. units_less (dropped-one us i a e t) (dropped-one vs i b f t)

-- a place more
pub same-on : (us vs : List ℕ) (i j a b : ℕ) → j ≡ i + 1 → slice_get us i ≡ Some a → slice_get vs i ≡ Some b → a ≡ b → IsSame us vs i → IsSame us vs j
same-on us vs i j a b one e f same h =
    let next : suc i ≡ j = omega arith in
    let test : (a == b) ≡ true = same-eqb a b same in
    let looked = looked-at us vs i a b e f ∙ ap (λ t. cond t (suc (units_looked (drop (suc i) us) (drop (suc i) vs))) 1) test in
    let less = less-at us vs i a b e f ∙ ap (λ t. cond t (units_less (drop (suc i) us) (drop (suc i) vs)) (nat_lt a b)) test in
    subst (IsSame us vs) next (record { looked = omega (arith, h.looked, looked); less = h.less ∙ less })

-- the place that differs
pub differ-looked : (us vs : List ℕ) (i a b : ℕ) → slice_get us i ≡ Some a → slice_get vs i ≡ Some b → a ≢ b → IsSame us vs i → i + 1 ≡ units_looked us vs
differ-looked us vs i a b e f other h =
    let looked = looked-at us vs i a b e f ∙ ap (λ t. cond t (suc (units_looked (drop (suc i) us) (drop (suc i) vs))) 1) (other-eqb a b other) in
    omega (arith, h.looked, looked)

pub differ-less : (us vs : List ℕ) (i a b : ℕ) → slice_get us i ≡ Some a → slice_get vs i ≡ Some b → a ≢ b → IsSame us vs i → nat_lt a b ≡ units_less us vs
differ-less us vs i a b e f other h =
    sym (h.less ∙ less-at us vs i a b e f ∙ ap (λ t. cond t (units_less (drop (suc i) us) (drop (suc i) vs)) (nat_lt a b)) (other-eqb a b other))

-- one text is at its end
drop-past : (xs : List ℕ) (i : ℕ) → length xs ≤ i → drop i xs ≡ []
drop-past [] zero b = refl
drop-past [] (suc i) b = refl
drop-past (x ∷ xs) zero b = absurd (omega arith)
drop-past (x ∷ xs) (suc i) b = drop-past xs i (omega arith)

looked-none : (xs ys : List ℕ) → ys ≡ [] → units_looked xs ys ≡ 0
looked-none [] ys e = refl
looked-none (x ∷ xs) ys e = ap (units_looked (x ∷ xs)) e

less-none : (xs ys : List ℕ) → ys ≡ [] → units_less xs ys ≡ false
less-none [] ys e = ap (units_less []) e
less-none (x ∷ xs) ys e = ap (units_less (x ∷ xs)) e

some-less : (ys : List ℕ) → units_less [] ys ≡ nat_lt 0 (length ys)
some-less [] = sym (le-ltb 0 0 (omega arith))
some-less (y ∷ ys) = sym (lt-ltb 0 (length (y ∷ ys)) (omega arith))

less-than-rest : (i n : ℕ) → nat_lt 0 (n - i) ≡ nat_lt i n
less-than-rest i n = elim (cases_lt i n) [
  | inl lt ↦ lt-ltb 0 (n - i) (omega arith) ∙ sym (lt-ltb i n lt)
  | inr le ↦ le-ltb 0 (n - i) (omega arith) ∙ sym (le-ltb i n le)
]

is-more : (ys : List ℕ) (i : ℕ) → units_less [] (drop i ys) ≡ nat_lt i (length ys)
is-more ys i = some-less (drop i ys) ∙ ap (nat_lt 0) (length-drop i ys) ∙ less-than-rest i (length ys)

pub left-looked : (us vs : List ℕ) (i : ℕ) → length us ≤ i → IsSame us vs i → i ≡ units_looked us vs
left-looked us vs i past h = let none = ap (λ xs. units_looked xs (drop i vs)) (drop-past us i past) in omega (arith, h.looked, none)

pub right-looked : (us vs : List ℕ) (i : ℕ) → length vs ≤ i → IsSame us vs i → i ≡ units_looked us vs
right-looked us vs i past h = let none = looked-none (drop i us) (drop i vs) (drop-past vs i past) in omega (arith, h.looked, none)

pub left-less : (us vs : List ℕ) (i : ℕ) → length us ≤ i → IsSame us vs i → nat_lt i (length vs) ≡ units_less us vs
left-less us vs i past h = sym (h.less ∙ ap (λ xs. units_less xs (drop i vs)) (drop-past us i past) ∙ is-more vs i)

pub right-less : (us vs : List ℕ) (i : ℕ) → length vs ≤ i → IsSame us vs i → nat_lt i (length vs) ≡ units_less us vs
right-less us vs i past h = sym (h.less ∙ less-none (drop i us) (drop i vs) (drop-past vs i past) ∙ sym (le-ltb i (length vs) past))
