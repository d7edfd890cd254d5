-- One place of a list of files.
use Rattle.std.proofs.Common.{◌≡◌, ◌≢◌, ◌<◌, ◌++◌, ◌∷◌, ◌∙◌, [], ℕ, zero, suc, List, length, get_or, slice_get, slice_set, Contains, refl, sym, ap, arith, inl, inr}
use Rattle.std.proofs.lemmas.List.Elements.{Contains-append_cases}
use Rattle.std.specs.Io.KnownBytes.{Consumes, IsAtEnd}
use Rattle.hc_outside.specs.Files.{numbers_below}

-- a number below n is below n
pub below_from_member : (n k : ℕ) → Contains (numbers_below n) k → k < n
below_from_member zero k h = absurd (omega (arith, h.1))
below_from_member (suc n) k h = elim (Contains-append_cases (numbers_below n) (n ∷ []) k h) [
  | inl before ↦ let lt : k < n = below_from_member n k before in omega arith
  | inr last ↦ let at : last.0 ≡ 0 = omega (arith, last.1) in let e : n ≡ k = rw at at last.2 in omega arith
]

-- another place keeps what it has
pub slice_get-set_other : {X : Type 0} (xs : List X) (i j : ℕ) (v : X) → j ≢ i → slice_get (slice_set xs i v) j ≡ slice_get xs j
slice_get-set_other [] i j v ne = refl
slice_get-set_other (x ∷ xs) zero zero v ne = absurd (ne refl)
slice_get-set_other (x ∷ xs) zero (suc j) v ne = refl
slice_get-set_other (x ∷ xs) (suc i) zero v ne = refl
slice_get-set_other (x ∷ xs) (suc i) (suc j) v ne = slice_get-set_other xs i j v (λ e. ne (ap suc e))

-- a file's bytes are taken from the front
pub consumes_at : (xs : List (List ℕ)) (i : ℕ) (old new front : List ℕ) → i < length xs → old ≡ get_or xs i old → old ≡ front ++ new
    → Consumes (slice_get xs i) (slice_get (slice_set xs i new) i) front
consumes_at [] i old new front lt e cut = absurd (omega arith)
consumes_at (x ∷ xs) zero old new front lt e cut = sym e ∙ cut
consumes_at (x ∷ xs) (suc i) old new front lt e cut = consumes_at xs i old new front (omega arith) e cut

pub end_at : (xs : List (List ℕ)) (i : ℕ) (new : List ℕ) → i < length xs → new ≡ [] → IsAtEnd (slice_get (slice_set xs i new) i)
end_at [] i new lt e = absurd (omega arith)
end_at (x ∷ xs) zero new lt e = e
end_at (x ∷ xs) (suc i) new lt e = end_at xs i new (omega arith) e

pub nothing : (xs : List ℕ) → length xs ≡ 0 → xs ≡ []
nothing [] e = refl
nothing (x ∷ xs) e = absurd (omega arith)

-- what is put at the end changes no earlier place
pub slice_get-append_left : {X : Type 0} (xs ys : List X) (i : ℕ) → i < length xs → slice_get (xs ++ ys) i ≡ slice_get xs i
slice_get-append_left [] ys i lt = absurd (omega arith)
slice_get-append_left (x ∷ xs) ys zero lt = refl
slice_get-append_left (x ∷ xs) ys (suc i) lt = slice_get-append_left xs ys i (omega arith)
