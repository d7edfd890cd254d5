-- Lemmas on what is left of a list from one place on.
use Rattle.std.proofs.Common.{◌≡◌, ◌≤◌, ◌+◌, ◌∷◌, [], ℕ, List, Some, None, zero, suc, length, drop, slice_get, refl, ap, true≢false, arith, add-one}

none_some : {T : Type 0} (x : T) → None ≡ Some x → ⊥
none_some x e = true≢false cc

same_some : {T : Type 0} (x y : T) → Some x ≡ Some y → x ≡ y
same_some x y e = cc

drop_from : {T : Type 0} (xs : List T) (i : ℕ) (x : T) → slice_get xs i ≡ Some x → drop i xs ≡ x ∷ drop (suc i) xs
drop_from [] zero x is = absurd (none_some x is)
drop_from [] (suc i) x is = absurd (none_some x is)
drop_from {T} (y ∷ ys) zero x is = ap (λ (z : T). z ∷ ys) (same_some y x is)
drop_from (y ∷ ys) (suc i) x is = drop_from ys i x is

pub drop_at : {T : Type 0} (xs : List T) (i : ℕ) (x : T) → slice_get xs i ≡ Some x → drop i xs ≡ x ∷ drop (i + 1) xs
drop_at xs i x is = rw add-one (drop_from xs i x is)

pub drop_all : {T : Type 0} (xs : List T) (i : ℕ) → length xs ≤ i → drop i xs ≡ []
drop_all [] zero le = refl
drop_all [] (suc i) le = refl
drop_all (x ∷ xs) zero le = absurd (omega arith)
drop_all (x ∷ xs) (suc i) le = drop_all xs i (omega arith)
