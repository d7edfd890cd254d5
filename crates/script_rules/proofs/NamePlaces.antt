-- The place of a name among names with places from some number on.
use Rattle.std.proofs.Common.{◌≡◌, ◌<◌, ◌∙◌, ap, sym, refl, ℕ, suc, ◌+◌, Bool, true, false, inl, inr, List, [], ◌∷◌, length, Option, Some, None, add-zero, arith}
use Rattle.std.specs.Str.{bytes_eq}
use Rattle.std.proofs.lemmas.Bool.{cases_Bool}
use Rattle.script_rules.specs.Bounds.{Bound, place_from}

abbrev shifted : ℕ → Option (ℕ × Bool) → Option (ℕ × Bool)
shifted p None = None
shifted p (Some w) = Some (p + w.0, w.1)

suc_right : (p q : ℕ) → suc (p + q) ≡ p + suc q
suc_right p q = omega arith

shift : (p q : ℕ) (bs : List Bound) (u : List ℕ) → place_from (p + q) bs u ≡ shifted p (place_from q bs u)
shift p q [] u = refl
shift p q (b ∷ bs) u =
    elim (cases_Bool (bytes_eq u b.units)) [
      | inl t ↦ rw t refl
      | inr f ↦ rw f (ap (λ n. place_from n bs u) (suc_right p q) ∙ shift p (suc q) bs u)
    ]

abbrev place_or : Option (ℕ × Bool) → ℕ
place_or None = 0
place_or (Some w) = w.0

some_place : (q : ℕ) (c : Bool) (n : ℕ) (d : Bool) → ◌≡◌ {A = Option (ℕ × Bool)} (Some (q, c)) (Some (n, d)) → n ≡ q
some_place q c n d e = sym (ap place_or e)

below : (q : ℕ) (bs : List Bound) (u : List ℕ) (i : ℕ) (c : Bool) → place_from q bs u ≡ Some (i, c) → i < q + length bs
below q [] u i c e = absurd (cc e)
below q (b ∷ bs) u i c e = by (bytes_eq u b.units) refl (λ h. below (suc q) bs u i c h)
  where
    by : (t : Bool) → bytes_eq u b.units ≡ t → (place_from (suc q) bs u ≡ Some (i, c) → i < suc q + length bs) → i < q + suc (length bs)
    by true t more = let n : i ≡ q = some_place q b.constant i c (rw t at e) in omega arith
    by false f more = let n : i < suc q + length bs = more (rw f at e) in omega arith

pub place_below : (bs : List Bound) (u : List ℕ) (i : ℕ) (c : Bool) → Some (i, c) ≡ place_from 0 bs u → i < length bs
place_below bs u i c e = let n = below 0 bs u i c (sym e) in omega arith

pub placed : (p : ℕ) (bs : List Bound) (u : List ℕ) (i : ℕ) (c : Bool) → Some (i, c) ≡ place_from 0 bs u → place_from p bs u ≡ Some (p + i, c)
placed p bs u i c e = ap (λ n. place_from n bs u) (sym (add-zero p)) ∙ shift p 0 bs u ∙ ap (shifted p) (sym e)

pub unplaced : (p : ℕ) (bs : List Bound) (u : List ℕ) → None ≡ place_from 0 bs u → place_from p bs u ≡ None
unplaced p bs u e = ap (λ n. place_from n bs u) (sym (add-zero p)) ∙ shift p 0 bs u ∙ ap (shifted p) (sym e)
