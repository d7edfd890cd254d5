-- What the place of a key says of the list.
use Rattle.std.proofs.Common.{◌≡◌, ℕ, zero, suc, ◌<◌, true, false, Some, None, List, [], ◌∷◌, length, if◌then◌else◌, arith, refl, ap, ◌∙◌, subst, Option}
use Rattle.std.specs.Prelude.{IsSome}
use Rattle.std.proofs.Math.ListN.{set}
use Rattle.property_keys.specs.declared.keys.PropKey.{PropKey}
use Rattle.es_model.specs.Objects.{same_key}
use Rattle.descriptors.specs.declared.property.Complete.{Complete}
use Rattle.es_model.specs.declared.owned.OwnProperty.{OwnProperty}
use Rattle.es_model.specs.Objects.{find_property, replace_property}
use Rattle.object_heap.specs.Places.{property_at, IsPlace}

pub none_some : {A : Type 0} {o : Option A} → o ≡ None → IsSome o → ⊥
none_some {A = A} {o = o} e h = let k : IsSome {T = A} None = subst (λ (x : Option A). IsSome x) e h in cc

pub find-none : (ps : List OwnProperty) (key : PropKey) → ((j : ℕ) → j < length ps → same_key (property_at ps j).key key ≡ false) → find_property ps key ≡ None
find-none [] key h = refl
find-none (p ∷ ps) key h =
    ap (λ b. if b then Some p.complete else find_property ps key) (h 0 (omega arith)) ∙ find-none ps key (λ j b. h (suc j) (omega arith))

find-at : (ps : List OwnProperty) (key : PropKey) (i : ℕ) → i < length ps → same_key (property_at ps i).key key ≡ true → ((j : ℕ) → j < i → same_key (property_at ps j).key key ≡ false) → find_property ps key ≡ Some (property_at ps i).complete
find-at [] key i b h f = absurd (omega arith)
find-at (p ∷ ps) key zero b h f = ap (λ b. if b then Some p.complete else find_property ps key) h
find-at (p ∷ ps) key (suc i) b h f =
    ap (λ b. if b then Some p.complete else find_property ps key) (f 0 (omega arith)) ∙ find-at ps key i (omega arith) h (λ j b. f (suc j) (omega arith))

pub find-place : (ps : List OwnProperty) (key : PropKey) (i : ℕ) → IsPlace ps key i → find_property ps key ≡ Some (property_at ps i).complete
find-place ps key i h = find-at ps key i h.within h.here h.first

replace-at : (ps : List OwnProperty) (key : PropKey) (c : Complete) (i : ℕ) → i < length ps → same_key (property_at ps i).key key ≡ true → ((j : ℕ) → j < i → same_key (property_at ps j).key key ≡ false) → replace_property ps key c ≡ set ps i (record { key = (property_at ps i).key; complete = c })
replace-at [] key c i b h f = absurd (omega arith)
replace-at (p ∷ ps) key c zero b h f = ap (λ b. if b then record { key = p.key; complete = c } ∷ ps else p ∷ replace_property ps key c) h
replace-at (p ∷ ps) key c (suc i) b h f =
    ap (λ b. if b then record { key = p.key; complete = c } ∷ ps else p ∷ replace_property ps key c) (f 0 (omega arith)) ∙ ap (λ qs. p ∷ qs) (replace-at ps key c i (omega arith) h (λ j b. f (suc j) (omega arith)))

pub replace-place : (ps : List OwnProperty) (key : PropKey) (c : Complete) (i : ℕ) → IsPlace ps key i → replace_property ps key c ≡ set ps i (record { key = (property_at ps i).key; complete = c })
replace-place ps key c i h = replace-at ps key c i h.within h.here h.first
