-- What storing a value leaves of each object.
use Rattle.std.proofs.Common.{◌≡◌, true, false, cond, Option, Some, None, List, [], ◌∷◌, map, refl, sym, ap}
use Rattle.std.proofs.Math.Seq.{map-set_same}
use Rattle.property_keys.specs.declared.identifiers.ObjectId.{ObjectId}
use Rattle.property_keys.specs.declared.keys.PropKey.{PropKey}
use Rattle.property_keys.specs.declared.keys.Attributes.{Attributes}
use Rattle.property_keys.specs.declared.values.Value.{Value}
use Rattle.property_keys.specs.Values.{same_value}
use Rattle.descriptors.specs.declared.property.Complete.{Complete}
use Rattle.descriptors.specs.declared.property.Complete.TheVariants as complete
use Rattle.es_model.specs.declared.owned.OwnProperty.{OwnProperty}
use Rattle.es_model.specs.Changes.{changed, replaced, stored_at}
use Rattle.es_model.specs.Objects.{Object, find_property, no_object, object_at, replace_property, same_key, with_properties}
use Rattle.es_model.specs.World.{World, own}
use Rattle.small_changes.specs.Laws.{StoringKeepsOutlines, outline, outlined, without_value}

abbrev without_value_in : Complete → Option Complete → Complete
without_value_in other None = other
without_value_in other (Some c) = without_value c

-- a property is replaced by one with its flags
outlined-replaced : (ps : List OwnProperty) (k : PropKey) (x v : Value) (flags : Attributes) → find_property ps k ≡ Some (complete.Stored x flags) → map outlined (replace_property ps k (complete.Stored v flags)) ≡ map outlined ps
outlined-replaced [] k x v flags e = refl
outlined-replaced (p ∷ ps) k x v flags e =
    elim (same_key p.key k) as (λ b. cond b (Some p.complete) (find_property ps k) ≡ Some (complete.Stored x flags) → map outlined (cond b (record { key = p.key; complete = complete.Stored v flags } ∷ ps) (p ∷ replace_property ps k (complete.Stored v flags))) ≡ map outlined (p ∷ ps)) [
      | true ↦ λ h. ap (λ (c : Complete). record { key = p.key; complete = c } ∷ map outlined ps) (sym (ap (without_value_in p.complete) h))
      | false ↦ λ h. ap (λ (qs : List OwnProperty). outlined p ∷ qs) (outlined-replaced ps k x v flags h)
    ] e

outlines-stored : (w : World) (o : ObjectId) (k : PropKey) (v : Value) (found : Option Complete) → own w.lists o k ≡ found → map outline (stored_at w o k v found).lists.objects ≡ map outline w.lists.objects
unfolding replaced
outlines-stored w o k v None e = refl
outlines-stored w o k v (Some (complete.Accessor get set enumerable configurable)) e = refl
outlines-stored w o k v (Some (complete.Stored x flags)) e =
    let before : Object = object_at w.lists.objects o in
    elim (same_value v x) as (λ b. map outline (cond b w (replaced w o k (complete.Stored x flags) (complete.Stored v flags))).lists.objects ≡ map outline w.lists.objects) [
      | true ↦ refl
      | false ↦ map-set_same outline w.lists.objects o.0 (with_properties before (replace_property before.properties k (complete.Stored v flags))) no_object (ap (λ (ps : List OwnProperty). record before { properties = ps }) (outlined-replaced before.properties k x v flags e))
    ]

pub outlines-kept : StoringKeepsOutlines
unfolding changed
outlines-kept w o k v = outlines-stored w o k v (own w.lists o k) refl
