-- What a mapped index names: its parameter has a value that is there, and so has the property that [[GetOwnProperty]] gives.
use Rattle.std.proofs.Common.{◌≡◌, ◌&&◌, ℕ, zero, suc, Bool, true, false, cond, Option, Some, None, List, [], ◌∷◌, slice_get, unwrap_or, refl, subst}
use Rattle.std.specs.Prelude.{is_none, is_some, not, ◌||◌}
use Rattle.std.specs.List.{AllByRecursion}
use Rattle.property_keys.specs.declared.identifiers.ObjectId.{ObjectId}
use Rattle.property_keys.specs.declared.keys.PropKey.{PropKey}
use Rattle.property_keys.specs.declared.values.Value.{Value}
use Rattle.property_keys.specs.declared.values.Value.TheVariants as value
use Rattle.descriptors.specs.declared.fields.Descriptor.{Descriptor}
use Rattle.descriptors.specs.declared.property.Complete.{Complete}
use Rattle.descriptors.specs.declared.property.Complete.TheVariants.{Stored, Accessor}
use Rattle.descriptors.specs.Kinds.{has_functions, is_accessor_descriptor, is_data_descriptor}
use Rattle.es_model.specs.Known.{IfThere, IsKnown, IsKnownComplete, IsKnownDescriptor, IsObject}
use Rattle.es_model.specs.Sound.{IsSound}
use Rattle.es_model.specs.World.{Lists, World, cell, cell_in, own}
use Rattle.es_model.proofs.SoundReads.{own-known}
use Rattle.arguments_exotic.specs.Arguments.{forbids_writing, mapped, new_arg_desc, own_property, parameter_value, with_parameter}
use Rattle.arguments_exotic.specs.declared.parameter.Parameter.{Parameter}

-- ---- the value of a parameter

cell-known : (l : Lists) (cells : List (Option Value)) (i : ℕ) → AllByRecursion (IfThere (IsKnown l)) cells → IfThere (IsKnown l) (cell_in (slice_get cells i))
cell-known l [] i h = tt
cell-known l (c ∷ cells) zero h = h.0
cell-known l (c ∷ cells) (suc i) h = cell-known l cells i h.1

unwrap-known : (l : Lists) (x : Option Value) → IfThere (IsKnown l) x → IsKnown l (unwrap_or x value.Undefined)
unwrap-known l None h = tt
unwrap-known l (Some v) h = h

pub parameter-known : (w : World) (p : Parameter) → IsSound w → IsKnown w.lists (parameter_value w.lists p)
parameter-known w p s = unwrap-known w.lists (cell w.lists p.cell) (cell-known w.lists w.lists.cells p.cell.0 s.intact.cells)

-- ---- [[GetOwnProperty]]

with_parameter-known : (w : World) (p : Option Parameter) (found : Option Complete) → IsSound w → IfThere (IsKnownComplete w.lists) found → IfThere (IsKnownComplete w.lists) (with_parameter w.lists p found)
with_parameter-known w None found s h = h
with_parameter-known w (Some p) None s h = tt
with_parameter-known w (Some p) (Some (Stored v flags)) s h = parameter-known w p s
with_parameter-known w (Some p) (Some (Accessor get set enumerable configurable)) s h = h

pub own_property-known : (w : World) (o : ObjectId) (k : PropKey) → IsSound w → IsObject w.lists o → IfThere (IsKnownComplete w.lists) (own_property w.lists o k)
own_property-known w o k s there = with_parameter-known w (mapped w.lists o k) (own w.lists o k) s (own-known w o k s there)

-- ---- newArgDesc

-- a descriptor that is of the kind of stored properties has a value more
sound-more : (functions accessor value writable : Bool) → (value || writable) ≡ true → (functions && not (accessor && (value || writable))) ≡ true → (functions && not (accessor && true)) ≡ true
sound-more functions accessor value writable stored e = subst (λ b. (functions && not (accessor && b)) ≡ true) stored e

value-more : (l : Lists) (d : Descriptor) (v : Value) → is_data_descriptor d ≡ true → IsKnownDescriptor l d → IsKnown l v → IsKnownDescriptor l (record d { value = Some v })
value-more l d v stored known h = record {
  value = h;
  get = known.get;
  set = known.set;
  sound = sound-more (has_functions d) (is_accessor_descriptor d) (is_some d.value) (is_some d.writable) stored known.sound;
}

new_arg_desc-cond : (l : Lists) (d : Descriptor) (v : Value) (rest : Bool) (stored : Bool) → is_data_descriptor d ≡ stored → IsKnownDescriptor l d → IsKnown l v →
    IsKnownDescriptor l (cond (stored && rest) (record d { value = Some v }) d)
new_arg_desc-cond l d v true true e known h = value-more l d v e known h
new_arg_desc-cond l d v false true e known h = known
new_arg_desc-cond l d v rest false e known h = known

pub new_arg_desc-known : (w : World) (p : Parameter) (d : Descriptor) → IsSound w → IsKnownDescriptor w.lists d → IsKnownDescriptor w.lists (new_arg_desc w.lists p d)
new_arg_desc-known w p d s known =
    new_arg_desc-cond w.lists d (parameter_value w.lists p) (is_none d.value && forbids_writing d) (is_data_descriptor d) refl known (parameter-known w p s)
