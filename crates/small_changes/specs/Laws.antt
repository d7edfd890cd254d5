-- A law of the changes: another value leaves all else as it was.
use Rattle.std.specs.Prelude.{◌≡◌, map}
use Rattle.property_keys.specs.declared.identifiers.ObjectId.{ObjectId}
use Rattle.property_keys.specs.declared.keys.PropKey.{PropKey}
use Rattle.property_keys.specs.declared.values.Value.{Value}
use Rattle.property_keys.specs.declared.values.Value.TheVariants as value
use Rattle.descriptors.specs.declared.property.Complete.{Complete}
use Rattle.descriptors.specs.declared.property.Complete.TheVariants as complete
use Rattle.es_model.specs.declared.owned.OwnProperty.{OwnProperty}
use Rattle.es_model.specs.Changes.{Storing, changed}
use Rattle.es_model.specs.Objects.{Object}
use Rattle.es_model.specs.World.{World}

-- a property without its value
abbrev pub without_value : Complete → Complete
without_value (complete.Stored v flags) = complete.Stored value.Undefined flags
without_value (complete.Accessor get set e c) = complete.Accessor get set e c

abbrev pub outlined : OwnProperty → OwnProperty
outlined p = record { key = p.key; complete = without_value p.complete }

-- an object without the values of its properties
abbrev pub outline : Object → Object
outline x = record x { properties = map outlined x.properties }

-- Whatever is stored where: each object keeps its kind, its prototype, its keys in their places, and of each property kind, functions and flags.
abbrev pub StoringKeepsOutlines : Type 0
StoringKeepsOutlines =
    (w : World) (o : ObjectId) (k : PropKey) (v : Value) → map outline (changed (Storing o k v) w).lists.objects ≡ map outline w.lists.objects
