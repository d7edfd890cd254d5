-- From descriptors to whole properties, and back.
use Rattle.std.specs.Prelude.{Bool, false, Option, Some, None, unwrap_or, if◌then◌else◌}
use Rattle.property_keys.specs.declared.values.Value.{Value}
use Rattle.property_keys.specs.declared.values.Value.TheVariants as value
use Rattle.property_keys.specs.declared.identifiers.ObjectId.{ObjectId}
use Rattle.property_keys.specs.declared.keys.Attributes.{Attributes}
use Rattle.descriptors.specs.declared.fields.Descriptor.{Descriptor}
use Rattle.descriptors.specs.declared.property.Complete.{Complete}
use Rattle.descriptors.specs.declared.property.Complete.TheVariants as complete
use Rattle.descriptors.specs.Kinds.{is_accessor_descriptor}

-- the wanted getter or setter, of which undefined is none; where none is wanted, the given one
abbrev pub function_or : Option Value → Option ObjectId → Option ObjectId
function_or None given = given
function_or (Some (value.Object id)) given = Some id
function_or (Some other) given = None

-- a data property: each field is the wanted one, or else the given one
abbrev pub stored_or : Descriptor → Value → Attributes → Complete
stored_or wanted value given = complete.Stored (unwrap_or wanted.value value) (record {
  writable = unwrap_or wanted.writable given.writable;
  enumerable = unwrap_or wanted.enumerable given.enumerable;
  configurable = unwrap_or wanted.configurable given.configurable;
})

-- an accessor property: each field is the wanted one, or else the given one
abbrev pub accessor_or : Descriptor → Option ObjectId → Option ObjectId → Bool → Bool → Complete
accessor_or wanted get set enumerable configurable = complete.Accessor
    (function_or wanted.get get)
    (function_or wanted.set set)
    (unwrap_or wanted.enumerable enumerable)
    (unwrap_or wanted.configurable configurable)

-- CompletePropertyDescriptor (ECMA-262, 6.2.6.6): a field that is not there becomes undefined or false
abbrev pub completed : Descriptor → Complete
completed wanted =
    if is_accessor_descriptor wanted
    then accessor_or wanted None None false false
    else stored_or wanted value.Undefined (record { writable = false; enumerable = false; configurable = false })

-- a getter or setter as a value: undefined where there is none
abbrev pub value_of_function : Option ObjectId → Value
value_of_function None = value.Undefined
value_of_function (Some id) = value.Object id

-- the descriptor of a property (10.1.5.1): every field of its kind, and no other
abbrev pub fields_of : Complete → Descriptor
fields_of (complete.Stored value attributes) = record {
  value = Some value;
  writable = Some attributes.writable;
  get = None;
  set = None;
  enumerable = Some attributes.enumerable;
  configurable = Some attributes.configurable;
}
fields_of (complete.Accessor get set enumerable configurable) = record {
  value = None;
  writable = None;
  get = Some (value_of_function get);
  set = Some (value_of_function set);
  enumerable = Some enumerable;
  configurable = Some configurable;
}
