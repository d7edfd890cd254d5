-- The kinds of descriptors (ECMA-262, 6.2.6).
use Rattle.std.specs.Prelude.{Bool, true, false, not, ◌&&◌, ◌||◌, Option, Some, None, is_some, is_none}
use Rattle.property_keys.specs.declared.values.Value.{Value}
use Rattle.property_keys.specs.declared.values.Value.TheVariants as value
use Rattle.descriptors.specs.declared.fields.Descriptor.{Descriptor}

-- IsAccessorDescriptor (6.2.6.1): get or set is there
abbrev pub is_accessor_descriptor : Descriptor → Bool
is_accessor_descriptor wanted = is_some wanted.get || is_some wanted.set

-- IsDataDescriptor (6.2.6.2): value or writable is there
abbrev pub is_data_descriptor : Descriptor → Bool
is_data_descriptor wanted = is_some wanted.value || is_some wanted.writable

-- IsGenericDescriptor (6.2.6.3): it is of neither kind
abbrev pub is_generic_descriptor : Descriptor → Bool
is_generic_descriptor wanted = not (is_accessor_descriptor wanted) && not (is_data_descriptor wanted)

-- it has no field at all
abbrev pub is_without_fields : Descriptor → Bool
is_without_fields wanted = is_generic_descriptor wanted && is_none wanted.enumerable && is_none wanted.configurable

-- it is of both kinds, which no property can be
abbrev pub is_of_both_kinds : Descriptor → Bool
is_of_both_kinds wanted = is_accessor_descriptor wanted && is_data_descriptor wanted

-- a getter or setter, where it is there, is undefined or an object
abbrev pub is_function_field : Option Value → Bool
is_function_field None = true
is_function_field (Some value.Undefined) = true
is_function_field (Some (value.Object id)) = true
is_function_field (Some other) = false

abbrev pub has_functions : Descriptor → Bool
has_functions wanted = is_function_field wanted.get && is_function_field wanted.set

-- its functions are functions, and it is not of both kinds: so is each descriptor that ToPropertyDescriptor gives (6.2.6.5). The definitions here speak of all
abbrev pub is_sound : Descriptor → Bool
is_sound wanted = has_functions wanted && not (is_of_both_kinds wanted)
