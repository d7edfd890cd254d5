-- ValidateAndApplyPropertyDescriptor (ECMA-262, 10.1.6.3).
use Rattle.std.specs.Prelude.{◌≡◌, IsTrue, IsFalse, Bool, true, false, not, ◌&&◌, ◌||◌, Option, Some, None, unwrap_or, if◌then◌else◌}
use Rattle.std.specs.Bool.{beq}
use Rattle.property_keys.specs.declared.values.Value.TheVariants as value
use Rattle.descriptors.specs.declared.fields.Descriptor.{Descriptor}
use Rattle.descriptors.specs.declared.property.Complete.{Complete}
use Rattle.descriptors.specs.declared.property.Complete.TheVariants as complete
use Rattle.descriptors.specs.declared.validation.Verdict.{Verdict}
use Rattle.descriptors.specs.declared.validation.Verdict.TheVariants as verdict
use Rattle.property_keys.specs.Values.{same_value}
use Rattle.descriptors.specs.Sameness.{differs, stands}
use Rattle.descriptors.specs.Kinds.{is_accessor_descriptor, is_data_descriptor, is_without_fields}
use Rattle.descriptors.specs.Completion.{value_of_function, stored_or, accessor_or, completed, fields_of}

abbrev pub is_enumerable : Complete → Bool
is_enumerable (complete.Stored value attributes) = attributes.enumerable
is_enumerable (complete.Accessor get set enumerable configurable) = enumerable

abbrev pub is_configurable : Complete → Bool
is_configurable (complete.Stored value attributes) = attributes.configurable
is_configurable (complete.Accessor get set enumerable configurable) = configurable

-- ---- the refusals of a property that is not configurable (step 5)

abbrev pub raises_configurable : Descriptor → Bool
raises_configurable wanted = unwrap_or wanted.configurable false

abbrev pub changes_enumerable : Descriptor → Complete → Bool
changes_enumerable wanted current = differs beq wanted.enumerable (is_enumerable current)

-- a generic descriptor is of neither kind, and so never of the other one
abbrev pub changes_kind : Descriptor → Complete → Bool
changes_kind wanted (complete.Stored value attributes) = is_accessor_descriptor wanted
changes_kind wanted (complete.Accessor get set enumerable configurable) = is_data_descriptor wanted

abbrev pub changes_function : Descriptor → Complete → Bool
changes_function wanted (complete.Stored value attributes) = false
changes_function wanted (complete.Accessor get set enumerable configurable) =
    differs same_value wanted.get (value_of_function get) || differs same_value wanted.set (value_of_function set)

abbrev pub raises_writable : Descriptor → Complete → Bool
raises_writable wanted (complete.Stored value attributes) = not attributes.writable && unwrap_or wanted.writable false
raises_writable wanted (complete.Accessor get set enumerable configurable) = false

abbrev pub changes_fixed_value : Descriptor → Complete → Bool
changes_fixed_value wanted (complete.Stored value attributes) = not attributes.writable && differs same_value wanted.value value
changes_fixed_value wanted (complete.Accessor get set enumerable configurable) = false

abbrev pub is_refused : Descriptor → Complete → Bool
is_refused wanted current = not (is_configurable current)
    && (raises_configurable wanted
    || changes_enumerable wanted current
    || changes_kind wanted current
    || changes_function wanted current
    || raises_writable wanted current
    || changes_fixed_value wanted current)

-- ---- the property that the descriptor makes of the one that stands there (step 6)

-- where the kind stays, each wanted field replaces; else a field of the new kind is the wanted one, or undefined or false,
-- and enumerable and configurable are the wanted ones or stay
abbrev pub applied : Descriptor → Complete → Complete
applied wanted (complete.Stored value attributes) =
    if is_accessor_descriptor wanted
    then accessor_or wanted None None attributes.enumerable attributes.configurable
    else stored_or wanted value attributes
applied wanted (complete.Accessor get set enumerable configurable) =
    if is_data_descriptor wanted
    then stored_or wanted value.Undefined (record { writable = false; enumerable = enumerable; configurable = configurable })
    else accessor_or wanted get set enumerable configurable

-- nothing would change: each wanted field stands there with the same value
abbrev pub changes_nothing : Descriptor → Complete → Bool
changes_nothing wanted current =
    let here = fields_of current in
    stands same_value wanted.value here.value
    && stands beq wanted.writable here.writable
    && stands same_value wanted.get here.get
    && stands same_value wanted.set here.set
    && stands beq wanted.enumerable here.enumerable
    && stands beq wanted.configurable here.configurable

-- ---- the verdict

-- on a property that stands there, in the order of the steps
abbrev pub change_of : Descriptor → Complete → Verdict
change_of wanted current =
    if is_without_fields wanted then verdict.Keep else
    if is_refused wanted current then verdict.Refuse else
    if changes_nothing wanted current then verdict.Keep else
    verdict.Apply (applied wanted current)

-- where none stands there, all depends on whether the object is extensible
abbrev pub verdict_of : Bool → Descriptor → Option Complete → Verdict
verdict_of extensible wanted None = if extensible then verdict.Apply (completed wanted) else verdict.Refuse
verdict_of extensible wanted (Some current) = change_of wanted current

-- the property may be defined so
abbrev pub is_allowed : Verdict → Bool
is_allowed verdict.Refuse = false
is_allowed verdict.Keep = true
is_allowed (verdict.Apply property) = true

-- ---- how a property that is not configurable may change (6.1.7.3)

-- a writable data property gets another value or is no longer writable; nothing else changes
abbrev pub IsFixedStep : Complete → Complete → Type 0
IsFixedStep (complete.Stored before old) (complete.Stored after new) =
    IsTrue old.writable × IsFalse new.configurable × (new.enumerable ≡ old.enumerable)
IsFixedStep before after = ⊥
