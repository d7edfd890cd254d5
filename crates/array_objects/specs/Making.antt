-- How Array objects are made and filled from their end (ECMA-262, 7.3.5, 7.3.7, 10.4.2.2, 13.2.4.1), and the world after each step.
use Rattle.std.specs.Prelude.{ℕ, suc, pos, true, false, Some, None}
use Rattle.property_keys.specs.declared.identifiers.ObjectId.{ObjectId}
use Rattle.property_keys.specs.declared.keys.PropKey.{PropKey}
use Rattle.property_keys.specs.declared.keys.PropKey.TheVariants.{Index, Name}
use Rattle.property_keys.specs.declared.values.Value.{Value}
use Rattle.property_keys.specs.declared.values.Value.TheVariants as value
use Rattle.descriptors.specs.declared.fields.Descriptor.{Descriptor}
use Rattle.es_model.specs.declared.kinds.ObjectKind.TheVariants as kind_of
use Rattle.es_model.specs.declared.start_texts.StartText.TheVariants as start_text
use Rattle.es_model.specs.Changes.{Change, Defining, Interning, Making, changed}
use Rattle.es_model.specs.Events.{OfArray}
use Rattle.es_model.specs.StartTexts.{units_of_start}
use Rattle.es_model.specs.World.{World, new_object, number_of}
use Rattle.es_model.specs.Program.{Program, intern, define, make}

-- ---- the properties

-- `length` is writable only
abbrev pub length_property : ℕ → Descriptor
length_property n =
    record { value = Some (value.Whole (pos n)); writable = Some true; get = None; set = None; enumerable = Some false; configurable = Some false }

-- CreateDataProperty (7.3.5), step 1
abbrev pub element_property : Value → Descriptor
element_property v = record { value = Some v; writable = Some true; get = None; set = None; enumerable = Some true; configurable = Some true }

-- ---- the steps

-- the key `length`
abbrev pub with_length_key : (PropKey → Program) → Program
with_length_key next = intern (units_of_start start_text.Length) (λ t. next (Name t))

-- ArrayCreate (10.4.2.2) of a length that an Array may have.
-- The text of the key comes first: from the making on there is no other step before the definition of `length`.
abbrev pub array_made : ℕ → ObjectId → (ObjectId → Program) → Program
array_made n prototype next = with_length_key (λ key.
    make kind_of.Array OfArray (Some prototype) (λ a. define a key (length_property n) (λ succeeded. next a)))

-- The length of a new Array is raised (10.4.2.4), which nothing refuses
abbrev pub raise_length : ObjectId → ℕ → Program → Program
raise_length a n next = with_length_key (λ key. define a key (length_property n) (λ succeeded. next))

-- CreateDataPropertyOrThrow (7.3.7) at the length of a new Array, which nothing refuses: its [[DefineOwnProperty]] (10.4.2.1, step 2) defines the element, and
-- then raises the length
abbrev pub append_element : ObjectId → ℕ → Value → Program → Program
append_element a n v next = define a (Index n) (element_property v) (λ succeeded. raise_length a (suc n) next)

-- ---- the world after each of them

abbrev pub length_known : Change
length_known = Interning (units_of_start start_text.Length)

abbrev pub making_array : ObjectId → Change
making_array prototype = Making kind_of.Array OfArray (Some prototype)

abbrev pub defining_length : World → ObjectId → ℕ → Change
defining_length w a n = Defining a (Name (number_of w.lists (units_of_start start_text.Length))) (length_property n)

-- the number of the next Array
abbrev pub new_array : World → ObjectId
new_array w = new_object (changed length_known w).lists

unfoldable pub made_world : ℕ → ObjectId → World → World
made_world n prototype w = changed (defining_length w (new_array w) n) (changed (making_array prototype) (changed length_known w))

unfoldable pub raised_world : ObjectId → ℕ → World → World
raised_world a n w = changed (defining_length w a n) (changed length_known w)

unfoldable pub appended_world : ObjectId → ℕ → Value → World → World
appended_world a n v w = raised_world a (suc n) (changed (Defining a (Index n) (element_property v)) w)
