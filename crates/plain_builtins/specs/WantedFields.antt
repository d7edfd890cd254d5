-- ToPropertyDescriptor (ECMA-262, 6.2.6.5).
use Rattle.std.specs.Prelude.{ℕ, Bool, true, false, if◌then◌else◌, Option, Some, None, List, [], ◌∷◌, codes}
use Rattle.property_keys.specs.declared.identifiers.ObjectId.{ObjectId}
use Rattle.property_keys.specs.declared.values.Value.{Value}
use Rattle.property_keys.specs.declared.values.Value.TheVariants as value
use Rattle.descriptors.specs.declared.fields.Descriptor.{Descriptor}
use Rattle.descriptors.specs.Kinds.{is_of_both_kinds}
use Rattle.es_model.specs.declared.answers.Reply.TheVariants as reply
use Rattle.es_model.specs.declared.kinds.ErrorKind.TheVariants as error
use Rattle.es_model.specs.Completions.{Completion, Normal}
use Rattle.es_model.specs.World.{Lists}
use Rattle.es_model.specs.Program.{Program, done, look}
use Rattle.es_model.specs.programs.Abrupt.{then_flag, then_value}
use Rattle.es_model.specs.programs.Converting.{not_an_object}
use Rattle.es_model.specs.programs.Errors.{throw_error, not_a_function}
use Rattle.es_model.specs.programs.Methods.{get_named, has_named}
use Rattle.es_model.specs.programs.Testing.{as_object, is_callable, is_truth}
use Rattle.plain_builtins.specs.declared.words.Field.{Field}
use Rattle.plain_builtins.specs.declared.words.Field.TheVariants.{Enumerable, Configurable, Value as ValueField, Writable, Get, Set}

abbrev pub field_name : Field → List ℕ
field_name Enumerable = codes "enumerable"
field_name Configurable = codes "configurable"
field_name ValueField = codes "value"
field_name Writable = codes "writable"
field_name Get = codes "get"
field_name Set = codes "set"

-- the fields that are asked for after one, in their order
abbrev pub fields_after : Field → List Field
fields_after Enumerable = Configurable ∷ ValueField ∷ Writable ∷ Get ∷ Set ∷ []
fields_after Configurable = ValueField ∷ Writable ∷ Get ∷ Set ∷ []
fields_after ValueField = Writable ∷ Get ∷ Set ∷ []
fields_after Writable = Get ∷ Set ∷ []
fields_after Get = Set ∷ []
fields_after Set = []

abbrev pub no_fields : Descriptor
no_fields = record { value = None; writable = None; get = None; set = None; enumerable = None; configurable = None }

-- steps 15 and 16
abbrev pub wanted_done : Descriptor → Program
wanted_done d = if is_of_both_kinds d then throw_error error.TypeError (codes "bad descriptor") else done (Normal (reply.Wanted d))

-- a getter or setter is undefined or can be called
abbrev pub is_accessor_value : Lists → Value → Bool
is_accessor_value l value.Undefined = true
is_accessor_value l (value.Object o) = is_callable l (value.Object o)
is_accessor_value l other = false

-- the descriptor with one field more, which was given
abbrev pub field_put : (Descriptor → Program) → Field → Descriptor → Value → Program
field_put next Enumerable d v = look (λ l. next (record d { enumerable = Some (is_truth l v) }))
field_put next Configurable d v = look (λ l. next (record d { configurable = Some (is_truth l v) }))
field_put next ValueField d v = next (record d { value = Some v })
field_put next Writable d v = look (λ l. next (record d { writable = Some (is_truth l v) }))
field_put next Get d v = look (λ l. if is_accessor_value l v then next (record d { get = Some v }) else not_a_function)
field_put next Set d v = look (λ l. if is_accessor_value l v then next (record d { set = Some v }) else not_a_function)

abbrev pub field_given : (Descriptor → Program) → Field → Descriptor → Completion → Program
field_given next f d c = then_value (field_put next f d) c

abbrev pub field_is_there : (Descriptor → Program) → Field → ObjectId → Descriptor → Bool → Program
field_is_there next f o d b = if b then get_named o (field_name f) (field_given next f d) else next d

-- HasProperty was asked for
abbrev pub field_had : (Descriptor → Program) → Field → ObjectId → Descriptor → Completion → Program
field_had next f o d c = then_flag (field_is_there next f o d) c

-- steps 3 to 14: the fields that are left, with HasProperty and then Get of each
abbrev pub fields_left : List Field → ObjectId → Descriptor → Program
fields_left [] o d = wanted_done d
fields_left (f ∷ fs) o d = has_named o (field_name f) (field_had (fields_left fs o) f o d)

abbrev pub wanted_by : Option ObjectId → Program
wanted_by (Some o) = fields_left (Enumerable ∷ fields_after Enumerable) o no_fields
wanted_by None = not_an_object

abbrev pub to_wanted : Value → Program
to_wanted v = wanted_by (as_object v)
