-- The constructors of errors (ECMA-262, 20.5.1.1, 20.5.6.1.1), which make the same called and constructed.
use Rattle.std.specs.Prelude.{Bool, if◌then◌else◌, Option, Some, None, List, codes}
use Rattle.property_keys.specs.declared.identifiers.ObjectId.{ObjectId}
use Rattle.property_keys.specs.declared.identifiers.TextId.{TextId}
use Rattle.property_keys.specs.declared.values.Value.{Value}
use Rattle.property_keys.specs.declared.values.Value.TheVariants as value
use Rattle.es_model.specs.declared.intrinsics.Class.TheVariants as class
use Rattle.es_model.specs.declared.kinds.ErrorKind.{ErrorKind}
use Rattle.es_model.specs.declared.kinds.ObjectKind.TheVariants as kind_of
use Rattle.es_model.specs.Completions.{Completion}
use Rattle.es_model.specs.Events.{OfError}
use Rattle.es_model.specs.Program.{Program, done, make}
use Rattle.es_model.specs.programs.Abrupt.{then_flag, then_value}
use Rattle.es_model.specs.programs.Methods.{get_named, has_named}
use Rattle.es_model.specs.programs.Testing.{as_object}
use Rattle.es_model.specs.programs.Texts.{then_text, to_string}
use Rattle.function_objects.specs.Constructing.{prototype_given}
use Rattle.core_builtins.specs.Answers.{first_of, gives, second_of}
use Rattle.core_builtins.specs.Constructed.{put_named}

-- ---- InstallErrorCause (20.5.8.1), and step 5

abbrev pub cause_put : ObjectId → Value → Program
cause_put e v = put_named e (codes "cause") v (gives (value.Object e))

-- step 1.a
abbrev pub cause_given : ObjectId → Completion → Program
cause_given e c = then_value (cause_put e) c

abbrev pub cause_is_there : ObjectId → ObjectId → Bool → Program
cause_is_there e options b = if b then get_named options (codes "cause") (cause_given e) else gives (value.Object e)

-- step 1
abbrev pub cause_had : ObjectId → ObjectId → Completion → Program
cause_had e options c = then_flag (cause_is_there e options) c

abbrev pub cause_by : ObjectId → Option ObjectId → Program
cause_by e (Some options) = has_named options (codes "cause") (cause_had e options)
cause_by e None = gives (value.Object e)

-- step 4
abbrev pub install_cause : ObjectId → Value → Program
install_cause e options = cause_by e (as_object options)

-- ---- step 3: the message, where one is given

abbrev pub message_put : ObjectId → Value → TextId → Program
message_put e options t = put_named e (codes "message") (value.Text t) (install_cause e options)

abbrev pub message_given : ObjectId → Value → Completion → Program
message_given e options c = then_text (message_put e options) c

abbrev pub with_message : ObjectId → Value → Value → Program
with_message e value.Undefined options = install_cause e options
with_message e message options = to_string message (message_given e options)

-- ---- steps 1 and 2. The target is the active function where it is called

abbrev pub error_made : Value → Value → ObjectId → Program
error_made message options p = make kind_of.Error OfError (Some p) (λ e. with_message e message options)

-- the value under "prototype" was asked for (10.1.14, step 2)
abbrev pub error_given : ErrorKind → ObjectId → Value → Value → Completion → Program
error_given kind target message options c = prototype_given (class.Error kind) target (error_made message options) done c

abbrev pub error_constructed : ErrorKind → List Value → ObjectId → Program
error_constructed kind arguments target = get_named target (codes "prototype") (error_given kind target (first_of arguments) (second_of arguments))
