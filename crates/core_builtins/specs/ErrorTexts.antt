-- Error.prototype.toString (ECMA-262, 20.5.3.4).
use Rattle.std.specs.Prelude.{Bool, true, false, Option, Some, None, [], codes}
use Rattle.property_keys.specs.declared.identifiers.ObjectId.{ObjectId}
use Rattle.property_keys.specs.declared.identifiers.TextId.{TextId}
use Rattle.property_keys.specs.declared.values.Value.{Value}
use Rattle.property_keys.specs.declared.values.Value.TheVariants as value
use Rattle.es_model.specs.Completions.{Completion}
use Rattle.es_model.specs.Program.{Program, intern, look}
use Rattle.es_model.specs.programs.Abrupt.{then_value}
use Rattle.es_model.specs.programs.Converting.{not_an_object}
use Rattle.es_model.specs.programs.Methods.{get_named}
use Rattle.es_model.specs.programs.Testing.{as_object, is_truth}
use Rattle.es_model.specs.programs.Texts.{then_text, to_string}
use Rattle.core_builtins.specs.Answers.{gives, three_joined}

-- step 9
abbrev pub with_colon : TextId → TextId → Program
with_colon name message = intern (codes ": ") (λ colon. three_joined name colon message)

-- steps 7 and 8: the first flag says that the name has code units, the second that the message has some
abbrev pub shown_by : Bool → Bool → TextId → TextId → Program
shown_by false named name message = gives (value.Text message)
shown_by true false name message = gives (value.Text name)
shown_by true true name message = with_colon name message

abbrev pub shown : TextId → TextId → Program
shown name message = look (λ l. shown_by (is_truth l (value.Text name)) (is_truth l (value.Text message)) name message)

-- step 6
abbrev pub message_text_given : TextId → Completion → Program
message_text_given name c = then_text (shown name) c

abbrev pub with_message_text : TextId → Value → Program
with_message_text name value.Undefined = intern [] (shown name)
with_message_text name message = to_string message (message_text_given name)

-- step 5
abbrev pub message_got : TextId → Completion → Program
message_got name c = then_value (with_message_text name) c

abbrev pub message_asked : ObjectId → TextId → Program
message_asked o name = get_named o (codes "message") (message_got name)

-- step 4
abbrev pub name_text_given : ObjectId → Completion → Program
name_text_given o c = then_text (message_asked o) c

abbrev pub with_name_text : ObjectId → Value → Program
with_name_text o value.Undefined = intern (codes "Error") (message_asked o)
with_name_text o name = to_string name (name_text_given o)

-- step 3
abbrev pub name_got : ObjectId → Completion → Program
name_got o c = then_value (with_name_text o) c

-- steps 1 and 2
abbrev pub text_of_error : Option ObjectId → Program
text_of_error (Some o) = get_named o (codes "name") (name_got o)
text_of_error None = not_an_object

abbrev pub error_to_string : Value → Program
error_to_string this = text_of_error (as_object this)
