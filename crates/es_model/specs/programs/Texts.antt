-- Texts that algorithms make (ECMA-262, 6.1.4), and ToString (7.1.17). What is a Text already asks nothing.
use Rattle.std.specs.Prelude.{ℕ, List, [], ◌∷◌, ◌+◌, ◌++◌, codes, length, nat_le, if◌then◌else◌}
use Rattle.property_keys.specs.declared.identifiers.TextId.{TextId}
use Rattle.property_keys.specs.declared.values.Value.{Value}
use Rattle.property_keys.specs.declared.values.Value.TheVariants as value
use Rattle.property_keys.specs.Limits.{most_units}
use Rattle.es_model.specs.declared.answers.Reply.TheVariants as reply
use Rattle.es_model.specs.declared.kinds.ErrorKind.TheVariants as error
use Rattle.es_model.specs.declared.requests.Operation.TheVariants as operation
use Rattle.es_model.specs.declared.requests.Request.TheVariants.{Work}
use Rattle.es_model.specs.Completions.{Completion, Normal}
use Rattle.es_model.specs.World.{units_of}
use Rattle.es_model.specs.Program.{Program, look, ask, intern}
use Rattle.es_model.specs.programs.Abrupt.{then_value}
use Rattle.es_model.specs.programs.Errors.{throw_error, unfit}

-- where a text would have too many code units
abbrev pub text_too_long : Program
text_too_long = throw_error error.RangeError (codes "text too long")

-- one text after another
abbrev pub join : TextId → TextId → (TextId → Program) → Program
join a b next =
    look (λ l. if nat_le (length (units_of l a) + length (units_of l b)) most_units then intern (units_of l a ++ units_of l b) next else text_too_long)

-- ---- ToString

abbrev pub text : TextId → Completion
text t = Normal (reply.Value (value.Text t))

abbrev pub to_string : Value → (Completion → Program) → Program
to_string (value.Text t) next = next (text t)
to_string other next = ask (Work operation.ToText (other ∷ [])) next

-- a conversion to a text has no other reply
abbrev pub with_text : (TextId → Program) → Value → Program
with_text next (value.Text t) = next t
with_text next other = unfit

abbrev pub then_text : (TextId → Program) → Completion → Program
then_text next c = then_value (with_text next) c
