-- The Boolean constructor and the functions of its prototype (ECMA-262, 20.3).
use Rattle.std.specs.Prelude.{ℕ, Bool, true, false, List, codes}
use Rattle.property_keys.specs.declared.identifiers.ObjectId.{ObjectId}
use Rattle.property_keys.specs.declared.values.Value.{Value}
use Rattle.property_keys.specs.declared.values.Value.TheVariants as value
use Rattle.es_model.specs.declared.intrinsics.Class.TheVariants as class
use Rattle.es_model.specs.Program.{Program, look}
use Rattle.es_model.specs.programs.Testing.{is_truth}
use Rattle.core_builtins.specs.Answers.{first_of, gives, gives_text, inner_value, wrong_value}
use Rattle.core_builtins.specs.Constructed.{create_wrapper}

-- ---- Boolean ( value ) (20.3.1.1): steps 1 and 2 of a call, and steps 3 to 5 of a construction

abbrev pub boolean_called : List Value → Program
boolean_called arguments = look (λ l. gives (value.Bool (is_truth l (first_of arguments))))

abbrev pub boolean_constructed : List Value → ObjectId → Program
boolean_constructed arguments target = look (λ l. create_wrapper class.Boolean (value.Bool (is_truth l (first_of arguments))) target)

-- ---- ThisBooleanValue (20.3.3.3.1)

abbrev pub with_boolean : (Bool → Program) → Value → Program
with_boolean next (value.Bool b) = next b
with_boolean next other = wrong_value

abbrev pub this_boolean : Value → (Bool → Program) → Program
this_boolean this next = look (λ l. with_boolean next (inner_value l this))

-- ---- Boolean.prototype.toString (20.3.3.2)

abbrev pub truth_text : Bool → List ℕ
truth_text true = codes "true"
truth_text false = codes "false"

abbrev pub boolean_text : Bool → Program
boolean_text b = gives_text (truth_text b)

abbrev pub boolean_to_string : Value → Program
boolean_to_string this = this_boolean this boolean_text

-- ---- Boolean.prototype.valueOf (20.3.3.3)

abbrev pub gives_boolean : Bool → Program
gives_boolean b = gives (value.Bool b)

abbrev pub boolean_value_of : Value → Program
boolean_value_of this = this_boolean this gives_boolean
