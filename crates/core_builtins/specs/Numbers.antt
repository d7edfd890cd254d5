-- The Number constructor and the functions of its prototype (ECMA-262, 21.1). Every number is whole.
use Rattle.std.specs.Prelude.{ℤ, pos, Option, Some, None, List}
use Rattle.property_keys.specs.declared.identifiers.ObjectId.{ObjectId}
use Rattle.property_keys.specs.declared.values.Value.{Value}
use Rattle.property_keys.specs.declared.values.Value.TheVariants as value
use Rattle.es_model.specs.declared.intrinsics.Class.TheVariants as class
use Rattle.es_model.specs.Completions.{Completion}
use Rattle.es_model.specs.Program.{Program, look}
use Rattle.es_model.specs.programs.Converting.{then_whole, to_number}
use Rattle.core_builtins.specs.Answers.{first_given, gives, inner_value, wrong_value}
use Rattle.core_builtins.specs.Constructed.{create_wrapper}

-- ---- Number ( value ) (21.1.1.1)

abbrev pub gives_number : ℤ → Program
gives_number n = gives (value.Whole n)

-- steps 1.a and 3, of a call
abbrev pub number_given : Completion → Program
number_given c = then_whole gives_number c

abbrev pub number_called_by : Option Value → Program
number_called_by None = gives_number (pos 0)
number_called_by (Some v) = to_number v number_given

abbrev pub number_called : List Value → Program
number_called arguments = number_called_by (first_given arguments)

-- steps 4 to 6, of a construction
abbrev pub wrap_number : ObjectId → ℤ → Program
wrap_number target n = create_wrapper class.Number (value.Whole n) target

abbrev pub number_to_wrap : ObjectId → Completion → Program
number_to_wrap target c = then_whole (wrap_number target) c

abbrev pub number_constructed_by : ObjectId → Option Value → Program
number_constructed_by target None = wrap_number target (pos 0)
number_constructed_by target (Some v) = to_number v (number_to_wrap target)

abbrev pub number_constructed : List Value → ObjectId → Program
number_constructed arguments target = number_constructed_by target (first_given arguments)

-- ---- ThisNumberValue (21.1.3.7.1)

abbrev pub with_number : (ℤ → Program) → Value → Program
with_number next (value.Whole n) = next n
with_number next other = wrong_value

abbrev pub this_number : Value → (ℤ → Program) → Program
this_number this next = look (λ l. with_number next (inner_value l this))

-- ---- Number.prototype.valueOf (21.1.3.7)

abbrev pub number_value_of : Value → Program
number_value_of this = this_number this gives_number
