-- The Function constructor and the functions of its prototype (ECMA-262, 20.2). No function is made of texts: the constructor throws.
use Rattle.std.specs.Prelude.{Bool, if◌then◌else◌, List, [], ◌∷◌}
use Rattle.property_keys.specs.declared.values.Value.{Value}
use Rattle.property_keys.specs.declared.values.Value.TheVariants as value
use Rattle.es_model.specs.declared.requests.Operation.TheVariants as operation
use Rattle.es_model.specs.declared.requests.Request.TheVariants.{Call, Work}
use Rattle.es_model.specs.Completions.{Completion}
use Rattle.es_model.specs.Program.{Program, ask, done, look}
use Rattle.es_model.specs.programs.Abrupt.{then_flag, then_list}
use Rattle.es_model.specs.programs.Errors.{not_a_function}
use Rattle.es_model.specs.programs.Testing.{is_callable}
use Rattle.core_builtins.specs.Answers.{first_of, gives, rest_of, second_of}

-- the function of the receiver was called
abbrev pub called : Completion → Program
called c = done c

-- ---- Function.prototype.call (20.2.3.3)

abbrev pub function_call : Value → List Value → Program
function_call this arguments = look (λ l. if is_callable l this then ask (Call this (first_of arguments) (rest_of arguments)) called else not_a_function)

-- ---- Function.prototype.apply (20.2.3.1)

-- step 6
abbrev pub call_with : Value → Value → List Value → Program
call_with f this vs = ask (Call f this vs) called

-- step 4: the list was asked for
abbrev pub list_given : Value → Value → Completion → Program
list_given f this c = then_list (call_with f this) c

-- steps 3 and 4
abbrev pub apply_with : Value → Value → Value → Program
apply_with f this value.Undefined = call_with f this []
apply_with f this value.Null = call_with f this []
apply_with f this other = ask (Work operation.ListFromArrayLike (other ∷ [])) (list_given f this)

abbrev pub function_apply : Value → List Value → Program
function_apply this arguments = look (λ l. if is_callable l this then apply_with this (first_of arguments) (second_of arguments) else not_a_function)

-- ---- Function.prototype[@@hasInstance] (20.2.3.6)

abbrev pub gives_flag : Bool → Program
gives_flag b = gives (value.Bool b)

-- OrdinaryHasInstance has answered
abbrev pub instance_given : Completion → Program
instance_given c = then_flag gives_flag c

abbrev pub function_has_instance : Value → List Value → Program
function_has_instance this arguments = ask (Work operation.OrdinaryHasInstance (this ∷ first_of arguments ∷ [])) instance_given
