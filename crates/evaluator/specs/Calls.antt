-- Calls and `new` (ECMA-262, 13.3.5, 13.3.6): the function and its receiver, then the arguments from the left, and then the call.
use Rattle.std.specs.Prelude.{Option, Some, List, [], ◌∷◌, ◌++◌}
use Rattle.property_keys.specs.declared.values.Value.{Value}
use Rattle.property_keys.specs.declared.values.Value.TheVariants as value
use Rattle.es_tree.specs.declared.expressions.Access.TheVariants as access
use Rattle.es_tree.specs.declared.node.Node.{Node}
use Rattle.es_tree.specs.declared.node.Node.TheVariants as node
use Rattle.es_tree.specs.declared.numbers.NodeId.{NodeId}
use Rattle.es_model.specs.declared.requests.Request.TheVariants.{Call, Construct}
use Rattle.es_model.specs.Completions.{Completion}
use Rattle.es_model.specs.Program.{Program, charge, ask}
use Rattle.es_model.specs.programs.Abrupt.{then_value}
use Rattle.es_model.specs.programs.Errors.{not_a_constructor}
use Rattle.evaluator.specs.declared.references.Invocation.{Invocation}
use Rattle.evaluator.specs.declared.references.Invocation.TheVariants as invocation
use Rattle.evaluator.specs.declared.references.Reference.{Reference}
use Rattle.evaluator.specs.Contexts.{Context, evaluate, given, node_at}
use Rattle.evaluator.specs.Accesses.{access_reference}
use Rattle.evaluator.specs.References.{base_of, get_value}

-- ---- EvaluateCall (13.3.6.2, steps 4 to 7) and EvaluateNew (13.3.5.1.1, steps 6 and 7), once the arguments have their values

abbrev pub construct : Value → List Value → Program
construct (value.Object f) vs = ask (Construct f vs f) given
construct other vs = not_a_constructor

abbrev pub invoke : Invocation → List Value → Program
invoke (invocation.Call f this) vs = ask (Call f this vs) given
invoke (invocation.Construct f) vs = construct f vs

-- ---- ArgumentListEvaluation (13.3.8.1)

abbrev pub arguments_in : Option Node → List NodeId
arguments_in (Some (node.Access (access.Call callee arguments))) = arguments
arguments_in (Some (node.Access (access.New callee arguments))) = arguments
arguments_in other = []

-- the arguments of a node
abbrev pub arguments_at : Context → NodeId → List NodeId
arguments_at here n = arguments_in (node_at here n)

-- these arguments, where those before them have these values
abbrev pub arguments_from : Context → Invocation → List NodeId → List Value → Program
arguments_from here i [] vs = invoke i vs
arguments_from here i (n ∷ ns) vs = evaluate here n (λ c. then_value (λ v. arguments_from here i ns (vs ++ v ∷ [])) c)

-- an argument has its value, and these are left
abbrev pub argument_valued : Context → Invocation → List NodeId → List Value → Completion → Program
argument_valued here i ns vs c = then_value (λ v. arguments_from here i ns (vs ++ v ∷ [])) c

-- ---- calls (13.3.6.1)

-- the function has its value. The call is node n
abbrev pub callee_valued : Context → NodeId → Value → Completion → Program
callee_valued here n this c = then_value (λ f. arguments_from here (invocation.Call f this) (arguments_at here n) []) c

abbrev pub callee_reference : Context → NodeId → Reference → Program
callee_reference here n r = get_value here r (callee_valued here n (base_of r))

-- A member access as the function is evaluated to a reference, with its turn. The function of another kind has no receiver: a name of the global object gives
-- none (9.1.1.4.10)
abbrev pub call_of : Context → NodeId → (callee : NodeId) → Option Node → Program
call_of here n callee (Some (node.Access (access.Member base name read write))) =
    charge 1 (access_reference here (access.Member base name read write) (callee_reference here n))
call_of here n callee (Some (node.Access (access.Index base key read write))) =
    charge 1 (access_reference here (access.Index base key read write) (callee_reference here n))
call_of here n callee other = evaluate here callee (callee_valued here n value.Undefined)

abbrev pub call_expression : Context → NodeId → (callee : NodeId) → Program
call_expression here n callee = call_of here n callee (node_at here callee)

-- ---- new (13.3.5.1.1)

abbrev pub constructor_valued : Context → NodeId → Completion → Program
constructor_valued here n c = then_value (λ f. arguments_from here (invocation.Construct f) (arguments_at here n) []) c

abbrev pub new_expression : Context → NodeId → (callee : NodeId) → Program
new_expression here n callee = evaluate here callee (constructor_valued here n)
