-- Calls and `new` keep within their budgets.
use Rattle.std.proofs.Common.{ℕ, ◌≤◌, ◌++◌, Option, Some, None, List, [], ◌∷◌, arith}
use Rattle.property_keys.specs.declared.values.Value.{Value}
use Rattle.property_keys.specs.declared.values.Value.TheVariants as value
use Rattle.es_tree.specs.declared.expressions.Access.TheVariants as access
use Rattle.es_tree.specs.declared.node.Node.{Node}
use Rattle.es_tree.specs.declared.node.Node.TheVariants as node
use Rattle.es_tree.specs.declared.numbers.NodeId.{NodeId}
use Rattle.es_model.specs.declared.kinds.ErrorKind.TheVariants as error
use Rattle.evaluator.specs.declared.references.Invocation.{Invocation}
use Rattle.evaluator.specs.declared.references.Invocation.TheVariants as invocation
use Rattle.evaluator.specs.declared.references.Reference.{Reference}
use Rattle.evaluator.specs.Calls.{argument_valued, arguments_at, arguments_from, call_expression, call_of, callee_reference, callee_valued, construct, constructor_valued, invoke, new_expression}
use Rattle.evaluator.specs.Contexts.{Context, node_at}
use Rattle.evaluator.specs.References.{base_of}
use Rattle.evaluator.proofs.AccessesWithin.{access_reference-within, given-within}
use Rattle.evaluator.proofs.ReferencesWithin.{get_value-within}
use Rattle.evaluator.proofs.WordsWithin.{On, Within, asked-within, charged-within, error_thrown, evaluated-within, value-within}

construct-within : (r b : ℕ) (f : Value) (vs : List Value) → 1 ≤ b → Within r b (construct f vs)
construct-within r b (value.Object f) vs some = asked-within _ _ 0 _ _ some (given-within r 0)
construct-within r b value.Undefined vs some = error_thrown _ _ error.TypeError _
construct-within r b value.Null vs some = error_thrown _ _ error.TypeError _
construct-within r b (value.Bool x) vs some = error_thrown _ _ error.TypeError _
construct-within r b (value.Whole n) vs some = error_thrown _ _ error.TypeError _
construct-within r b (value.Text t) vs some = error_thrown _ _ error.TypeError _
construct-within r b (value.Symbol s) vs some = error_thrown _ _ error.TypeError _

invoke-within : (r b : ℕ) (i : Invocation) (vs : List Value) → 1 ≤ b → Within r b (invoke i vs)
invoke-within r b (invocation.Call f this) vs some = asked-within _ _ 0 _ _ some (given-within r 0)
invoke-within r b (invocation.Construct f) vs some = construct-within r b f vs some

pub arguments-within : (r b : ℕ) (here : Context) (i : Invocation) (ns : List NodeId) (vs : List Value) → 1 ≤ b → 1 ≤ r → Within r b (arguments_from here i ns vs)
arguments-within r b here i [] vs some enough = invoke-within r b i vs some
arguments-within r b here i (n ∷ ns) vs some enough =
    evaluated-within r b here None n _ some (λ c. value-within r r (λ v. arguments_from here i ns (vs ++ v ∷ [])) c (λ v. arguments-within r r here i ns (vs ++ v ∷ []) enough enough))

pub argument_valued-within : (r b : ℕ) (here : Context) (i : Invocation) (ns : List NodeId) (vs : List Value) → 1 ≤ b → 1 ≤ r → On r b (argument_valued here i ns vs)
argument_valued-within r b here i ns vs some enough = λ c. value-within r b _ c (λ v. arguments-within r b here i ns (vs ++ v ∷ []) some enough)

pub callee_valued-within : (r b : ℕ) (here : Context) (n : NodeId) (this : Value) → 1 ≤ b → 1 ≤ r → On r b (callee_valued here n this)
callee_valued-within r b here n this some enough = λ c. value-within r b _ c (λ f. arguments-within r b here (invocation.Call f this) (arguments_at here n) [] some enough)

pub callee_reference-within : (r b : ℕ) (here : Context) (n : NodeId) (ref : Reference) → 5 ≤ b → 3 ≤ r → Within r b (callee_reference here n ref)
callee_reference-within r b here n ref some enough =
    get_value-within r b 1 here ref (callee_valued here n (base_of ref)) some enough (callee_valued-within r 1 here n (base_of ref) (omega arith) (omega arith))

call_of-within : (r b : ℕ) (here : Context) (n callee : NodeId) (found : Option Node) → 1 ≤ b → 20 ≤ r → Within r b (call_of here n callee found)
call_of-within r b here n callee (Some (node.Access (access.Member base name read write))) some enough =
    charged-within r b _ (access_reference-within r r 5 here (access.Member base name read write) (callee_reference here n) (omega arith) enough (λ ref. callee_reference-within r 5 here n ref (omega arith) (omega arith)))
call_of-within r b here n callee (Some (node.Access (access.Index base key read write))) some enough =
    charged-within r b _ (access_reference-within r r 5 here (access.Index base key read write) (callee_reference here n) (omega arith) enough (λ ref. callee_reference-within r 5 here n ref (omega arith) (omega arith)))
call_of-within r b here n callee other some enough =
    evaluated-within r b here None callee (callee_valued here n value.Undefined) some (callee_valued-within r r here n value.Undefined (omega arith) (omega arith))

pub call-within : (r b : ℕ) (here : Context) (n callee : NodeId) → 1 ≤ b → 20 ≤ r → Within r b (call_expression here n callee)
call-within r b here n callee some enough = call_of-within r b here n callee (node_at here callee) some enough

pub constructor_valued-within : (r b : ℕ) (here : Context) (n : NodeId) → 1 ≤ b → 1 ≤ r → On r b (constructor_valued here n)
constructor_valued-within r b here n some enough = λ c. value-within r b _ c (λ f. arguments-within r b here (invocation.Construct f) (arguments_at here n) [] some enough)

pub new-within : (r b : ℕ) (here : Context) (n callee : NodeId) → 1 ≤ b → 1 ≤ r → Within r b (new_expression here n callee)
new-within r b here n callee some enough = evaluated-within r b here None callee (constructor_valued here n) some (constructor_valued-within r r here n enough enough)
