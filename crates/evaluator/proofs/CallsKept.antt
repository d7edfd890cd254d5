-- Calls and `new` keep worlds sound.
use Rattle.std.proofs.Common.{◌++◌, Option, Some, None, List, [], ◌∷◌, arith}
use Rattle.std.specs.Prelude.{codes}
use Rattle.property_keys.specs.declared.values.Value.{Value}
use Rattle.property_keys.specs.declared.values.Value.TheVariants as value
use Rattle.es_tree.specs.declared.expressions.Access.TheVariants as access
use Rattle.es_tree.specs.declared.node.Node.{Node}
use Rattle.es_tree.specs.declared.node.Node.TheVariants as node
use Rattle.es_tree.specs.declared.numbers.NodeId.{NodeId}
use Rattle.es_model.specs.declared.kinds.ErrorKind.TheVariants as error
use Rattle.es_model.specs.declared.requests.Request.TheVariants.{Call, Construct}
use Rattle.es_model.specs.World.{Lists, World}
use Rattle.es_model.specs.Known.{IsKnown, AreKnown}
use Rattle.es_model.specs.Sound.{IsSound}
use Rattle.es_model.specs.Kept.{IsLater}
use Rattle.es_model.specs.programs.Errors.{not_a_constructor}
use Rattle.es_model.proofs.SoundProperties.{all-append}
use Rattle.evaluator.specs.declared.references.Invocation.{Invocation}
use Rattle.evaluator.specs.declared.references.Invocation.TheVariants as invocation
use Rattle.evaluator.specs.declared.references.Reference.{Reference}
use Rattle.evaluator.specs.declared.references.Reference.TheVariants as reference
use Rattle.evaluator.specs.Calls.{arguments_at, arguments_from, call_expression, call_of, callee_reference, callee_valued, construct, constructor_valued, invoke, new_expression}
use Rattle.evaluator.specs.Contexts.{Context, given, node_at}
use Rattle.evaluator.specs.References.{base_of}
use Rattle.evaluator.proofs.AccessesKept.{charged_access-kept, given-kept}
use Rattle.evaluator.proofs.ReferencesKept.{IsKnownReference, get_value-kept}
use Rattle.evaluator.proofs.WordsKept.{Keeps, IsHere, OnEnd, asked-kept, error-known, evaluated-kept, here-stays, value-kept, value-stays, values-stay}

-- what an invocation names is there
abbrev pub IsKnownInvocation : Lists → Invocation → Type 0
IsKnownInvocation l (invocation.Call f this) = IsKnown l f × IsKnown l this
IsKnownInvocation l (invocation.Construct f) = IsKnown l f

pub invocation-stays : (w v : World) → IsLater w v → (i : Invocation) → IsKnownInvocation w.lists i → IsKnownInvocation v.lists i
invocation-stays w v l (invocation.Call f this) h = (value-stays w v l f h.0, value-stays w v l this h.1)
invocation-stays w v l (invocation.Construct f) h = value-stays w v l f h

not_constructor-kept : (w : World) → IsSound w → Keeps not_a_constructor w
not_constructor-kept w s = error-known w error.TypeError (codes "not a constructor") s (omega arith)

construct-kept : (w : World) (f : Value) (vs : List Value) → IsSound w → IsKnown w.lists f → AreKnown w.lists vs → Keeps (construct f vs) w
construct-kept w (value.Object f) vs s known all = asked-kept w (Construct f vs f) given s (known, all, known) (given-kept w)
construct-kept w value.Undefined vs s known all = not_constructor-kept w s
construct-kept w value.Null vs s known all = not_constructor-kept w s
construct-kept w (value.Bool x) vs s known all = not_constructor-kept w s
construct-kept w (value.Whole n) vs s known all = not_constructor-kept w s
construct-kept w (value.Text t) vs s known all = not_constructor-kept w s
construct-kept w (value.Symbol y) vs s known all = not_constructor-kept w s

invoke-kept : (w : World) (i : Invocation) (vs : List Value) → IsSound w → IsKnownInvocation w.lists i → AreKnown w.lists vs → Keeps (invoke i vs) w
invoke-kept w (invocation.Call f this) vs s known all = asked-kept w (Call f this vs) given s (known.0, known.1, all) (given-kept w)
invoke-kept w (invocation.Construct f) vs s known all = construct-kept w f vs s known all

pub arguments-kept : (w : World) (here : Context) (i : Invocation) (ns : List NodeId) (vs : List Value) → IsSound w → IsHere w here → IsKnownInvocation w.lists i → AreKnown w.lists vs → Keeps (arguments_from here i ns vs) w
arguments-kept w here i [] vs s h known all = invoke-kept w i vs s known all
arguments-kept w here i (n ∷ ns) vs s h known all = evaluated-kept w here None n _ s h tt (λ c u su l k.
    value-kept u (λ v. arguments_from here i ns (vs ++ v ∷ [])) c su k (λ v there.
    arguments-kept u here i ns (vs ++ v ∷ []) su (here-stays w u l here h) (invocation-stays w u l i known) (all-append (IsKnown u.lists) vs v there (values-stay w u l vs all))))

pub callee_valued-kept : (w : World) (here : Context) (n : NodeId) (this : Value) → IsHere w here → IsKnown w.lists this → OnEnd w (callee_valued here n this)
callee_valued-kept w here n this h known = λ c v sv l k. value-kept v _ c sv k (λ f there.
    arguments-kept v here (invocation.Call f this) (arguments_at here n) [] sv (here-stays w v l here h) (there, value-stays w v l this known) tt)

base-known : (w : World) (ref : Reference) → IsKnownReference w.lists ref → IsKnown w.lists (base_of ref)
base-known w (reference.Cell name c constant) h = tt
base-known w (reference.Global name k present) h = tt
base-known w (reference.Arguments x) h = tt
base-known w (reference.Callee name x) h = tt
base-known w (reference.Property base k read write) h = h.0

pub callee_reference-kept : (w : World) (here : Context) (n : NodeId) (ref : Reference) → IsSound w → IsHere w here → IsKnownReference w.lists ref → Keeps (callee_reference here n ref) w
callee_reference-kept w here n ref s h known = get_value-kept w here ref (callee_valued here n (base_of ref)) s known (callee_valued-kept w here n (base_of ref) h (base-known w ref known))

call_of-kept : (w : World) (here : Context) (n callee : NodeId) (found : Option Node) → IsSound w → IsHere w here → Keeps (call_of here n callee found) w
call_of-kept w here n callee (Some (node.Access (access.Member base name read write))) s h =
    charged_access-kept w here (access.Member base name read write) (callee_reference here n) s h (λ ref v sv l known. callee_reference-kept v here n ref sv (here-stays w v l here h) known)
call_of-kept w here n callee (Some (node.Access (access.Index base key read write))) s h =
    charged_access-kept w here (access.Index base key read write) (callee_reference here n) s h (λ ref v sv l known. callee_reference-kept v here n ref sv (here-stays w v l here h) known)
call_of-kept w here n callee other s h = evaluated-kept w here None callee (callee_valued here n value.Undefined) s h tt (callee_valued-kept w here n value.Undefined h tt)

pub call-kept : (w : World) (here : Context) (n callee : NodeId) → IsSound w → IsHere w here → Keeps (call_expression here n callee) w
call-kept w here n callee s h = call_of-kept w here n callee (node_at here callee) s h

pub constructor_valued-kept : (w : World) (here : Context) (n : NodeId) → IsHere w here → OnEnd w (constructor_valued here n)
constructor_valued-kept w here n h = λ c v sv l k. value-kept v _ c sv k (λ f there.
    arguments-kept v here (invocation.Construct f) (arguments_at here n) [] sv (here-stays w v l here h) there tt)

pub new-kept : (w : World) (here : Context) (n callee : NodeId) → IsSound w → IsHere w here → Keeps (new_expression here n callee) w
new-kept w here n callee s h = evaluated-kept w here None callee (constructor_valued here n) s h tt (constructor_valued-kept w here n h)
