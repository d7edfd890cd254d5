-- Accesses and targets keep worlds sound.
use Rattle.std.proofs.Common.{Option, Some, None, refl}
use Rattle.property_keys.specs.declared.keys.PropKey.{PropKey}
use Rattle.property_keys.specs.declared.values.Value.{Value}
use Rattle.property_keys.specs.declared.values.Value.TheVariants as value
use Rattle.es_tree.specs.declared.expressions.Access.{Access}
use Rattle.es_tree.specs.declared.expressions.Access.TheVariants as access
use Rattle.es_tree.specs.declared.names.Target.{Target}
use Rattle.es_tree.specs.declared.names.Target.TheVariants as target
use Rattle.es_tree.specs.declared.node.Node.{Node}
use Rattle.es_tree.specs.declared.node.Node.TheVariants as node
use Rattle.es_tree.specs.declared.numbers.NodeId.{NodeId}
use Rattle.es_tree.specs.declared.numbers.SiteId.{SiteId}
use Rattle.es_model.specs.declared.requests.Operation.TheVariants as operation
use Rattle.es_model.specs.declared.requests.Request.TheVariants.{Work}
use Rattle.es_model.specs.Completions.{Completion}
use Rattle.es_model.specs.World.{World}
use Rattle.es_model.specs.Program.{Program, charge}
use Rattle.es_model.specs.Known.{IsKnown, IsKnownKey}
use Rattle.es_model.specs.Sound.{IsSound}
use Rattle.es_model.specs.programs.Converting.{to_number}
use Rattle.es_model.specs.programs.Texts.{to_string}
use Rattle.es_model.proofs.Keeping.{later_none}
use Rattle.evaluator.specs.declared.references.Reference.{Reference}
use Rattle.evaluator.specs.declared.references.Reference.TheVariants as reference
use Rattle.evaluator.specs.Accesses.{access_reference, index_based, key_converted, key_valued, member_based, read_reference, target_at, target_reference}
use Rattle.evaluator.specs.Contexts.{Context, convert, gives, given, node_at, normal}
use Rattle.evaluator.specs.Operators.{to_primitive}
use Rattle.evaluator.proofs.ReferencesKept.{IsKnownReference, OnReference, get_value-kept, references-stay, resolve-kept}
use Rattle.evaluator.proofs.WordsKept.{Keeps, done-kept, IsHere, OnEnd, asked-kept, charged-kept, evaluated-kept, here-stays, key-kept, key-stays, value-kept, value-stays, with_key-kept}

-- what a request gives is the end
pub given-kept : (w : World) → OnEnd w given
given-kept w = λ c v sv l known. value-kept v gives c sv known (λ x k. (done-kept v _ sv k))

-- conversions of a value that is there
pub number_asked-kept : (w : World) (x : Value) (next : Completion → Program) → IsSound w → IsKnown w.lists x → OnEnd w next → Keeps (to_number x next) w
number_asked-kept w (value.Whole n) next s known f = f (normal (value.Whole n)) w s (later_none w) known
number_asked-kept w value.Undefined next s known f = asked-kept w (Work operation.ToWhole _) next s (refl, (known, tt)) f
number_asked-kept w value.Null next s known f = asked-kept w (Work operation.ToWhole _) next s (refl, (known, tt)) f
number_asked-kept w (value.Bool b) next s known f = asked-kept w (Work operation.ToWhole _) next s (refl, (known, tt)) f
number_asked-kept w (value.Text t) next s known f = asked-kept w (Work operation.ToWhole _) next s (refl, (known, tt)) f
number_asked-kept w (value.Symbol y) next s known f = asked-kept w (Work operation.ToWhole _) next s (refl, (known, tt)) f
number_asked-kept w (value.Object o) next s known f = asked-kept w (Work operation.ToWhole _) next s (refl, (known, tt)) f

pub text_asked-kept : (w : World) (x : Value) (next : Completion → Program) → IsSound w → IsKnown w.lists x → OnEnd w next → Keeps (to_string x next) w
text_asked-kept w (value.Text t) next s known f = f (normal (value.Text t)) w s (later_none w) known
text_asked-kept w value.Undefined next s known f = asked-kept w (Work operation.ToText _) next s (refl, (known, tt)) f
text_asked-kept w value.Null next s known f = asked-kept w (Work operation.ToText _) next s (refl, (known, tt)) f
text_asked-kept w (value.Bool b) next s known f = asked-kept w (Work operation.ToText _) next s (refl, (known, tt)) f
text_asked-kept w (value.Whole n) next s known f = asked-kept w (Work operation.ToText _) next s (refl, (known, tt)) f
text_asked-kept w (value.Symbol y) next s known f = asked-kept w (Work operation.ToText _) next s (refl, (known, tt)) f
text_asked-kept w (value.Object o) next s known f = asked-kept w (Work operation.ToText _) next s (refl, (known, tt)) f

pub primitive_asked-kept : (w : World) (x : Value) (next : Completion → Program) → IsSound w → IsKnown w.lists x → OnEnd w next → Keeps (to_primitive x next) w
primitive_asked-kept w value.Undefined next s known f = f (normal value.Undefined) w s (later_none w) known
primitive_asked-kept w value.Null next s known f = f (normal value.Null) w s (later_none w) known
primitive_asked-kept w (value.Bool b) next s known f = f (normal (value.Bool b)) w s (later_none w) known
primitive_asked-kept w (value.Whole n) next s known f = f (normal (value.Whole n)) w s (later_none w) known
primitive_asked-kept w (value.Text t) next s known f = f (normal (value.Text t)) w s (later_none w) known
primitive_asked-kept w (value.Symbol y) next s known f = f (normal (value.Symbol y)) w s (later_none w) known
primitive_asked-kept w (value.Object o) next s known f = asked-kept w (Work operation.ToPrimitiveDefault _) next s (refl, (known, tt)) f

pub key_asked-kept : (w : World) (x : Value) (next : Completion → Program) → IsSound w → IsKnown w.lists x → OnEnd w next → Keeps (convert operation.ToKey x next) w
key_asked-kept w x next s known f = asked-kept w (Work operation.ToKey _) next s (refl, (known, tt)) f

-- ---- accesses

member_based-kept : (w : World) (k : PropKey) (read write : Option SiteId) (next : Reference → Program) → IsKnownKey w.lists k → OnReference w next → OnEnd w (member_based k read write next)
member_based-kept w k read write next key f = λ c v sv l known. value-kept v _ c sv known (λ base there. f (reference.Property base k read write) v sv l (there, key-stays w v l k key))

pub key_converted-kept : (w : World) (base : Value) (read write : Option SiteId) (next : Reference → Program) → IsKnown w.lists base → OnReference w next → OnEnd w (key_converted base read write next)
key_converted-kept w base read write next known f = λ c v sv l k. key-kept v _ c sv k (λ x key. f (reference.Property base x read write) v sv l (value-stays w v l base known, key))

pub key_valued-kept : (w : World) (base : Value) (read write : Option SiteId) (next : Reference → Program) → IsKnown w.lists base → OnReference w next → OnEnd w (key_valued base read write next)
key_valued-kept w base read write next known f = λ c v sv l k. value-kept v _ c sv k (λ x there.
    key_asked-kept v x (key_converted base read write next) sv there (key_converted-kept v base read write next (value-stays w v l base known) (references-stay w v l next f)))

pub index_based-kept : (w : World) (here : Context) (key : NodeId) (read write : Option SiteId) (next : Reference → Program) → IsHere w here → OnReference w next → OnEnd w (index_based here key read write next)
index_based-kept w here key read write next h f = λ c v sv l k. value-kept v _ c sv k (λ base there.
    evaluated-kept v here None key (key_valued base read write next) sv (here-stays w v l here h) tt (key_valued-kept v base read write next there (references-stay w v l next f)))

pub access_reference-kept : (w : World) (here : Context) (a : Access) (next : Reference → Program) → IsSound w → IsHere w here → OnReference w next → Keeps (access_reference here a next) w
access_reference-kept w here (access.Member base name read write) next s h f = with_key-kept w name _ s (λ k v sv l key.
    evaluated-kept v here None base (member_based k read write next) sv (here-stays w v l here h) tt (member_based-kept v k read write next key (references-stay w v l next f)))
access_reference-kept w here (access.Index base key read write) next s h f =
    evaluated-kept w here None base (index_based here key read write next) s h tt (index_based-kept w here key read write next h f)
access_reference-kept w here (access.Call callee arguments) next s h f = done-kept w _ s tt
access_reference-kept w here (access.New callee arguments) next s h f = done-kept w _ s tt

-- an access with its turn
pub charged_access-kept : (w : World) (here : Context) (a : Access) (next : Reference → Program) → IsSound w → IsHere w here → OnReference w next → Keeps (charge 1 (access_reference here a next)) w
charged_access-kept w here a next s h f = charged-kept w _ s (λ v sv l. access_reference-kept v here a next sv (here-stays w v l here h) (references-stay w v l next f))

pub read_reference-kept : (w : World) (here : Context) (ref : Reference) → IsSound w → IsKnownReference w.lists ref → Keeps (read_reference here ref) w
read_reference-kept w here ref s known = get_value-kept w here ref given s known (given-kept w)

target_at-kept : (w : World) (here : Context) (next : Reference → Program) (n : Option Node) → IsSound w → IsHere w here → OnReference w next → Keeps (target_at here next n) w
target_at-kept w here next (Some (node.Access a)) s h f = charged_access-kept w here a next s h f
target_at-kept w here next other s h f = done-kept w _ s tt

pub target_reference-kept : (w : World) (here : Context) (place : Target) (next : Reference → Program) → IsSound w → IsHere w here → OnReference w next → Keeps (target_reference here place next) w
target_reference-kept w here (target.Name named) next s h f = resolve-kept w here named next s h f
target_reference-kept w here (target.Access n) next s h f = target_at-kept w here next (node_at here n) s h f
