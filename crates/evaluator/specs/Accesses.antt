-- Member accesses (ECMA-262, 13.3.2) and what is assigned to or updated: an access is evaluated to a reference. Its base comes first, then its key, which is
-- converted at once; the base is looked at when the property is read or written.
use Rattle.std.specs.Prelude.{Option, Some}
use Rattle.property_keys.specs.declared.keys.PropKey.{PropKey}
use Rattle.property_keys.specs.declared.values.Value.{Value}
use Rattle.es_tree.specs.declared.expressions.Access.{Access}
use Rattle.es_tree.specs.declared.expressions.Access.TheVariants as access
use Rattle.es_tree.specs.declared.names.Target.{Target}
use Rattle.es_tree.specs.declared.names.Target.TheVariants as target
use Rattle.es_tree.specs.declared.node.Node.{Node}
use Rattle.es_tree.specs.declared.node.Node.TheVariants as node
use Rattle.es_tree.specs.declared.numbers.NodeId.{NodeId}
use Rattle.es_tree.specs.declared.numbers.SiteId.{SiteId}
use Rattle.es_model.specs.declared.requests.Operation.TheVariants as operation
use Rattle.es_model.specs.Completions.{Completion}
use Rattle.es_model.specs.Program.{Program, charge}
use Rattle.es_model.specs.programs.Abrupt.{then_key, then_value}
use Rattle.evaluator.specs.declared.references.Reference.{Reference}
use Rattle.evaluator.specs.declared.references.Reference.TheVariants as reference
use Rattle.evaluator.specs.Contexts.{Context, convert, evaluate, falls, given, node_at}
use Rattle.evaluator.specs.References.{get_value, resolve}
use Rattle.evaluator.specs.Values.{with_key}

-- EvaluatePropertyAccessWithIdentifierKey (13.3.4): the base has its value
abbrev pub member_based : PropKey → Option SiteId → Option SiteId → (Reference → Program) → Completion → Program
member_based k read write next c = then_value (λ base. next (reference.Property base k read write)) c

-- EvaluatePropertyAccessWithExpressionKey (13.3.3): the key is converted
abbrev pub key_converted : Value → Option SiteId → Option SiteId → (Reference → Program) → Completion → Program
key_converted base read write next c = then_key (λ k. next (reference.Property base k read write)) c

abbrev pub key_valued : Value → Option SiteId → Option SiteId → (Reference → Program) → Completion → Program
key_valued base read write next c = then_value (λ v. convert operation.ToKey v (key_converted base read write next)) c

abbrev pub index_based : Context → NodeId → Option SiteId → Option SiteId → (Reference → Program) → Completion → Program
index_based here key read write next c = then_value (λ base. evaluate here key (key_valued base read write next)) c

-- an access, after its turn
abbrev pub access_reference : Context → Access → (Reference → Program) → Program
access_reference here (access.Member base name read write) next = with_key name (λ k. evaluate here base (member_based k read write next))
access_reference here (access.Index base key read write) next = evaluate here base (index_based here key read write next)
access_reference here (access.Call callee arguments) next = falls
access_reference here (access.New callee arguments) next = falls

-- a read of an access, which is its value
abbrev pub read_reference : Context → Reference → Program
read_reference here r = get_value here r given

-- an access as a target, or as the operand of `delete`: here is its turn
abbrev pub target_at : Context → (Reference → Program) → Option Node → Program
target_at here next (Some (node.Access a)) = charge 1 (access_reference here a next)
target_at here next other = falls

abbrev pub target_reference : Context → Target → (Reference → Program) → Program
target_reference here (target.Name named) next = resolve here named next
target_reference here (target.Access n) next = target_at here next (node_at here n)
