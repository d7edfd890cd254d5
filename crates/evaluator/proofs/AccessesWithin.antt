-- Accesses and targets keep within their budgets.
use Rattle.std.proofs.Common.{ℕ, ◌+◌, ◌≤◌, Option, Some, None, arith}
use Rattle.property_keys.specs.declared.keys.PropKey.{PropKey}
use Rattle.property_keys.specs.declared.values.Value.{Value}
use Rattle.es_tree.specs.declared.expressions.Access.{Access}
use Rattle.es_tree.specs.declared.expressions.Access.TheVariants as access
use Rattle.es_tree.specs.declared.names.Target.{Target}
use Rattle.es_tree.specs.declared.names.Target.TheVariants as target
use Rattle.es_tree.specs.declared.node.Node.{Node}
use Rattle.es_tree.specs.declared.node.Node.TheVariants as node
use Rattle.es_tree.specs.declared.numbers.NodeId.{NodeId}
use Rattle.es_tree.specs.declared.numbers.SiteId.{SiteId}
use Rattle.es_model.specs.Program.{Program}
use Rattle.evaluator.specs.declared.references.Reference.{Reference}
use Rattle.evaluator.specs.declared.references.Reference.TheVariants as reference
use Rattle.evaluator.specs.Accesses.{access_reference, index_based, key_converted, key_valued, member_based, read_reference, target_at, target_reference}
use Rattle.evaluator.specs.Contexts.{Context, gives, given, node_at}
use Rattle.evaluator.proofs.ReferencesWithin.{OnReference, get_value-within, resolve-within}
use Rattle.evaluator.proofs.WordsWithin.{On, Within, asked-within, charged-within, done-within, evaluated-within, key-within, more-within, value-within, with_key-within}

-- what a request gives is the end
pub given-within : (r b : ℕ) → On r b given
given-within r b = λ c. value-within r b gives c (λ v. (done-within _ _ _))

pub member_based-within : (r b : ℕ) (k : PropKey) (read write : Option SiteId) (next : Reference → Program) → OnReference r b next → On r b (member_based k read write next)
member_based-within r b k read write next h = λ c. value-within r b _ c (λ base. h (reference.Property base k read write))

pub key_converted-within : (r b : ℕ) (base : Value) (read write : Option SiteId) (next : Reference → Program) → OnReference r b next → On r b (key_converted base read write next)
key_converted-within r b base read write next h = λ c. key-within r b _ c (λ k. h (reference.Property base k read write))

pub key_valued-within : (r b left : ℕ) (base : Value) (read write : Option SiteId) (next : Reference → Program) → left + 15 ≤ b → OnReference r left next → On r b (key_valued base read write next)
key_valued-within r b left base read write next some h = λ c. value-within r b _ c (λ v. (asked-within _ _ left _ _ (omega arith) (key_converted-within r left base read write next h)))

pub index_based-within : (r b left : ℕ) (here : Context) (key : NodeId) (read write : Option SiteId) (next : Reference → Program) → 1 ≤ b → left + 15 ≤ r → OnReference r left next → On r b (index_based here key read write next)
index_based-within r b left here key read write next some enough h = λ c. value-within r b _ c (λ base.
    evaluated-within r b here None key (key_valued base read write next) some (key_valued-within r r left base read write next enough h))

pub access_reference-within : (r b left : ℕ) (here : Context) (a : Access) (next : Reference → Program) → 1 ≤ b → left + 15 ≤ r → OnReference r left next → Within r b (access_reference here a next)
access_reference-within r b left here (access.Member base name read write) next some enough h = with_key-within r b name _ (λ k.
    evaluated-within r b here None base (member_based k read write next) some (member_based-within r r k read write next (λ ref. more-within r left r _ (omega arith) (h ref))))
access_reference-within r b left here (access.Index base key read write) next some enough h =
    evaluated-within r b here None base (index_based here key read write next) some (index_based-within r r left here key read write next (omega arith) enough h)
access_reference-within r b left here (access.Call callee arguments) next some enough h = done-within _ _ _
access_reference-within r b left here (access.New callee arguments) next some enough h = done-within _ _ _

pub read_reference-within : (r b : ℕ) (here : Context) (ref : Reference) → 4 ≤ b → 2 ≤ r → Within r b (read_reference here ref)
read_reference-within r b here ref some enough = get_value-within r b 0 here ref given some enough (given-within r 0)

target_at-within : (r b left : ℕ) (here : Context) (next : Reference → Program) (n : Option Node) → left + 15 ≤ r → OnReference r left next → Within r b (target_at here next n)
target_at-within r b left here next (Some (node.Access a)) enough h = charged-within r b _ (access_reference-within r r left here a next (omega arith) enough h)
target_at-within r b left here next other enough h = done-within _ _ _

pub target_reference-within : (r b left : ℕ) (here : Context) (place : Target) (next : Reference → Program) → left + 2 ≤ b → left + 15 ≤ r → OnReference r left next → Within r b (target_reference here place next)
target_reference-within r b left here (target.Name named) next some enough h = resolve-within r b left here named next some h
target_reference-within r b left here (target.Access n) next some enough h = target_at-within r b left here next (node_at here n) enough h
