-- Primary expressions keep within their budgets. A property definition that is a name alone takes no turn, so an object literal asks with each of its definitions.
use Rattle.std.proofs.Common.{◌≡◌, ℕ, ◌+◌, ◌*◌, ◌≤◌, Option, Some, None, List, [], ◌∷◌, length, refl, arith}
use Rattle.std.specs.Prelude.{slice_get}
use Rattle.property_keys.specs.declared.identifiers.ObjectId.{ObjectId}
use Rattle.property_keys.specs.declared.keys.PropKey.{PropKey}
use Rattle.property_keys.specs.declared.values.Value.{Value}
use Rattle.property_keys.specs.declared.values.Value.TheVariants as value
use Rattle.descriptors.specs.declared.fields.Descriptor.{Descriptor}
use Rattle.es_tree.specs.declared.names.Named.{Named}
use Rattle.es_tree.specs.declared.node.Node.{Node}
use Rattle.es_tree.specs.declared.node.Node.TheVariants as node
use Rattle.es_tree.specs.declared.numbers.LiteralNo.{LiteralNo}
use Rattle.es_tree.specs.declared.numbers.NodeId.{NodeId}
use Rattle.es_tree.specs.declared.primaries.Key.{Key}
use Rattle.es_tree.specs.declared.primaries.Key.TheVariants as key
use Rattle.es_tree.specs.declared.primaries.Primary.{Primary}
use Rattle.es_tree.specs.declared.primaries.Primary.TheVariants as primary
use Rattle.es_tree.specs.declared.primaries.Property.{Property}
use Rattle.es_tree.specs.declared.primaries.Property.TheVariants as property
use Rattle.es_tree.specs.Definitions.{definitions_at, most_definitions}
use Rattle.es_tree.proofs.LongestLiteral.{most-at}
use Rattle.es_model.specs.declared.running.FunctionName.{FunctionName}
use Rattle.es_model.specs.declared.running.NamePrefix.{NamePrefix}
use Rattle.es_model.specs.declared.running.NamePrefix.TheVariants as name_prefix
use Rattle.es_model.specs.Program.{Program}
use Rattle.evaluator.specs.Accesses.{read_reference}
use Rattle.evaluator.specs.Contexts.{Context, normal}
use Rattle.evaluator.specs.Literals.{getter, key_converted, key_valued, object_literal, plain, primary_program, properties_from, properties_in, property_key, property_then, property_valued, proto_answered, proto_of, proto_valued, setter, shorthand_keyed, value_keyed}
use Rattle.evaluator.specs.Values.{whole_of}
use Rattle.evaluator.proofs.AccessesWithin.{read_reference-within}
use Rattle.evaluator.proofs.ElementsKept.{array-within}
use Rattle.evaluator.proofs.FunctionsWithin.{make_function-within}
use Rattle.evaluator.proofs.ReferencesWithin.{get_value-within, resolve-within}
use Rattle.evaluator.proofs.WordsWithin.{On, Within, asked-within, change-within, done-within, evaluated-within, flag-within, key-within, look-within, more-within, or_out-within, text-within, value-within, with_key-within}

-- ---- object literals: what is done with every key, and what comes behind a definition

abbrev pub OnKey : ℕ → ℕ → (PropKey → Program) → Type 0
OnKey r b next = (k : PropKey) → Within r b (next k)

pub property_valued-within : (r b : ℕ) (o : ObjectId) (k : PropKey) (made : Value → Descriptor) (next : Program) → Within r b next → On r b (property_valued o k made next)
property_valued-within r b o k made next h = λ c. value-within r b _ c (λ v. look-within _ _ _ (λ l. change-within _ _ _ _ h))

pub key_converted-within : (r b : ℕ) (next : PropKey → Program) → OnKey r b next → On r b (key_converted next)
key_converted-within r b next h = λ c. key-within r b next c h

pub key_valued-within : (r b : ℕ) (next : PropKey → Program) → 16 ≤ b → OnKey r 1 next → On r b (key_valued next)
key_valued-within r b next some h = λ c. value-within r b _ c (λ v. (asked-within _ _ 1 _ _ (omega arith) (key_converted-within r 1 next h)))

property_key-within : (r b : ℕ) (here : Context) (name : Key) (next : PropKey → Program) → 1 ≤ b → 16 ≤ r → OnKey r 1 next → Within r b (property_key here name next)
property_key-within r b here (key.Fixed units) next some enough h = more-within r 1 b _ some (with_key-within r 1 units next h)
property_key-within r b here (key.Computed n) next some enough h = evaluated-within r b here None n (key_valued next) some (key_valued-within r r next enough h)

pub value_keyed-within : (r b : ℕ) (here : Context) (o : ObjectId) (before : NamePrefix) (made : Value → Descriptor) (v : NodeId) (next : Program) → 1 ≤ b → Within r r next → OnKey r b (value_keyed here o before made v next)
value_keyed-within r b here o before made v next some h = λ k. evaluated-within r b here _ v (property_valued o k made next) some (property_valued-within r r o k made next h)

pub proto_answered-within : (r b : ℕ) (next : Program) → Within r b next → On r b (proto_answered next)
proto_answered-within r b next h = λ c. flag-within r b _ c (λ x. h)

pub proto_of-within : (r b left : ℕ) (o : ObjectId) (next : Program) (v : Value) → left + 1 ≤ b → Within r left next → Within r b (proto_of o next v)
proto_of-within r b left o next (value.Object p) some h = (asked-within _ _ left _ _ (omega arith) (proto_answered-within r left next h))
proto_of-within r b left o next value.Null some h = (asked-within _ _ left _ _ (omega arith) (proto_answered-within r left next h))
proto_of-within r b left o next value.Undefined some h = more-within r left b next (omega arith) h
proto_of-within r b left o next (value.Bool x) some h = more-within r left b next (omega arith) h
proto_of-within r b left o next (value.Whole n) some h = more-within r left b next (omega arith) h
proto_of-within r b left o next (value.Text t) some h = more-within r left b next (omega arith) h
proto_of-within r b left o next (value.Symbol s) some h = more-within r left b next (omega arith) h

pub proto_valued-within : (r b left : ℕ) (o : ObjectId) (next : Program) → left + 1 ≤ b → Within r left next → On r b (proto_valued o next)
proto_valued-within r b left o next some h = λ c. value-within r b (proto_of o next) c (λ v. proto_of-within r b left o next v some h)

shorthand_keyed-within : (r b left : ℕ) (here : Context) (o : ObjectId) (named : Named) (next : Program) → left + 6 ≤ b → left + 2 ≤ r → Within r left next → OnKey r b (shorthand_keyed here o named next)
shorthand_keyed-within r b left here o named next some enough h = λ k.
    resolve-within r b (left + 4) here named _ (omega arith) (λ ref. get_value-within r (left + 4) left here ref (property_valued o k plain next) (omega arith) enough (property_valued-within r left o k plain next h))

pub property_then-within : (r b left : ℕ) (here : Context) (o : ObjectId) (p : Property) (next : Program) → left + 6 ≤ b → left + 16 ≤ r → Within r left next → Within r b (property_then here o p next)
property_then-within r b left here o (property.Value name v) next some enough h =
    property_key-within r b here name (value_keyed here o name_prefix.Nothing plain v next) (omega arith) (omega arith) (value_keyed-within r 1 here o name_prefix.Nothing plain v next (omega arith) (more-within r left r next (omega arith) h))
property_then-within r b left here o (property.Shorthand named) next some enough h =
    with_key-within r b named.name (shorthand_keyed here o named next) (shorthand_keyed-within r b left here o named next some (omega arith) h)
property_then-within r b left here o (property.Prototype v) next some enough h =
    evaluated-within r b here None v (proto_valued o next) (omega arith) (proto_valued-within r r left o next (omega arith) h)
property_then-within r b left here o (property.Method name m) next some enough h =
    property_key-within r b here name (value_keyed here o name_prefix.Nothing plain m next) (omega arith) (omega arith)
    (value_keyed-within r 1 here o name_prefix.Nothing plain m next (omega arith) (more-within r left r next (omega arith) h))
property_then-within r b left here o (property.Getter name m) next some enough h =
    property_key-within r b here name (value_keyed here o name_prefix.Get getter m next) (omega arith) (omega arith)
    (value_keyed-within r 1 here o name_prefix.Get getter m next (omega arith) (more-within r left r next (omega arith) h))
property_then-within r b left here o (property.Setter name m) next some enough h =
    property_key-within r b here name (value_keyed here o name_prefix.Set setter m next) (omega arith) (omega arith)
    (value_keyed-within r 1 here o name_prefix.Set setter m next (omega arith) (more-within r left r next (omega arith) h))

-- what a definition asks for is fewer than 40
pub properties-within : (r b : ℕ) (here : Context) (o : ObjectId) (ps : List Property) → 40 * length ps ≤ b → 40 * length ps ≤ r → Within r b (properties_from here o ps)
properties-within r b here o [] some enough = done-within _ _ _
properties-within r b here o (p ∷ ps) some enough =
    property_then-within r b (40 * length ps) here o p (properties_from here o ps) (omega arith) (omega arith) (properties-within r (40 * length ps) here o ps (omega arith) (omega arith))

-- ---- no literal has more definitions than the longest

definitions-in : (n : Node) → length (properties_in (Some n)) ≡ definitions_at n
definitions-in (node.Statement s) = refl
definitions-in (node.Operator o) = refl
definitions-in (node.Access a) = refl
definitions-in (node.Primary primary.This) = refl
definitions-in (node.Primary (primary.Name named)) = refl
definitions-in (node.Primary (primary.Number x)) = refl
definitions-in (node.Primary (primary.Text units)) = refl
definitions-in (node.Primary primary.Null) = refl
definitions-in (node.Primary (primary.Bool x)) = refl
definitions-in (node.Primary (primary.Array elements)) = refl
definitions-in (node.Primary (primary.Object literal properties)) = refl
definitions-in (node.Primary (primary.Function f)) = refl
definitions-in (node.Primary (primary.Method f)) = refl

definitions-found : (nodes : List Node) (i : ℕ) (found : Option Node) → slice_get nodes i ≡ found → length (properties_in found) ≤ most_definitions nodes
definitions-found nodes i None e = omega arith
definitions-found nodes i (Some n) e = let most = most-at nodes i n e in let same = definitions-in n in omega arith

pub definitions-most : (nodes : List Node) (i : ℕ) → length (properties_in (slice_get nodes i)) ≤ most_definitions nodes
definitions-most nodes i = definitions-found nodes i (slice_get nodes i) refl

object-within : (r : ℕ) (here : Context) (n : NodeId) (literal : LiteralNo) → 40 * most_definitions here.script.nodes ≤ r → Within r r (object_literal here n literal)
object-within r here n literal enough = look-within _ _ _ (λ l.
    change-within _ _ _ _ (let most = definitions-most here.script.nodes n.0 in properties-within r r here _ (properties_in (slice_get here.script.nodes n.0)) (omega arith) (omega arith)))

-- ---- each primary expression

pub primary-within : (r : ℕ) (here : Context) (name : Option FunctionName) (n : NodeId) (p : Primary) → 200 + 40 * most_definitions here.script.nodes ≤ r → Within r r (primary_program here name n p)
primary-within r here name n primary.This enough = done-within _ _ _
primary-within r here name n (primary.Name named) enough =
    resolve-within r r 4 here named (read_reference here) (omega arith) (λ ref. read_reference-within r 4 here ref (omega arith) (omega arith))
primary-within r here name n (primary.Number x) enough = or_out-within r r (whole_of x) _ (λ m. (done-within _ _ _))
primary-within r here name n (primary.Text units) enough = text-within r r units _ (λ t. done-within r r (normal (value.Text t)))
primary-within r here name n primary.Null enough = done-within _ _ _
primary-within r here name n (primary.Bool x) enough = done-within _ _ _
primary-within r here name n (primary.Array elements) enough = array-within r here n (omega arith)
primary-within r here name n (primary.Object literal properties) enough = object-within r here n literal (omega arith)
primary-within r here name n (primary.Function f) enough = make_function-within r r here name f
primary-within r here name n (primary.Method f) enough = make_function-within r r here name f
