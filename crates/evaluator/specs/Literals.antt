-- Primary expressions (ECMA-262, 13.2): names, literals, object literals.
use Rattle.std.specs.Prelude.{ℕ, Bool, true, if◌then◌else◌, suc, Option, Some, None, List, [], ◌∷◌, slice_get}
use Rattle.property_keys.specs.declared.identifiers.ObjectId.{ObjectId}
use Rattle.property_keys.specs.declared.keys.PropKey.{PropKey}
use Rattle.property_keys.specs.declared.values.Value.{Value}
use Rattle.property_keys.specs.declared.values.Value.TheVariants as value
use Rattle.descriptors.specs.declared.fields.Descriptor.{Descriptor}
use Rattle.es_source.specs.Places.{same_place}
use Rattle.es_tree.specs.declared.facts.LiteralFacts.{LiteralFacts}
use Rattle.es_tree.specs.declared.names.Named.{Named}
use Rattle.es_tree.specs.declared.node.Node.{Node}
use Rattle.es_tree.specs.declared.node.Node.TheVariants as node
use Rattle.es_tree.specs.declared.numbers.LiteralNo.{LiteralNo}
use Rattle.es_tree.specs.declared.numbers.NodeId.{NodeId}
use Rattle.es_tree.specs.declared.primaries.Key.{Key}
use Rattle.es_tree.specs.declared.primaries.Key.TheVariants as key
use Rattle.es_tree.specs.declared.primaries.Primary.{Primary}
use Rattle.es_tree.specs.declared.primaries.Primary.TheVariants as primary
use Rattle.es_tree.specs.declared.primaries.Property.{Property}
use Rattle.es_tree.specs.declared.primaries.Property.TheVariants as property
use Rattle.es_tree.specs.Tree.{Tree}
use Rattle.es_model.specs.declared.intrinsics.Class.TheVariants as class
use Rattle.es_model.specs.declared.kinds.ObjectKind.TheVariants as kind_of
use Rattle.es_model.specs.declared.requests.Operation.TheVariants as operation
use Rattle.es_model.specs.declared.requests.Request.TheVariants.{SetProto}
use Rattle.es_model.specs.declared.running.FunctionName.{FunctionName}
use Rattle.es_model.specs.declared.running.FunctionName.TheVariants as given_name
use Rattle.es_model.specs.declared.running.NamePrefix.{NamePrefix}
use Rattle.es_model.specs.declared.running.NamePrefix.TheVariants as name_prefix
use Rattle.es_model.specs.Completions.{Completion}
use Rattle.es_model.specs.Events.{Origin, OfLiteral}
use Rattle.es_model.specs.Program.{Program, ask, define, make}
use Rattle.es_model.specs.programs.Abrupt.{then_flag, then_key, then_value}
use Rattle.evaluator.specs.Accesses.{read_reference}
use Rattle.evaluator.specs.Contexts.{Context, convert, evaluate, evaluate_named, gives, node_at}
use Rattle.evaluator.specs.Errors.{make_text}
use Rattle.evaluator.specs.Elements.{array_literal}
use Rattle.evaluator.specs.Functions.{make_function}
use Rattle.evaluator.specs.References.{get_value, prototype_of, resolve}
use Rattle.evaluator.specs.Values.{or_out, whole_of, with_key}

-- ---- object literals (13.2.5.4)

-- the properties that a definition makes: with a value, or with an accessor's function
abbrev pub plain : Value → Descriptor
plain v = record { value = Some v; writable = Some true; get = None; set = None; enumerable = Some true; configurable = Some true }

-- the function of an accessor, which is an object: a method comes to nothing else
abbrev pub accessor : Value → Value
accessor (value.Object o) = value.Object o
accessor other = value.Undefined

abbrev pub getter : Value → Descriptor
getter f = record { value = None; writable = None; get = Some (accessor f); set = None; enumerable = Some true; configurable = Some true }

abbrev pub setter : Value → Descriptor
setter f = record { value = None; writable = None; get = None; set = Some (accessor f); enumerable = Some true; configurable = Some true }

-- CreateDataPropertyOrThrow (7.3.6) on the new object, which refuses nothing, and what comes then
abbrev pub property_valued : ObjectId → PropKey → (Value → Descriptor) → Program → Completion → Program
property_valued o k made next c = then_value (λ v. define o k (made v) (λ succeeded. next)) c

-- the key of a property definition (13.2.5.5)
abbrev pub key_converted : (PropKey → Program) → Completion → Program
key_converted next c = then_key next c

abbrev pub key_valued : (PropKey → Program) → Completion → Program
key_valued next c = then_value (λ v. convert operation.ToKey v (key_converted next)) c

abbrev pub property_key : Context → Key → (PropKey → Program) → Program
property_key here (key.Fixed units) next = with_key units next
property_key here (key.Computed n) next = evaluate here n (key_valued next)

-- The value of a property definition, a method or an accessor (15.4.5): an anonymous function gets the key as its name, behind `get ` or `set ` in an accessor
abbrev pub value_keyed : Context → ObjectId → NamePrefix → (Value → Descriptor) → NodeId → Program → PropKey → Program
value_keyed here o before made v next k = evaluate_named here (Some (given_name.Key before k)) v (property_valued o k made next)

-- `__proto__: v` (13.2.5.5, step 7)
abbrev pub proto_answered : Program → Completion → Program
proto_answered next c = then_flag (λ succeeded. next) c

abbrev pub proto_of : ObjectId → Program → Value → Program
proto_of o next (value.Object p) = ask (SetProto o (Some p)) (proto_answered next)
proto_of o next value.Null = ask (SetProto o None) (proto_answered next)
proto_of o next other = next

abbrev pub proto_valued : ObjectId → Program → Completion → Program
proto_valued o next c = then_value (λ v. proto_of o next v) c

abbrev pub shorthand_keyed : Context → ObjectId → Named → Program → PropKey → Program
shorthand_keyed here o named next k = resolve here named (λ r. get_value here r (property_valued o k plain next))

-- PropertyDefinitionEvaluation (13.2.5.5), and what comes then
abbrev pub property_then : Context → ObjectId → Property → Program → Program
property_then here o (property.Value name v) next = property_key here name (value_keyed here o name_prefix.Nothing plain v next)
property_then here o (property.Shorthand named) next = with_key named.name (shorthand_keyed here o named next)
property_then here o (property.Prototype v) next = evaluate here v (proto_valued o next)
property_then here o (property.Method name m) next = property_key here name (value_keyed here o name_prefix.Nothing plain m next)
property_then here o (property.Getter name m) next = property_key here name (value_keyed here o name_prefix.Get getter m next)
property_then here o (property.Setter name m) next = property_key here name (value_keyed here o name_prefix.Set setter m next)

abbrev pub properties_from : Context → ObjectId → List Property → Program
properties_from here o [] = gives (value.Object o)
properties_from here o (p ∷ ps) = property_then here o p (properties_from here o ps)

abbrev pub properties_in : Option Node → List Property
properties_in (Some (node.Primary (primary.Object literal properties))) = properties
properties_in other = []

abbrev pub properties_at : Context → NodeId → List Property
properties_at here n = properties_in (node_at here n)

-- The origin of a literal's objects is the literal at its place, which is the first one there: no two literals of a script begin at one place
abbrev pub is_at : LiteralFacts → LiteralFacts → Bool
is_at a b = same_place a.place b.place

abbrev pub first_at : List LiteralFacts → LiteralFacts → ℕ
first_at [] facts = 0
first_at (l ∷ ls) facts = if is_at l facts then 0 else suc (first_at ls facts)

abbrev pub origin_of : List LiteralFacts → LiteralNo → Option LiteralFacts → Origin
origin_of literals n None = OfLiteral n
origin_of literals n (Some facts) = OfLiteral (record { 0 = first_at literals facts })

abbrev pub literal_origin : Tree → LiteralNo → Origin
literal_origin script n = origin_of script.literals n (slice_get script.literals n.0)

abbrev pub object_literal : Context → NodeId → LiteralNo → Program
object_literal here n literal =
    make kind_of.Ordinary (literal_origin here.script literal) (Some (prototype_of class.Object)) (λ o. properties_from here o (properties_at here n))

-- ---- each primary expression

abbrev pub primary_program : Context → Option FunctionName → NodeId → Primary → Program
-- ResolveThisBinding (9.4.4)
primary_program here name n primary.This = gives here.body.this
primary_program here name n (primary.Name named) = resolve here named (read_reference here)
primary_program here name n (primary.Number x) = or_out (whole_of x) (λ m. gives (value.Whole m))
primary_program here name n (primary.Text units) = make_text units (λ t. gives (value.Text t))
primary_program here name n primary.Null = gives value.Null
primary_program here name n (primary.Bool b) = gives (value.Bool b)
primary_program here name n (primary.Array elements) = array_literal here n
primary_program here name n (primary.Object literal properties) = object_literal here n literal
primary_program here name n (primary.Function f) = make_function here name f
primary_program here name n (primary.Method f) = make_function here name f
