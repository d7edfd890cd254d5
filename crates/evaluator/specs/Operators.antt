-- Operators (ECMA-262, 13.5 to 13.14 and 13.16).
use Rattle.std.specs.Prelude.{Bool, true, false, not, ◌||◌, if◌then◌else◌, int_lt, neg_ℤ, Option, Some, List, [], ◌∷◌}
use Rattle.property_keys.specs.declared.identifiers.ObjectId.{ObjectId}
use Rattle.property_keys.specs.declared.values.Value.{Value}
use Rattle.property_keys.specs.declared.values.Value.TheVariants as value
use Rattle.property_keys.specs.Values.{same_value}
use Rattle.es_tree.specs.declared.expressions.Access.TheVariants as access
use Rattle.es_tree.specs.declared.expressions.BinaryOperator.{BinaryOperator}
use Rattle.es_tree.specs.declared.expressions.BinaryOperator.TheVariants as binary_operator
use Rattle.es_tree.specs.declared.expressions.Operator.TheVariants as operator
use Rattle.es_tree.specs.declared.expressions.ShortOperator.{ShortOperator}
use Rattle.es_tree.specs.declared.expressions.ShortOperator.TheVariants as short_operator
use Rattle.es_tree.specs.declared.expressions.UnaryOperator.{UnaryOperator}
use Rattle.es_tree.specs.declared.expressions.UnaryOperator.TheVariants as unary_operator
use Rattle.es_tree.specs.declared.node.Node.{Node}
use Rattle.es_tree.specs.declared.node.Node.TheVariants as node
use Rattle.es_tree.specs.declared.numbers.NodeId.{NodeId}
use Rattle.es_tree.specs.declared.primaries.Primary.TheVariants as primary
use Rattle.es_model.specs.declared.answers.Reply.TheVariants as reply
use Rattle.es_model.specs.declared.requests.Operation.TheVariants as operation
use Rattle.es_model.specs.declared.requests.Request.TheVariants.{Has, Work}
use Rattle.es_model.specs.Completions.{Completion, Normal}
use Rattle.es_model.specs.World.{Lists}
use Rattle.es_model.specs.Program.{Program, look, charge, ask, intern}
use Rattle.es_model.specs.programs.Abrupt.{then_flag, then_key, then_value}
use Rattle.es_model.specs.programs.Converting.{to_number}
use Rattle.es_model.specs.programs.Errors.{unfit}
use Rattle.es_model.specs.programs.Texts.{to_string}
use Rattle.evaluator.specs.declared.references.Arithmetic.{Arithmetic}
use Rattle.evaluator.specs.declared.references.Arithmetic.TheVariants as arithmetic
use Rattle.evaluator.specs.declared.references.Finish.{Finish}
use Rattle.evaluator.specs.declared.references.Finish.TheVariants as finish
use Rattle.evaluator.specs.declared.references.Reference.{Reference}
use Rattle.evaluator.specs.declared.references.Reference.TheVariants as reference
use Rattle.evaluator.specs.Accesses.{access_reference}
use Rattle.evaluator.specs.Contexts.{Context, convert, evaluate, evaluate_last, given, gives, node_at, normal}
use Rattle.evaluator.specs.Errors.{join, not_an_object}
use Rattle.evaluator.specs.References.{delete_reference, get_value, put_value, resolve}
use Rattle.es_model.specs.programs.Testing.{is_truth}
use Rattle.evaluator.specs.Values.{calculate, is_nullish, is_text, or_out, type_name, whole_of}

-- ToPrimitive (7.1.1): what is no Object is a primitive value
abbrev pub to_primitive : Value → (Completion → Program) → Program
to_primitive (value.Object o) next = convert operation.ToPrimitiveDefault (value.Object o) next
to_primitive other next = next (normal other)

-- ---- unary operators (13.5)

-- delete (13.5.1.2): an access is evaluated to a reference, with its turn. Any other operand is evaluated, and the answer is true
abbrev pub delete_valued : Completion → Program
delete_valued c = then_value (λ v. gives (value.Bool true)) c

abbrev pub delete_at : Context → NodeId → Option Node → Program
delete_at here n (Some (node.Access (access.Member base name read write))) =
    charge 1 (access_reference here (access.Member base name read write) (delete_reference here))
delete_at here n (Some (node.Access (access.Index base key read write))) =
    charge 1 (access_reference here (access.Index base key read write) (delete_reference here))
delete_at here n other = evaluate here n delete_valued

-- void (13.5.2)
abbrev pub void_valued : Completion → Program
void_valued c = then_value (λ v. gives value.Undefined) c

-- typeof (13.5.3): of a name that cannot be resolved it is undefined
abbrev pub typeof_value : Value → Program
typeof_value v = look (λ l. intern (type_name l v) (λ t. gives (value.Text t)))

abbrev pub typeof_valued : Completion → Program
typeof_valued c = then_value typeof_value c

abbrev pub typeof_reference : Context → Reference → Program
typeof_reference here (reference.Global name k false) = typeof_value value.Undefined
typeof_reference here r = get_value here r typeof_valued

abbrev pub typeof_at : Context → NodeId → Option Node → Program
typeof_at here n (Some (node.Primary (primary.Name named))) = charge 1 (resolve here named (typeof_reference here))
typeof_at here n other = evaluate here n typeof_valued

-- unary `+` (13.5.4)
abbrev pub plus_valued : Completion → Program
plus_valued c = then_value (λ v. to_number v given) c

-- unary `-` (13.5.5)
abbrev pub negated : Value → Program
negated (value.Whole n) = or_out (whole_of (neg_ℤ n)) (λ m. gives (value.Whole m))
negated other = unfit

abbrev pub minus_converted : Completion → Program
minus_converted c = then_value negated c

abbrev pub minus_valued : Completion → Program
minus_valued c = then_value (λ v. to_number v minus_converted) c

-- ! (13.5.7)
abbrev pub not_value : Value → Program
not_value v = look (λ l. gives (value.Bool (not (is_truth l v))))

abbrev pub not_valued : Completion → Program
not_valued c = then_value not_value c

abbrev pub unary_expression : Context → UnaryOperator → NodeId → Program
unary_expression here unary_operator.Delete n = delete_at here n (node_at here n)
unary_expression here unary_operator.Void n = evaluate here n void_valued
unary_expression here unary_operator.Typeof n = typeof_at here n (node_at here n)
unary_expression here unary_operator.Plus n = evaluate here n plus_valued
unary_expression here unary_operator.Minus n = evaluate here n minus_valued
unary_expression here unary_operator.Not n = evaluate here n not_valued

-- ---- ApplyStringOrNumericBinaryOperator (13.15.3), and what is done with the result

abbrev pub finished : Context → Finish → Value → Program
finished here finish.Give v = gives v
finished here (finish.Put r) v = put_value here r v v

abbrev pub calculated : Context → Arithmetic → Finish → Value → Value → Program
calculated here op end (value.Whole a) (value.Whole b) = or_out (calculate op a b) (λ n. finished here end (value.Whole n))
calculated here op end a b = unfit

-- step 5: both operands to numbers
abbrev pub right_number : Context → Arithmetic → Finish → Value → Completion → Program
right_number here op end a c = then_value (λ b. calculated here op end a b) c

abbrev pub left_number : Context → Arithmetic → Finish → Value → Completion → Program
left_number here op end b c = then_value (λ a. to_number b (right_number here op end a)) c

abbrev pub numbers : Context → Arithmetic → Finish → Value → Value → Program
numbers here op end a b = to_number a (left_number here op end b)

-- step 1.c: both operands to texts
abbrev pub joined : Context → Finish → Value → Value → Program
joined here end (value.Text a) (value.Text b) = join a b (λ t. finished here end (value.Text t))
joined here end a b = unfit

abbrev pub right_text : Context → Finish → Value → Completion → Program
right_text here end a c = then_value (λ b. joined here end a b) c

abbrev pub left_text : Context → Finish → Value → Completion → Program
left_text here end b c = then_value (λ a. to_string b (right_text here end a)) c

abbrev pub add_primitives : Context → Finish → Value → Value → Program
add_primitives here end a b =
    if is_text a || is_text b then to_string a (left_text here end b) else numbers here arithmetic.Add end a b

-- steps 1.a and 1.b: both operands to primitive values
abbrev pub right_primitive : Context → Finish → Value → Completion → Program
right_primitive here end a c = then_value (λ b. add_primitives here end a b) c

abbrev pub left_primitive : Context → Finish → Value → Completion → Program
left_primitive here end b c = then_value (λ a. to_primitive b (right_primitive here end a)) c

abbrev pub apply : Context → Arithmetic → Finish → Value → Value → Program
apply here arithmetic.Add end a b = to_primitive a (left_primitive here end b)
apply here other end a b = numbers here other end a b

-- ---- binary operators (13.7 to 13.11)

abbrev pub flag_given : Completion → Program
flag_given c = then_flag (λ b. gives (value.Bool b)) c

abbrev pub flag_denied : Completion → Program
flag_denied c = then_flag (λ b. gives (value.Bool (not b))) c

-- IsLessThan (7.2.13) of two operands, with LeftFirst. Of two numbers it is step 4
abbrev pub is_less : Value → Value → Bool → (Completion → Program) → Program
is_less (value.Whole a) (value.Whole b) left_first next = next (Normal (reply.Flag (int_lt a b)))
is_less a b left_first next = ask (Work operation.LessThan (a ∷ b ∷ value.Bool left_first ∷ [])) next

-- in (13.10.1)
abbrev pub in_keyed : ObjectId → Completion → Program
in_keyed o c = then_key (λ k. ask (Has o k) flag_given) c

abbrev pub is_in : Value → Value → Program
is_in a (value.Object o) = convert operation.ToKey a (in_keyed o)
is_in a other = not_an_object

abbrev pub compare : Context → BinaryOperator → Value → Value → Program
compare here binary_operator.Multiply a b = apply here arithmetic.Multiply finish.Give a b
compare here binary_operator.Remainder a b = apply here arithmetic.Remainder finish.Give a b
compare here binary_operator.Add a b = apply here arithmetic.Add finish.Give a b
compare here binary_operator.Subtract a b = apply here arithmetic.Subtract finish.Give a b
compare here binary_operator.Less a b = is_less a b true flag_given
compare here binary_operator.Greater a b = is_less b a false flag_given
compare here binary_operator.AtMost a b = is_less b a false flag_denied
compare here binary_operator.AtLeast a b = is_less a b true flag_denied
compare here binary_operator.InstanceOf a b = ask (Work operation.InstanceOf (a ∷ b ∷ [])) flag_given
compare here binary_operator.In a b = is_in a b
compare here binary_operator.Equal a b = ask (Work operation.LooselyEqual (a ∷ b ∷ [])) flag_given
compare here binary_operator.NotEqual a b = ask (Work operation.LooselyEqual (a ∷ b ∷ [])) flag_denied
compare here binary_operator.StrictlyEqual a b = gives (value.Bool (same_value a b))
compare here binary_operator.NotStrictlyEqual a b = gives (value.Bool (not (same_value a b)))

abbrev pub right_valued : Context → BinaryOperator → Value → Completion → Program
right_valued here op a c = then_value (λ b. compare here op a b) c

abbrev pub left_valued : Context → BinaryOperator → NodeId → Completion → Program
left_valued here op right c = then_value (λ a. evaluate here right (right_valued here op a)) c

-- ---- && || ?? (13.13) and ?: (13.14)

abbrev pub goes_right : ShortOperator → Lists → Value → Bool
goes_right short_operator.And l v = is_truth l v
goes_right short_operator.Or l v = not (is_truth l v)
goes_right short_operator.Coalesce l v = is_nullish v

abbrev pub short_value : Context → ShortOperator → NodeId → Value → Program
short_value here op right v = look (λ l. if goes_right op l v then evaluate_last here right else gives v)

abbrev pub short_valued : Context → ShortOperator → NodeId → Completion → Program
short_valued here op right c = then_value (short_value here op right) c

abbrev pub test_value : Context → NodeId → NodeId → Value → Program
test_value here taken other v = look (λ l. if is_truth l v then evaluate_last here taken else evaluate_last here other)

abbrev pub test_valued : Context → NodeId → NodeId → Completion → Program
test_valued here taken other c = then_value (test_value here taken other) c

-- ---- the comma (13.16)

-- these expressions, where those before them have the value v at last
abbrev pub comma_from : Context → List NodeId → Value → Program
comma_from here [] v = gives v
comma_from here (n ∷ ns) v = evaluate here n (λ c. then_value (λ x. comma_from here ns x) c)

abbrev pub comma_valued : Context → List NodeId → Completion → Program
comma_valued here ns c = then_value (λ x. comma_from here ns x) c

abbrev pub comma_in : Option Node → List NodeId
comma_in (Some (node.Operator (operator.Comma items))) = items
comma_in other = []

-- the expressions of a node with commas
abbrev pub comma_at : Context → NodeId → List NodeId
comma_at here n = comma_in (node_at here n)
