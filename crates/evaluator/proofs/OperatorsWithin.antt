-- Operators keep within their budgets: `+` with two conversions to primitive values, two to texts and a write asks most, 83.
use Rattle.std.proofs.Common.{ℕ, ◌≤◌, Bool, true, false, Option, Some, None, List, [], ◌∷◌, arith}
use Rattle.std.specs.Prelude.{◌||◌, int_lt, neg_ℤ}
use Rattle.property_keys.specs.declared.identifiers.ObjectId.{ObjectId}
use Rattle.property_keys.specs.declared.values.Value.{Value}
use Rattle.property_keys.specs.declared.values.Value.TheVariants as value
use Rattle.es_tree.specs.declared.expressions.Access.TheVariants as access
use Rattle.es_tree.specs.declared.expressions.BinaryOperator.{BinaryOperator}
use Rattle.es_tree.specs.declared.expressions.BinaryOperator.TheVariants as binary_operator
use Rattle.es_tree.specs.declared.expressions.ShortOperator.{ShortOperator}
use Rattle.es_tree.specs.declared.expressions.UnaryOperator.{UnaryOperator}
use Rattle.es_tree.specs.declared.expressions.UnaryOperator.TheVariants as unary_operator
use Rattle.es_tree.specs.declared.node.Node.{Node}
use Rattle.es_tree.specs.declared.node.Node.TheVariants as node
use Rattle.es_tree.specs.declared.numbers.NodeId.{NodeId}
use Rattle.es_tree.specs.declared.primaries.Primary.TheVariants as primary
use Rattle.es_model.specs.declared.kinds.ErrorKind.TheVariants as error
use Rattle.es_model.specs.declared.answers.Reply.TheVariants as reply
use Rattle.es_model.specs.Completions.{Completion, Normal}
use Rattle.es_model.specs.Program.{Program}
use Rattle.evaluator.specs.declared.references.Arithmetic.{Arithmetic}
use Rattle.evaluator.specs.declared.references.Arithmetic.TheVariants as arithmetic
use Rattle.evaluator.specs.declared.references.Finish.{Finish}
use Rattle.evaluator.specs.declared.references.Finish.TheVariants as finish
use Rattle.evaluator.specs.declared.references.Reference.{Reference}
use Rattle.evaluator.specs.declared.references.Reference.TheVariants as reference
use Rattle.evaluator.specs.Contexts.{Context, node_at, normal, given}
use Rattle.evaluator.specs.Operators.{add_primitives, apply, calculated, comma_from, compare, delete_at, delete_valued, finished, flag_denied, flag_given, goes_right, in_keyed, is_in, is_less, joined, left_number, left_primitive, left_text, left_valued, minus_converted, minus_valued, negated, not_valued, not_value, numbers, plus_valued, right_number, right_primitive, right_text, right_valued, short_valued, short_value, test_valued, test_value, typeof_at, typeof_reference, typeof_valued, typeof_value, unary_expression, void_valued}
use Rattle.evaluator.specs.References.{delete_reference}
use Rattle.evaluator.specs.Values.{calculate, is_text, whole_of}
use Rattle.evaluator.proofs.AccessesWithin.{access_reference-within, given-within}
use Rattle.evaluator.proofs.ReferencesWithin.{delete_reference-within, get_value-within, put_value-within, resolve-within}
use Rattle.evaluator.proofs.WordsWithin.{On, Within, asked-within, charged-within, cond-within, done-within, error_thrown, evaluated-within, flag-within, interned-within, join-within, key-within, look-within, more-within, number-within, or_out-within, primitive-within, string-within, value-within, last_node-within}

-- ---- unary operators

pub delete_valued-within : (r b : ℕ) → On r b delete_valued
delete_valued-within r b = λ c. value-within r b _ c (λ v. (done-within _ _ _))

pub void_valued-within : (r b : ℕ) → On r b void_valued
void_valued-within r b = λ c. value-within r b _ c (λ v. (done-within _ _ _))

delete_at-within : (r b : ℕ) (here : Context) (n : NodeId) (found : Option Node) → 1 ≤ b → 16 ≤ r → Within r b (delete_at here n found)
delete_at-within r b here n (Some (node.Access (access.Member base name read write))) some enough =
    charged-within r b _ (access_reference-within r r 1 here (access.Member base name read write) (delete_reference here) (omega arith) enough (λ ref. delete_reference-within r 1 here ref (omega arith)))
delete_at-within r b here n (Some (node.Access (access.Index base key read write))) some enough =
    charged-within r b _ (access_reference-within r r 1 here (access.Index base key read write) (delete_reference here) (omega arith) enough (λ ref. delete_reference-within r 1 here ref (omega arith)))
delete_at-within r b here n other some enough = evaluated-within r b here None n delete_valued some (delete_valued-within r r)

pub typeof_value-within : (r b : ℕ) (v : Value) → Within r b (typeof_value v)
typeof_value-within r b v = look-within _ _ _ (λ l. interned-within _ _ _ _ (λ t. done-within r b (normal (value.Text t))))

pub typeof_valued-within : (r b : ℕ) → On r b typeof_valued
typeof_valued-within r b = λ c. value-within r b typeof_value c (typeof_value-within r b)

pub typeof_reference-within : (r b : ℕ) (here : Context) (ref : Reference) → 4 ≤ b → 2 ≤ r → Within r b (typeof_reference here ref)
typeof_reference-within r b here (reference.Cell name c constant) some enough = get_value-within r b 0 here (reference.Cell name c constant) typeof_valued some enough (typeof_valued-within r 0)
typeof_reference-within r b here (reference.Global name k false) some enough = typeof_value-within r b value.Undefined
typeof_reference-within r b here (reference.Global name k true) some enough = get_value-within r b 0 here (reference.Global name k true) typeof_valued some enough (typeof_valued-within r 0)
typeof_reference-within r b here (reference.Arguments v) some enough = get_value-within r b 0 here (reference.Arguments v) typeof_valued some enough (typeof_valued-within r 0)
typeof_reference-within r b here (reference.Callee name v) some enough = get_value-within r b 0 here (reference.Callee name v) typeof_valued some enough (typeof_valued-within r 0)
typeof_reference-within r b here (reference.Property base k read write) some enough = get_value-within r b 0 here (reference.Property base k read write) typeof_valued some enough (typeof_valued-within r 0)

typeof_at-within : (r b : ℕ) (here : Context) (n : NodeId) (found : Option Node) → 1 ≤ b → 6 ≤ r → Within r b (typeof_at here n found)
typeof_at-within r b here n (Some (node.Primary (primary.Name named))) some enough =
    charged-within r b _ (resolve-within r r 4 here named (typeof_reference here) enough (λ ref. typeof_reference-within r 4 here ref (omega arith) (omega arith)))
typeof_at-within r b here n other some enough = evaluated-within r b here None n typeof_valued some (typeof_valued-within r r)

pub plus_valued-within : (r b : ℕ) → 13 ≤ b → On r b plus_valued
plus_valued-within r b some = λ c. value-within r b _ c (λ v. number-within r b 0 v given (omega arith) (given-within r 0))

pub negated-within : (r b : ℕ) (v : Value) → Within r b (negated v)
negated-within r b value.Undefined = done-within _ _ _
negated-within r b value.Null = done-within _ _ _
negated-within r b (value.Bool x) = done-within _ _ _
negated-within r b (value.Whole n) = or_out-within r b (whole_of (neg_ℤ n)) _ (λ m. (done-within _ _ _))
negated-within r b (value.Text t) = done-within _ _ _
negated-within r b (value.Symbol s) = done-within _ _ _
negated-within r b (value.Object o) = done-within _ _ _

pub minus_converted-within : (r b : ℕ) → On r b minus_converted
minus_converted-within r b = λ c. value-within r b negated c (negated-within r b)

pub minus_valued-within : (r b : ℕ) → 13 ≤ b → On r b minus_valued
minus_valued-within r b some = λ c. value-within r b _ c (λ v. number-within r b 0 v minus_converted (omega arith) (minus_converted-within r 0))

pub not_value-within : (r b : ℕ) (v : Value) → Within r b (not_value v)
not_value-within r b v = look-within _ _ _ (λ l. (done-within _ _ _))

pub not_valued-within : (r b : ℕ) → On r b not_valued
not_valued-within r b = λ c. value-within r b not_value c (not_value-within r b)

pub unary-within : (r b : ℕ) (here : Context) (op : UnaryOperator) (n : NodeId) → 1 ≤ b → 16 ≤ r → Within r b (unary_expression here op n)
unary-within r b here unary_operator.Delete n some enough = delete_at-within r b here n (node_at here n) some enough
unary-within r b here unary_operator.Void n some enough = evaluated-within r b here None n void_valued some (void_valued-within r r)
unary-within r b here unary_operator.Typeof n some enough = typeof_at-within r b here n (node_at here n) some (omega arith)
unary-within r b here unary_operator.Plus n some enough = evaluated-within r b here None n plus_valued some (plus_valued-within r r (omega arith))
unary-within r b here unary_operator.Minus n some enough = evaluated-within r b here None n minus_valued some (minus_valued-within r r (omega arith))
unary-within r b here unary_operator.Not n some enough = evaluated-within r b here None n not_valued some (not_valued-within r r)

-- ---- ApplyStringOrNumericBinaryOperator, and what is done with the result

finished-within : (r b : ℕ) (here : Context) (end : Finish) (v : Value) → 35 ≤ b → 33 ≤ r → Within r b (finished here end v)
finished-within r b here finish.Give v some enough = done-within _ _ _
finished-within r b here (finish.Put ref) v some enough = put_value-within r b here ref v v some enough

pub calculated-within : (r b : ℕ) (here : Context) (op : Arithmetic) (end : Finish) (left right : Value) → 35 ≤ b → 33 ≤ r → Within r b (calculated here op end left right)
calculated-within r b here op end (value.Whole a) (value.Whole c) some enough =
    or_out-within r b (calculate op a c) _ (λ n. finished-within r b here end (value.Whole n) some enough)
calculated-within r b here op end a right some enough = done-within _ _ _

pub right_number-within : (r b : ℕ) (here : Context) (op : Arithmetic) (end : Finish) (a : Value) → 35 ≤ b → 33 ≤ r → On r b (right_number here op end a)
right_number-within r b here op end a some enough = λ c. value-within r b _ c (λ x. calculated-within r b here op end a x some enough)

pub left_number-within : (r b : ℕ) (here : Context) (op : Arithmetic) (end : Finish) (right : Value) → 48 ≤ b → 33 ≤ r → On r b (left_number here op end right)
left_number-within r b here op end right some enough = λ c. value-within r b _ c (λ a. number-within r b 35 right _ (omega arith) (right_number-within r 35 here op end a (omega arith) enough))

numbers-within : (r b : ℕ) (here : Context) (op : Arithmetic) (end : Finish) (a right : Value) → 61 ≤ b → 33 ≤ r → Within r b (numbers here op end a right)
numbers-within r b here op end a right some enough = number-within r b 48 a _ (omega arith) (left_number-within r 48 here op end right (omega arith) enough)

pub joined-within : (r b : ℕ) (here : Context) (end : Finish) (a right : Value) → 35 ≤ b → 33 ≤ r → Within r b (joined here end a right)
joined-within r b here end (value.Text a) (value.Text c) some enough = join-within r b a c _ (λ t. finished-within r b here end (value.Text t) some enough)
joined-within r b here end a right some enough = done-within _ _ _

pub right_text-within : (r b : ℕ) (here : Context) (end : Finish) (a : Value) → 35 ≤ b → 33 ≤ r → On r b (right_text here end a)
right_text-within r b here end a some enough = λ c. value-within r b _ c (λ x. joined-within r b here end a x some enough)

pub left_text-within : (r b : ℕ) (here : Context) (end : Finish) (right : Value) → 48 ≤ b → 33 ≤ r → On r b (left_text here end right)
left_text-within r b here end right some enough = λ c. value-within r b _ c (λ a. string-within r b 35 right _ (omega arith) (right_text-within r 35 here end a (omega arith) enough))

pub add_primitives-within : (r b : ℕ) (here : Context) (end : Finish) (a right : Value) → 61 ≤ b → 33 ≤ r → Within r b (add_primitives here end a right)
add_primitives-within r b here end a right some enough =
    cond-within r b (is_text a || is_text right) _ _ (string-within r b 48 a _ (omega arith) (left_text-within r 48 here end right (omega arith) enough)) (numbers-within r b here arithmetic.Add end a right some enough)

pub right_primitive-within : (r b : ℕ) (here : Context) (end : Finish) (a : Value) → 61 ≤ b → 33 ≤ r → On r b (right_primitive here end a)
right_primitive-within r b here end a some enough = λ c. value-within r b _ c (λ x. add_primitives-within r b here end a x some enough)

pub left_primitive-within : (r b : ℕ) (here : Context) (end : Finish) (right : Value) → 72 ≤ b → 33 ≤ r → On r b (left_primitive here end right)
left_primitive-within r b here end right some enough = λ c. value-within r b _ c (λ a. primitive-within r b 61 right _ (omega arith) (right_primitive-within r 61 here end a (omega arith) enough))

pub apply-within : (r b : ℕ) (here : Context) (op : Arithmetic) (end : Finish) (a right : Value) → 83 ≤ b → 33 ≤ r → Within r b (apply here op end a right)
apply-within r b here arithmetic.Add end a right some enough = primitive-within r b 72 a _ (omega arith) (left_primitive-within r 72 here end right (omega arith) enough)
apply-within r b here arithmetic.Subtract end a right some enough = numbers-within r b here arithmetic.Subtract end a right (omega arith) enough
apply-within r b here arithmetic.Multiply end a right some enough = numbers-within r b here arithmetic.Multiply end a right (omega arith) enough
apply-within r b here arithmetic.Remainder end a right some enough = numbers-within r b here arithmetic.Remainder end a right (omega arith) enough

-- ---- binary operators

pub flag_given-within : (r b : ℕ) → On r b flag_given
flag_given-within r b = λ c. flag-within r b _ c (λ x. (done-within _ _ _))

pub flag_denied-within : (r b : ℕ) → On r b flag_denied
flag_denied-within r b = λ c. flag-within r b _ c (λ x. (done-within _ _ _))

is_less-within : (r b : ℕ) (a right : Value) (left_first : Bool) (next : Completion → Program) → 41 ≤ b → On r 0 next → Within r b (is_less a right left_first next)
is_less-within r b (value.Whole n) (value.Whole m) left_first next some h = more-within r 0 b _ (omega arith) (h (Normal (reply.Flag (int_lt n m))))
is_less-within r b a right left_first next some h = (asked-within _ _ 0 _ _ (omega arith) h)

pub in_keyed-within : (r b : ℕ) (o : ObjectId) → 2 ≤ b → On r b (in_keyed o)
in_keyed-within r b o some = λ c. key-within r b _ c (λ k. (asked-within _ _ 0 _ _ (omega arith) (flag_given-within r 0)))

is_in-within : (r b : ℕ) (a right : Value) → 17 ≤ b → Within r b (is_in a right)
is_in-within r b a (value.Object o) some = (asked-within _ _ 2 _ _ (omega arith) (in_keyed-within r 2 o (omega arith)))
is_in-within r b a value.Undefined some = error_thrown _ _ error.TypeError _
is_in-within r b a value.Null some = error_thrown _ _ error.TypeError _
is_in-within r b a (value.Bool x) some = error_thrown _ _ error.TypeError _
is_in-within r b a (value.Whole n) some = error_thrown _ _ error.TypeError _
is_in-within r b a (value.Text t) some = error_thrown _ _ error.TypeError _
is_in-within r b a (value.Symbol s) some = error_thrown _ _ error.TypeError _

pub compare-within : (r b : ℕ) (here : Context) (op : BinaryOperator) (a right : Value) → 83 ≤ b → 33 ≤ r → Within r b (compare here op a right)
compare-within r b here binary_operator.Multiply a right some enough = apply-within r b here arithmetic.Multiply finish.Give a right some enough
compare-within r b here binary_operator.Remainder a right some enough = apply-within r b here arithmetic.Remainder finish.Give a right some enough
compare-within r b here binary_operator.Add a right some enough = apply-within r b here arithmetic.Add finish.Give a right some enough
compare-within r b here binary_operator.Subtract a right some enough = apply-within r b here arithmetic.Subtract finish.Give a right some enough
compare-within r b here binary_operator.Less a right some enough = is_less-within r b a right true flag_given (omega arith) (flag_given-within r 0)
compare-within r b here binary_operator.Greater a right some enough = is_less-within r b right a false flag_given (omega arith) (flag_given-within r 0)
compare-within r b here binary_operator.AtMost a right some enough = is_less-within r b right a false flag_denied (omega arith) (flag_denied-within r 0)
compare-within r b here binary_operator.AtLeast a right some enough = is_less-within r b a right true flag_denied (omega arith) (flag_denied-within r 0)
compare-within r b here binary_operator.InstanceOf a right some enough = (asked-within _ _ 0 _ _ (omega arith) (flag_given-within r 0))
compare-within r b here binary_operator.In a right some enough = is_in-within r b a right (omega arith)
compare-within r b here binary_operator.Equal a right some enough = (asked-within _ _ 0 _ _ (omega arith) (flag_given-within r 0))
compare-within r b here binary_operator.NotEqual a right some enough = (asked-within _ _ 0 _ _ (omega arith) (flag_denied-within r 0))
compare-within r b here binary_operator.StrictlyEqual a right some enough = done-within _ _ _
compare-within r b here binary_operator.NotStrictlyEqual a right some enough = done-within _ _ _

pub right_valued-within : (r b : ℕ) (here : Context) (op : BinaryOperator) (a : Value) → 83 ≤ b → 33 ≤ r → On r b (right_valued here op a)
right_valued-within r b here op a some enough = λ c. value-within r b _ c (λ x. compare-within r b here op a x some enough)

pub left_valued-within : (r b : ℕ) (here : Context) (op : BinaryOperator) (right : NodeId) → 1 ≤ b → 83 ≤ r → On r b (left_valued here op right)
left_valued-within r b here op right some enough = λ c. value-within r b _ c (λ a.
    evaluated-within r b here None right (right_valued here op a) some (right_valued-within r r here op a enough (omega arith)))

-- ---- && || ?? ?: and the comma

pub short_value-within : (r b : ℕ) (here : Context) (op : ShortOperator) (right : NodeId) (v : Value) → 1 ≤ b → Within r b (short_value here op right v)
short_value-within r b here op right v some = look-within _ _ _ (λ l. cond-within r b (goes_right op l v) _ _ (last_node-within r b here right some) (done-within _ _ _))

pub short_valued-within : (r b : ℕ) (here : Context) (op : ShortOperator) (right : NodeId) → 1 ≤ b → On r b (short_valued here op right)
short_valued-within r b here op right some = λ c. value-within r b _ c (λ v. short_value-within r b here op right v some)

pub test_value-within : (r b : ℕ) (here : Context) (first other : NodeId) (v : Value) → 1 ≤ b → Within r b (test_value here first other v)
test_value-within r b here first other v some = look-within _ _ _ (λ l. cond-within r b _ _ _ (last_node-within r b here first some) (last_node-within r b here other some))

pub test_valued-within : (r b : ℕ) (here : Context) (first other : NodeId) → 1 ≤ b → On r b (test_valued here first other)
test_valued-within r b here first other some = λ c. value-within r b _ c (λ v. test_value-within r b here first other v some)

pub comma-within : (r b : ℕ) (here : Context) (items : List NodeId) (v : Value) → 1 ≤ b → 1 ≤ r → Within r b (comma_from here items v)
comma-within r b here [] v some enough = done-within _ _ _
comma-within r b here (n ∷ ns) v some enough = evaluated-within r b here None n _ some (λ c. value-within r r (comma_from here ns) c (λ x. comma-within r r here ns x enough enough))
