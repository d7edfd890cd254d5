-- Operators keep worlds sound.
use Rattle.std.proofs.Common.{ℕ, ℤ, Bool, true, false, cond, Option, Some, None, List, [], ◌∷◌, refl, arith}
use Rattle.std.specs.Prelude.{◌+ℤ◌, ◌-ℤ◌, ◌*ℤ◌, codes, int_lt, int_rem, neg_ℤ, pos, ⊤}
use Rattle.std.specs.Ordering.{int_eq}
use Rattle.property_keys.specs.declared.identifiers.ObjectId.{ObjectId}
use Rattle.property_keys.specs.declared.values.Value.{Value}
use Rattle.property_keys.specs.declared.values.Value.TheVariants as value
use Rattle.property_keys.specs.Wholes.{IsWhole}
use Rattle.es_tree.specs.declared.expressions.Access.TheVariants as access
use Rattle.es_tree.specs.declared.expressions.BinaryOperator.{BinaryOperator}
use Rattle.es_tree.specs.declared.expressions.BinaryOperator.TheVariants as binary_operator
use Rattle.es_tree.specs.declared.expressions.ShortOperator.{ShortOperator}
use Rattle.es_tree.specs.declared.expressions.UnaryOperator.{UnaryOperator}
use Rattle.es_tree.specs.declared.expressions.UnaryOperator.TheVariants as unary_operator
use Rattle.es_tree.specs.declared.node.Node.{Node}
use Rattle.es_tree.specs.declared.node.Node.TheVariants as node
use Rattle.es_tree.specs.declared.numbers.NodeId.{NodeId}
use Rattle.es_tree.specs.declared.primaries.Primary.TheVariants as primary
use Rattle.es_model.specs.declared.requests.Operation.TheVariants as operation
use Rattle.es_model.specs.declared.requests.Request.TheVariants.{Has, Work}
use Rattle.es_model.specs.declared.answers.Reply.TheVariants as reply
use Rattle.es_model.specs.Completions.{Completion, Normal}
use Rattle.es_model.specs.World.{Lists, World, kind}
use Rattle.es_model.specs.Program.{Program, ask, done}
use Rattle.es_model.specs.Known.{IsObject, IfThere, IsKnown}
use Rattle.es_model.specs.Sound.{IsShort, IsSound}
use Rattle.es_model.specs.Kept.{IsLater}
use Rattle.es_model.specs.programs.Testing.{is_callable_kind}
use Rattle.es_model.proofs.Keeping.{later_none}
use Rattle.evaluator.specs.declared.references.Arithmetic.{Arithmetic}
use Rattle.evaluator.specs.declared.references.Arithmetic.TheVariants as arithmetic
use Rattle.evaluator.specs.declared.references.Finish.{Finish}
use Rattle.evaluator.specs.declared.references.Finish.TheVariants as finish
use Rattle.evaluator.specs.declared.references.Reference.{Reference}
use Rattle.evaluator.specs.declared.references.Reference.TheVariants as reference
use Rattle.evaluator.specs.Contexts.{Context, evaluate_last, given, node_at, normal}
use Rattle.evaluator.specs.Operators.{add_primitives, apply, calculated, comma_from, compare, delete_at, delete_valued, finished, flag_denied, flag_given, in_keyed, is_in, is_less, joined, left_number, left_primitive, left_text, left_valued, minus_converted, minus_valued, negated, not_valued, not_value, numbers, plus_valued, right_number, right_primitive, right_text, right_valued, short_valued, short_value, test_valued, test_value, typeof_at, typeof_reference, typeof_valued, typeof_value, unary_expression, void_valued}
use Rattle.evaluator.specs.References.{delete_reference}
use Rattle.evaluator.specs.Values.{calculate, type_name, whole_of}
use Rattle.evaluator.proofs.AccessesKept.{charged_access-kept, given-kept, key_asked-kept, number_asked-kept, primitive_asked-kept, text_asked-kept}
use Rattle.evaluator.proofs.ReferencesKept.{IsKnownReference, delete_reference-kept, get_value-kept, not_object-kept, put_value-kept, reference-stays, resolve-kept}
use Rattle.evaluator.proofs.WordsKept.{Keeps, done-kept, look-kept, IsHere, OnEnd, asked-kept, charged-kept, evaluated-kept, flag-kept, here-stays, interned-kept, join-kept, kept-if, key-kept, object-stays, or_out-kept, value-kept, value-stays, whole-known}

-- ---- unary operators

delete_valued-kept : (w : World) → OnEnd w delete_valued
delete_valued-kept w = λ c v sv l known. value-kept v _ c sv known (λ x k. (done-kept v _ sv tt))

void_valued-kept : (w : World) → OnEnd w void_valued
void_valued-kept w = λ c v sv l known. value-kept v _ c sv known (λ x k. (done-kept v _ sv tt))

delete_at-kept : (w : World) (here : Context) (n : NodeId) (found : Option Node) → IsSound w → IsHere w here → Keeps (delete_at here n found) w
delete_at-kept w here n (Some (node.Access (access.Member base name read write))) s h =
    charged_access-kept w here (access.Member base name read write) (delete_reference here) s h (λ ref v sv l known. delete_reference-kept v here ref sv known)
delete_at-kept w here n (Some (node.Access (access.Index base key read write))) s h =
    charged_access-kept w here (access.Index base key read write) (delete_reference here) s h (λ ref v sv l known. delete_reference-kept v here ref sv known)
delete_at-kept w here n other s h = evaluated-kept w here None n delete_valued s h tt (delete_valued-kept w)

short-cond : (b : Bool) (x y : List ℕ) → IsShort x → IsShort y → IsShort (cond b x y)
short-cond true x y h h' = h
short-cond false x y h h' = h'

type_name-short : (l : Lists) (v : Value) → IsShort (type_name l v)
type_name-short l value.Undefined = omega arith
type_name-short l value.Null = omega arith
type_name-short l (value.Bool b) = omega arith
type_name-short l (value.Whole n) = omega arith
type_name-short l (value.Text t) = omega arith
type_name-short l (value.Symbol y) = omega arith
type_name-short l (value.Object o) = short-cond (is_callable_kind (kind l o)) (codes "function") (codes "object") (omega arith) (omega arith)

pub typeof_value-kept : (w : World) (v : Value) → IsSound w → Keeps (typeof_value v) w
typeof_value-kept w v s = look-kept w _ (interned-kept w (type_name w.lists v) _ s (type_name-short w.lists v) (λ t u su l known. done-kept u (normal (value.Text t)) su known))

typeof_valued-kept : (w : World) → OnEnd w typeof_valued
typeof_valued-kept w = λ c v sv l known. value-kept v typeof_value c sv known (λ x k. typeof_value-kept v x sv)

pub typeof_reference-kept : (w : World) (here : Context) (ref : Reference) → IsSound w → IsKnownReference w.lists ref → Keeps (typeof_reference here ref) w
typeof_reference-kept w here (reference.Cell name c constant) s known = get_value-kept w here (reference.Cell name c constant) typeof_valued s known (typeof_valued-kept w)
typeof_reference-kept w here (reference.Global name k false) s known = typeof_value-kept w value.Undefined s
typeof_reference-kept w here (reference.Global name k true) s known = get_value-kept w here (reference.Global name k true) typeof_valued s known (typeof_valued-kept w)
typeof_reference-kept w here (reference.Arguments x) s known = get_value-kept w here (reference.Arguments x) typeof_valued s known (typeof_valued-kept w)
typeof_reference-kept w here (reference.Callee name x) s known = get_value-kept w here (reference.Callee name x) typeof_valued s known (typeof_valued-kept w)
typeof_reference-kept w here (reference.Property base k read write) s known = get_value-kept w here (reference.Property base k read write) typeof_valued s known (typeof_valued-kept w)

typeof_at-kept : (w : World) (here : Context) (n : NodeId) (found : Option Node) → IsSound w → IsHere w here → Keeps (typeof_at here n found) w
typeof_at-kept w here n (Some (node.Primary (primary.Name named))) s h = charged-kept w _ s (λ v sv l.
    resolve-kept v here named (typeof_reference here) sv (here-stays w v l here h) (λ ref u su later known. typeof_reference-kept u here ref su known))
typeof_at-kept w here n other s h = evaluated-kept w here None n typeof_valued s h tt (typeof_valued-kept w)

pub plus_valued-kept : (w : World) → OnEnd w plus_valued
plus_valued-kept w = λ c v sv l known. value-kept v _ c sv known (λ x k. number_asked-kept v x given sv k (given-kept v))

pub negated-kept : (w : World) (v : Value) → IsSound w → Keeps (negated v) w
negated-kept w value.Undefined s = done-kept w _ s tt
negated-kept w value.Null s = done-kept w _ s tt
negated-kept w (value.Bool x) s = done-kept w _ s tt
negated-kept w (value.Whole n) s = or_out-kept w (whole_of (neg_ℤ n)) _ s (whole-known (neg_ℤ n)) (λ m whole. (done-kept w _ s whole))
negated-kept w (value.Text t) s = done-kept w _ s tt
negated-kept w (value.Symbol y) s = done-kept w _ s tt
negated-kept w (value.Object o) s = done-kept w _ s tt

minus_converted-kept : (w : World) → OnEnd w minus_converted
minus_converted-kept w = λ c v sv l known. value-kept v negated c sv known (λ x k. negated-kept v x sv)

pub minus_valued-kept : (w : World) → OnEnd w minus_valued
minus_valued-kept w = λ c v sv l known. value-kept v _ c sv known (λ x k. number_asked-kept v x minus_converted sv k (minus_converted-kept v))

not_valued-kept : (w : World) → OnEnd w not_valued
not_valued-kept w = λ c v sv l known. value-kept v not_value c sv known (λ x k. look-kept v _ (done-kept v _ sv tt))

pub unary-kept : (w : World) (here : Context) (op : UnaryOperator) (n : NodeId) → IsSound w → IsHere w here → Keeps (unary_expression here op n) w
unary-kept w here unary_operator.Delete n s h = delete_at-kept w here n (node_at here n) s h
unary-kept w here unary_operator.Void n s h = evaluated-kept w here None n void_valued s h tt (void_valued-kept w)
unary-kept w here unary_operator.Typeof n s h = typeof_at-kept w here n (node_at here n) s h
unary-kept w here unary_operator.Plus n s h = evaluated-kept w here None n plus_valued s h tt (plus_valued-kept w)
unary-kept w here unary_operator.Minus n s h = evaluated-kept w here None n minus_valued s h tt (minus_valued-kept w)
unary-kept w here unary_operator.Not n s h = evaluated-kept w here None n not_valued s h tt (not_valued-kept w)

-- ---- ApplyStringOrNumericBinaryOperator, and what is done with the result

abbrev pub IsKnownFinish : Lists → Finish → Type 0
IsKnownFinish l finish.Give = ⊤
IsKnownFinish l (finish.Put ref) = IsKnownReference l ref

pub finish-stays : (w v : World) → IsLater w v → (end : Finish) → IsKnownFinish w.lists end → IsKnownFinish v.lists end
finish-stays w v l finish.Give h = tt
finish-stays w v l (finish.Put ref) h = reference-stays w v l ref h

finished-kept : (w : World) (here : Context) (end : Finish) (v : Value) → IsSound w → IsKnownFinish w.lists end → IsKnown w.lists v → Keeps (finished here end v) w
finished-kept w here finish.Give v s known there = done-kept w _ s there
finished-kept w here (finish.Put ref) v s known there = put_value-kept w here ref v v s known there there

remainder-whole : (a b : ℤ) (zero : Bool) → IfThere IsWhole (cond zero None (whole_of (int_rem a b)))
remainder-whole a b true = tt
remainder-whole a b false = whole-known (int_rem a b)

pub calculate-whole : (op : Arithmetic) (a b : ℤ) → IfThere IsWhole (calculate op a b)
calculate-whole arithmetic.Add a b = whole-known (a +ℤ b)
calculate-whole arithmetic.Subtract a b = whole-known (a -ℤ b)
calculate-whole arithmetic.Multiply a b = whole-known (a *ℤ b)
calculate-whole arithmetic.Remainder a b = remainder-whole a b (int_eq b (pos 0))

pub calculated-kept : (w : World) (here : Context) (op : Arithmetic) (end : Finish) (a right : Value) → IsSound w → IsKnownFinish w.lists end → Keeps (calculated here op end a right) w
calculated-kept w here op end (value.Whole a) (value.Whole c) s known =
    or_out-kept w (calculate op a c) _ s (calculate-whole op a c) (λ n whole. finished-kept w here end (value.Whole n) s known whole)
calculated-kept w here op end a right s known = done-kept w _ s tt

right_number-kept : (w : World) (here : Context) (op : Arithmetic) (end : Finish) (a : Value) → IsKnownFinish w.lists end → OnEnd w (right_number here op end a)
right_number-kept w here op end a known = λ c v sv l k. value-kept v _ c sv k (λ x there. calculated-kept v here op end a x sv (finish-stays w v l end known))

left_number-kept : (w : World) (here : Context) (op : Arithmetic) (end : Finish) (right : Value) → IsKnownFinish w.lists end → IsKnown w.lists right → OnEnd w (left_number here op end right)
left_number-kept w here op end right known there = λ c v sv l k. value-kept v _ c sv k (λ a first.
    number_asked-kept v right (right_number here op end a) sv (value-stays w v l right there) (right_number-kept v here op end a (finish-stays w v l end known)))

numbers-kept : (w : World) (here : Context) (op : Arithmetic) (end : Finish) (a right : Value) → IsSound w → IsKnownFinish w.lists end → IsKnown w.lists a → IsKnown w.lists right → Keeps (numbers here op end a right) w
numbers-kept w here op end a right s known first there = number_asked-kept w a (left_number here op end right) s first (left_number-kept w here op end right known there)

pub joined-kept : (w : World) (here : Context) (end : Finish) (a right : Value) → IsSound w → IsKnownFinish w.lists end → Keeps (joined here end a right) w
joined-kept w here end (value.Text a) (value.Text c) s known = join-kept w a c _ s (λ t v sv l there. finished-kept v here end (value.Text t) sv (finish-stays w v l end known) there)
joined-kept w here end a right s known = done-kept w _ s tt

right_text-kept : (w : World) (here : Context) (end : Finish) (a : Value) → IsKnownFinish w.lists end → OnEnd w (right_text here end a)
right_text-kept w here end a known = λ c v sv l k. value-kept v _ c sv k (λ x there. joined-kept v here end a x sv (finish-stays w v l end known))

left_text-kept : (w : World) (here : Context) (end : Finish) (right : Value) → IsKnownFinish w.lists end → IsKnown w.lists right → OnEnd w (left_text here end right)
left_text-kept w here end right known there = λ c v sv l k. value-kept v _ c sv k (λ a first.
    text_asked-kept v right (right_text here end a) sv (value-stays w v l right there) (right_text-kept v here end a (finish-stays w v l end known)))

pub add_primitives-kept : (w : World) (here : Context) (end : Finish) (a right : Value) → IsSound w → IsKnownFinish w.lists end → IsKnown w.lists a → IsKnown w.lists right → Keeps (add_primitives here end a right) w
add_primitives-kept w here end a right s known first there =
    kept-if w _ _ _ (text_asked-kept w a (left_text here end right) s first (left_text-kept w here end right known there)) (numbers-kept w here arithmetic.Add end a right s known first there)

right_primitive-kept : (w : World) (here : Context) (end : Finish) (a : Value) → IsKnownFinish w.lists end → IsKnown w.lists a → OnEnd w (right_primitive here end a)
right_primitive-kept w here end a known first = λ c v sv l k. value-kept v _ c sv k (λ x there.
    add_primitives-kept v here end a x sv (finish-stays w v l end known) (value-stays w v l a first) there)

left_primitive-kept : (w : World) (here : Context) (end : Finish) (right : Value) → IsKnownFinish w.lists end → IsKnown w.lists right → OnEnd w (left_primitive here end right)
left_primitive-kept w here end right known there = λ c v sv l k. value-kept v _ c sv k (λ a first.
    primitive_asked-kept v right (right_primitive here end a) sv (value-stays w v l right there) (right_primitive-kept v here end a (finish-stays w v l end known) first))

pub apply-kept : (w : World) (here : Context) (op : Arithmetic) (end : Finish) (a right : Value) → IsSound w → IsKnownFinish w.lists end → IsKnown w.lists a → IsKnown w.lists right → Keeps (apply here op end a right) w
apply-kept w here arithmetic.Add end a right s known first there = primitive_asked-kept w a (left_primitive here end right) s first (left_primitive-kept w here end right known there)
apply-kept w here arithmetic.Subtract end a right s known first there = numbers-kept w here arithmetic.Subtract end a right s known first there
apply-kept w here arithmetic.Multiply end a right s known first there = numbers-kept w here arithmetic.Multiply end a right s known first there
apply-kept w here arithmetic.Remainder end a right s known first there = numbers-kept w here arithmetic.Remainder end a right s known first there

-- ---- binary operators

flag_given-kept : (w : World) → OnEnd w flag_given
flag_given-kept w = λ c v sv l known. flag-kept v _ c sv known (λ b. (done-kept v _ sv tt))

flag_denied-kept : (w : World) → OnEnd w flag_denied
flag_denied-kept w = λ c v sv l known. flag-kept v _ c sv known (λ b. (done-kept v _ sv tt))

is_less-kept : (w : World) (a right : Value) (left_first : Bool) (next : Completion → Program) → IsSound w → IsKnown w.lists a → IsKnown w.lists right → OnEnd w next → Keeps (is_less a right left_first next) w
is_less-kept w (value.Whole n) (value.Whole m) left_first next s first there f = f (Normal (reply.Flag (int_lt n m))) w s (later_none w) tt
is_less-kept w a right left_first next s first there f = asked-kept w (Work operation.LessThan (a ∷ right ∷ value.Bool left_first ∷ [])) next s (tt, (first, (there, (tt, tt)))) f

in_keyed-kept : (w : World) (o : ObjectId) → IsObject w.lists o → OnEnd w (in_keyed o)
in_keyed-kept w o there = λ c v sv l known. key-kept v _ c sv known (λ k key. asked-kept v (Has o k) flag_given sv (object-stays w v l o there, key) (flag_given-kept v))

is_in-kept : (w : World) (a right : Value) → IsSound w → IsKnown w.lists a → IsKnown w.lists right → Keeps (is_in a right) w
is_in-kept w a (value.Object o) s first there = key_asked-kept w a (in_keyed o) s first (in_keyed-kept w o there)
is_in-kept w a value.Undefined s first there = not_object-kept w s
is_in-kept w a value.Null s first there = not_object-kept w s
is_in-kept w a (value.Bool x) s first there = not_object-kept w s
is_in-kept w a (value.Whole n) s first there = not_object-kept w s
is_in-kept w a (value.Text t) s first there = not_object-kept w s
is_in-kept w a (value.Symbol y) s first there = not_object-kept w s

two-asked : (w : World) (a right : Value) (next : Completion → Program) → IsSound w → IsKnown w.lists a → IsKnown w.lists right → OnEnd w next → Keeps (ask (Work operation.LooselyEqual (a ∷ right ∷ [])) next) w
two-asked w a right next s first there f = asked-kept w (Work operation.LooselyEqual (a ∷ right ∷ [])) next s (refl, (first, (there, tt))) f

pub compare-kept : (w : World) (here : Context) (op : BinaryOperator) (a right : Value) → IsSound w → IsKnown w.lists a → IsKnown w.lists right → Keeps (compare here op a right) w
compare-kept w here binary_operator.Multiply a right s first there = apply-kept w here arithmetic.Multiply finish.Give a right s tt first there
compare-kept w here binary_operator.Remainder a right s first there = apply-kept w here arithmetic.Remainder finish.Give a right s tt first there
compare-kept w here binary_operator.Add a right s first there = apply-kept w here arithmetic.Add finish.Give a right s tt first there
compare-kept w here binary_operator.Subtract a right s first there = apply-kept w here arithmetic.Subtract finish.Give a right s tt first there
compare-kept w here binary_operator.Less a right s first there = is_less-kept w a right true flag_given s first there (flag_given-kept w)
compare-kept w here binary_operator.Greater a right s first there = is_less-kept w right a false flag_given s there first (flag_given-kept w)
compare-kept w here binary_operator.AtMost a right s first there = is_less-kept w right a false flag_denied s there first (flag_denied-kept w)
compare-kept w here binary_operator.AtLeast a right s first there = is_less-kept w a right true flag_denied s first there (flag_denied-kept w)
compare-kept w here binary_operator.InstanceOf a right s first there = asked-kept w (Work operation.InstanceOf (a ∷ right ∷ [])) flag_given s (refl, (first, (there, tt))) (flag_given-kept w)
compare-kept w here binary_operator.In a right s first there = is_in-kept w a right s first there
compare-kept w here binary_operator.Equal a right s first there = two-asked w a right flag_given s first there (flag_given-kept w)
compare-kept w here binary_operator.NotEqual a right s first there = two-asked w a right flag_denied s first there (flag_denied-kept w)
compare-kept w here binary_operator.StrictlyEqual a right s first there = done-kept w _ s tt
compare-kept w here binary_operator.NotStrictlyEqual a right s first there = done-kept w _ s tt

pub right_valued-kept : (w : World) (here : Context) (op : BinaryOperator) (a : Value) → IsKnown w.lists a → OnEnd w (right_valued here op a)
right_valued-kept w here op a first = λ c v sv l known. value-kept v _ c sv known (λ x there. compare-kept v here op a x sv (value-stays w v l a first) there)

pub left_valued-kept : (w : World) (here : Context) (op : BinaryOperator) (right : NodeId) → IsHere w here → OnEnd w (left_valued here op right)
left_valued-kept w here op right h = λ c v sv l known. value-kept v _ c sv known (λ a first.
    evaluated-kept v here None right (right_valued here op a) sv (here-stays w v l here h) tt (right_valued-kept v here op a first))

-- ---- && || ?? ?: and the comma

pub last-kept : (w : World) (here : Context) (n : NodeId) → IsSound w → IsHere w here → Keeps (evaluate_last here n) w
last-kept w here n s h = evaluated-kept w here None n done s h tt (λ c v sv l known. (done-kept v _ sv known))

pub short_value-kept : (w : World) (here : Context) (op : ShortOperator) (right : NodeId) (v : Value) → IsSound w → IsHere w here → IsKnown w.lists v → Keeps (short_value here op right v) w
short_value-kept w here op right v s h known = look-kept w _ (kept-if w _ _ _ (last-kept w here right s h) (done-kept w _ s known))

pub short_valued-kept : (w : World) (here : Context) (op : ShortOperator) (right : NodeId) → IsHere w here → OnEnd w (short_valued here op right)
short_valued-kept w here op right h = λ c v sv l known. value-kept v _ c sv known (λ x k. short_value-kept v here op right x sv (here-stays w v l here h) k)

pub test_value-kept : (w : World) (here : Context) (first other : NodeId) (v : Value) → IsSound w → IsHere w here → Keeps (test_value here first other v) w
test_value-kept w here first other v s h = look-kept w _ (kept-if w _ _ _ (last-kept w here first s h) (last-kept w here other s h))

pub test_valued-kept : (w : World) (here : Context) (first other : NodeId) → IsHere w here → OnEnd w (test_valued here first other)
test_valued-kept w here first other h = λ c v sv l known. value-kept v _ c sv known (λ x k. test_value-kept v here first other x sv (here-stays w v l here h))

pub comma-kept : (w : World) (here : Context) (items : List NodeId) (v : Value) → IsSound w → IsHere w here → IsKnown w.lists v → Keeps (comma_from here items v) w
comma-kept w here [] v s h known = done-kept w _ s known
comma-kept w here (n ∷ ns) v s h known = evaluated-kept w here None n _ s h tt (λ c u su l k.
    value-kept u (comma_from here ns) c su k (λ x there. comma-kept u here ns x su (here-stays w u l here h) there))
