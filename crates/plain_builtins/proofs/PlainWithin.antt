-- The abstract operations keep within the weights of their requests, where a charge gives r, which is enough for what any request weighs.
use Rattle.std.proofs.Common.{ℕ, zero, suc, ℤ, ◌≤◌, ◌<◌, ◌+◌, ◌-◌, Bool, true, false, Option, Some, None, Result, Ok, Err, List, [], ◌∷◌, ◌++◌, lit<, arith}
use Rattle.std.specs.Prelude.{codes, nat_eq, nat_le, pos, min, int_lt}
use Rattle.property_keys.specs.declared.identifiers.ObjectId.{ObjectId}
use Rattle.property_keys.specs.declared.identifiers.TextId.{TextId}
use Rattle.property_keys.specs.declared.keys.PropKey.{PropKey}
use Rattle.property_keys.specs.declared.keys.PropKey.TheVariants.{Index, Name}
use Rattle.property_keys.specs.declared.values.Value.{Value}
use Rattle.property_keys.specs.declared.values.Value.TheVariants as value
use Rattle.property_keys.specs.Decimals.{whole_units}
use Rattle.property_keys.specs.Keys.{most_index}
use Rattle.property_keys.specs.Wholes.{most_whole}
use Rattle.descriptors.specs.declared.fields.Descriptor.{Descriptor}
use Rattle.descriptors.specs.Kinds.{is_of_both_kinds}
use Rattle.es_model.specs.declared.answers.Reply.TheVariants as reply
use Rattle.es_model.specs.declared.kinds.ErrorKind.TheVariants as error
use Rattle.es_model.specs.declared.requests.Operation.{Operation}
use Rattle.es_model.specs.declared.requests.Operation.TheVariants as operation
use Rattle.es_model.specs.declared.requests.Request.TheVariants.{Call, Work}
use Rattle.es_model.specs.Completions.{Completion, Normal}
use Rattle.es_model.specs.World.{kind}
use Rattle.es_model.specs.Program.{Program, done, look, ask, intern}
use Rattle.es_model.specs.Weights.{operation_weight, IsWithin}
use Rattle.es_model.specs.programs.Abrupt.{value_in, flag_in, proto_in, taken}
use Rattle.es_model.specs.programs.Converting.{length_got, length_given, to_length}
use Rattle.es_model.specs.programs.Errors.{throw_error, unwritten, not_a_function}
use Rattle.es_model.specs.programs.Methods.{get, get_named}
use Rattle.es_model.specs.programs.Testing.{as_object, is_callable, is_callable_kind, is_truth}
use Rattle.es_model.proofs.SharedWithin.{get_named-within, has_named-within, then_method-within, then_whole-within, length_got-within}
use Rattle.es_model.proofs.Within.{go_on-within, within-cond, within-more}
use Rattle.plain_builtins.specs.ArrayLikes.{gives_all, key_put, element_put, element_given, get_element, elements_left, elements_of, list_by}
use Rattle.plain_builtins.specs.Comparisons.{says, equal_in, says_equal, numbered, primitives_equal, left_converted, right_converted, is_nullish, loosely_equal_by, numbers_less, as_text, less_by, primitives_less, converted_by, converted, right_after, left_first, left_after, right_first, less_than}
use Rattle.plain_builtins.specs.Conversions.{cannot_convert, first_name, second_name, primitive_by, primitive_or, last_called, second_found, second_given, second_tried, first_called, first_found, first_given, ordinary_to_primitive, exotic_found, to_primitive_by, text_of, to_text_by, number_in, no_number, with_number, gives_number, whole_of, to_whole_by, index_of, key_of_number, key_in, to_key_by}
use Rattle.plain_builtins.specs.Instances.{most_rounds, same_object, parent_found, instance_round, prototype_by, prototype_given, has_instance, handler_found, instance_of_by, ordinary_by}
use Rattle.plain_builtins.specs.Plain.{one_operand, two_operands, less_than_by, three_operands, operands_in, work_of, work_program, print_row, row_program}
use Rattle.plain_builtins.specs.Printing.{print_left, print}
use Rattle.plain_builtins.specs.WantedFields.{field_name, fields_after, wanted_done, is_accessor_value, field_put, field_given, field_is_there, field_had, fields_left, no_fields, wanted_by}
use Rattle.plain_builtins.specs.declared.words.Collected.{Collected}
use Rattle.plain_builtins.specs.declared.words.Collected.TheVariants as collected
use Rattle.plain_builtins.specs.declared.words.Field.{Field}
use Rattle.plain_builtins.specs.declared.words.Field.TheVariants as field
use Rattle.plain_builtins.specs.declared.words.Hint.{Hint}
use Rattle.plain_builtins.specs.declared.words.Hint.TheVariants as hint
use Rattle.plain_builtins.specs.declared.words.NoNumber.{NoNumber}
use Rattle.plain_builtins.specs.declared.words.NoNumber.TheVariants.{Outside, Inconvertible}
use Rattle.plain_builtins.specs.declared.words.Operands.{Operands}
use Rattle.plain_builtins.specs.declared.words.Operands.TheVariants.{One, Two, Three, OtherCount}

-- ---- ToPrimitive

primitive_by-within : (r b : ℕ) (o : Option ObjectId) (v : Value) (p : Program) → IsWithin r b p → IsWithin r b (primitive_by o v p)
primitive_by-within r b (Some o) v p h = h
primitive_by-within r b None v p h = tt

last_called-within : (r b : ℕ) (c : Completion) → IsWithin r b (last_called c)
last_called-within r b c = go_on-within r b (primitive_or cannot_convert) (taken value_in c) (λ v. primitive_by-within r b (as_object v) v cannot_convert (λ l m n o. tt))

second_given-within : (r : ℕ) (o : ObjectId) (c : Completion) → IsWithin r 1 (second_given o c)
second_given-within r o c = go_on-within r 1 (second_found o) (taken value_in c) (λ v l.
    within-cond r 1 (is_callable l v) (ask (Call v (value.Object o) []) last_called) cannot_convert (0, lit< tt, last_called-within r 0) (λ l m n o. tt))

-- a method is tried for a turn, so whatever is left before
second_tried-within : (r b : ℕ) → 200 ≤ r → (h : Hint) (o : ObjectId) → IsWithin r b (second_tried h o)
second_tried-within r b enough h o = get_named-within r r 1 o (second_name h) (second_given o) (omega arith) (second_given-within r o)

first_called-within : (r b : ℕ) → 200 ≤ r → (h : Hint) (o : ObjectId) (c : Completion) → IsWithin r b (first_called h o c)
first_called-within r b enough h o c = go_on-within r b (primitive_or (second_tried h o)) (taken value_in c) (λ v. primitive_by-within r b (as_object v) v (second_tried h o) (second_tried-within r b enough h o))

first_given-within : (r : ℕ) → 200 ≤ r → (h : Hint) (o : ObjectId) (c : Completion) → IsWithin r 1 (first_given h o c)
first_given-within r enough h o c = go_on-within r 1 (first_found h o) (taken value_in c) (λ v l.
    within-cond r 1 (is_callable l v) (ask (Call v (value.Object o) []) (first_called h o)) (second_tried h o) (0, lit< tt, first_called-within r 0 enough h o) (second_tried-within r 1 enough h o))

ordinary-within : (r b : ℕ) → 200 ≤ r → (h : Hint) (o : ObjectId) → IsWithin r b (ordinary_to_primitive h o)
ordinary-within r b enough h o = get_named-within r r 1 o (first_name h) (first_given h o) (omega arith) (first_given-within r enough h o)

exotic_found-within : (r : ℕ) → 200 ≤ r → (h : Hint) (o : ObjectId) (f : Option ObjectId) → IsWithin r 1 (exotic_found h o f)
exotic_found-within r enough h o (Some f) = λ l. (0, lit< tt, last_called-within r 0)
exotic_found-within r enough h o None = ordinary-within r 1 enough h o

to_primitive-within : (r : ℕ) → 200 ≤ r → (h : Hint) (o : Option ObjectId) (v : Value) → IsWithin r 10 (to_primitive_by h o v)
to_primitive-within r enough h (Some o) v = (1, lit< tt, λ c. then_method-within r 1 (exotic_found h o) c (exotic_found-within r enough h o))
to_primitive-within r enough h None v = tt

-- ---- ToString, ToNumber, ToPropertyKey

text_of-within : (r b : ℕ) (v : Value) → IsWithin r b (text_of v)
text_of-within r b value.Undefined = λ l. tt
text_of-within r b value.Null = λ l. tt
text_of-within r b (value.Bool x) = λ l. tt
text_of-within r b (value.Whole n) = λ l. tt
text_of-within r b (value.Text t) = tt
text_of-within r b (value.Symbol s) = λ l m n o. tt
text_of-within r b (value.Object o) = λ l m n o. tt

to_text-within : (r : ℕ) (o : Option ObjectId) (v : Value) → IsWithin r 12 (to_text_by o v)
to_text-within r (Some o) v = (0, lit< tt, λ c. go_on-within r 0 text_of (taken value_in c) (text_of-within r 0))
to_text-within r None v = text_of-within r 12 v

no_number-within : (r b : ℕ) (e : NoNumber) → IsWithin r b (no_number e)
no_number-within r b Outside = λ l m n o. tt
no_number-within r b Inconvertible = λ l m n o. tt

with_number-within : (r b : ℕ) (next : ℤ → Program) (n : Result ℤ NoNumber) → ((m : ℤ) → IsWithin r b (next m)) → IsWithin r b (with_number next n)
with_number-within r b next (Ok n) h = h n
with_number-within r b next (Err e) h = no_number-within r b e

whole_of-within : (r b : ℕ) (v : Value) → IsWithin r b (whole_of v)
whole_of-within r b v = λ l. with_number-within r b gives_number (number_in l v) (λ n. tt)

to_whole-within : (r : ℕ) (o : Option ObjectId) (v : Value) → IsWithin r 12 (to_whole_by o v)
to_whole-within r (Some o) v = (0, lit< tt, λ c. go_on-within r 0 whole_of (taken value_in c) (whole_of-within r 0))
to_whole-within r None v = whole_of-within r 12 v

key_of_number-within : (r b : ℕ) (n : ℤ) (i : Option ℕ) → IsWithin r b (key_of_number n i)
key_of_number-within r b n (Some i) = tt
key_of_number-within r b n None = λ l m. tt

key_in-within : (r b : ℕ) (v : Value) → IsWithin r b (key_in v)
key_in-within r b value.Undefined = λ l m. tt
key_in-within r b value.Null = λ l m. tt
key_in-within r b (value.Bool x) = λ l m. tt
key_in-within r b (value.Whole n) = key_of_number-within r b n (index_of n)
key_in-within r b (value.Text t) = λ l. tt
key_in-within r b (value.Symbol s) = tt
key_in-within r b (value.Object o) = λ l m n o. tt

to_key-within : (r : ℕ) (o : Option ObjectId) (v : Value) → IsWithin r 14 (to_key_by o v)
to_key-within r (Some o) v = (0, lit< tt, λ c. go_on-within r 0 key_in (taken value_in c) (key_in-within r 0))
to_key-within r None v = key_in-within r 14 v

-- ---- IsLooselyEqual, IsLessThan

says_equal-within : (r b : ℕ) (e : Result Bool NoNumber) → IsWithin r b (says_equal e)
says_equal-within r b (Ok x) = tt
says_equal-within r b (Err e) = no_number-within r b e

equal-within : (r b : ℕ) (a c : Value) → IsWithin r b (primitives_equal a c)
equal-within r b a c = λ l. says_equal-within r b (equal_in l (numbered a) (numbered c))

loosely_equal-within : (r : ℕ) (x y : Option ObjectId) (a b : Value) → IsWithin r 60 (loosely_equal_by x y a b)
loosely_equal-within r (Some x) (Some y) a b = tt
loosely_equal-within r (Some x) None a b =
    within-cond r 60 (is_nullish b) (says false) (ask (Work operation.ToPrimitiveDefault (a ∷ [])) (left_converted b)) tt
    (0, lit< tt, λ c. go_on-within r 0 (λ p. primitives_equal p b) (taken value_in c) (λ p. equal-within r 0 p b))
loosely_equal-within r None (Some y) a b =
    within-cond r 60 (is_nullish a) (says false) (ask (Work operation.ToPrimitiveDefault (b ∷ [])) (right_converted a)) tt
    (0, lit< tt, λ c. go_on-within r 0 (λ p. primitives_equal a p) (taken value_in c) (λ p. equal-within r 0 a p))
loosely_equal-within r None None a b = equal-within r 60 a b

numbers_less-within : (r b : ℕ) (p q : Value) → IsWithin r b (numbers_less p q)
numbers_less-within r b p q = λ l.
    with_number-within r b (λ n. with_number (λ m. says (int_lt n m)) (number_in l q)) (number_in l p) (λ n.
    with_number-within r b (λ m. says (int_lt n m)) (number_in l q) (λ m. tt))

less_by-within : (r b : ℕ) (s t : Option TextId) (p q : Value) → IsWithin r b (less_by s t p q)
less_by-within r b (Some s) (Some t) p q = λ l. tt
less_by-within r b (Some s) None p q = numbers_less-within r b p q
less_by-within r b None t p q = numbers_less-within r b p q

less-within : (r b : ℕ) (p q : Value) → IsWithin r b (primitives_less p q)
less-within r b p q = less_by-within r b (as_text p) (as_text q) p q

converted-within : (r b : ℕ) (o : Option ObjectId) (v : Value) (next : Completion → Program) → ((c : Completion) → IsWithin r b (next c)) → IsWithin r (11 + b) (converted_by o v next)
converted-within r b (Some o) v next h = (b, omega arith, h)
converted-within r b None v next h = within-more r b (11 + b) (next (Normal (reply.Value v))) (omega arith) (h (Normal (reply.Value v)))

left_first-within : (r : ℕ) (b : Value) (c : Completion) → IsWithin r 21 (left_first b c)
left_first-within r b c = go_on-within r 21 (λ p. converted b (right_after p)) (taken value_in c) (λ p.
    converted-within r 10 (as_object b) b (right_after p) (λ d. go_on-within r 10 (λ q. primitives_less p q) (taken value_in d) (λ q. less-within r 10 p q)))

right_first-within : (r : ℕ) (a : Value) (c : Completion) → IsWithin r 21 (right_first a c)
right_first-within r a c = go_on-within r 21 (λ q. converted a (left_after q)) (taken value_in c) (λ q.
    converted-within r 10 (as_object a) a (left_after q) (λ d. go_on-within r 10 (λ p. primitives_less p q) (taken value_in d) (λ p. less-within r 10 p q)))

less_than-within : (r : ℕ) (a b : Value) (first : Bool) → IsWithin r 40 (less_than a b first)
less_than-within r a b true = within-more r 32 40 (converted a (left_first b)) (omega arith) (converted-within r 21 (as_object a) a (left_first b) (left_first-within r b))
less_than-within r a b false = within-more r 32 40 (converted b (right_first a)) (omega arith) (converted-within r 21 (as_object b) b (right_first a) (right_first-within r a))

-- ---- InstanceofOperator

parent_found-within : (r b : ℕ) (onward : ObjectId → Program) (p : ObjectId) (up : Option ObjectId) → ((x : ObjectId) → IsWithin r b (onward x)) → IsWithin r b (parent_found onward p up)
parent_found-within r b onward p None h = tt
parent_found-within r b onward p (Some up) h = within-cond r b (same_object up p) (says true) (onward up) tt (h up)

-- each round is a charge
round-within : (r b : ℕ) → 200 ≤ r → (n : ℕ) (p x : ObjectId) → IsWithin r b (instance_round n p x)
round-within r b enough zero p x = tt
round-within r b enough (suc n) p x = (0, omega arith, λ c. go_on-within r 0 (parent_found (instance_round n p) p) (taken proto_in c) (λ up. parent_found-within r 0 (instance_round n p) p up (round-within r 0 enough n p)))

prototype-within : (r : ℕ) → 200 ≤ r → (x : ObjectId) (c : Completion) → IsWithin r 0 (prototype_given x c)
prototype-within r enough x c = go_on-within r 0 (λ p. prototype_by (as_object p) x) (taken value_in c) (λ p. by-within (as_object p))
  where
    by-within : (p : Option ObjectId) → IsWithin r 0 (prototype_by p x)
    by-within (Some p) = round-within r 0 enough most_rounds p x
    by-within None = λ l m n o. tt

has_instance-within : (r : ℕ) → 200 ≤ r → (f : ObjectId) (x : Option ObjectId) → IsWithin r 2 (has_instance f x)
has_instance-within r enough f (Some x) = get_named-within r 2 0 f (codes "prototype") (prototype_given x) (lit< tt) (prototype-within r enough x)
has_instance-within r enough f None = tt

handler_found-within : (r : ℕ) → 200 ≤ r → (v : Value) (f : ObjectId) (h : Option ObjectId) → IsWithin r 2 (handler_found v f h)
handler_found-within r enough v f (Some h) = (0, lit< tt, λ c. go_on-within r 0 (λ x. look (λ l. says (is_truth l x))) (taken value_in c) (λ x l. tt))
handler_found-within r enough v f None = λ l. within-cond r 2 (is_callable_kind (kind l f)) (has_instance f (as_object v)) not_a_function (has_instance-within r enough f (as_object v)) (λ l m n o. tt)

instance_of-within : (r : ℕ) → 200 ≤ r → (v : Value) (f : Option ObjectId) → IsWithin r 20 (instance_of_by v f)
instance_of-within r enough v (Some f) = (2, lit< tt, λ c. then_method-within r 2 (handler_found v f) c (handler_found-within r enough v f))
instance_of-within r enough v None = λ l m n o. tt

ordinary_by-within : (r : ℕ) → 200 ≤ r → (f : Option ObjectId) (v : Value) → IsWithin r 20 (ordinary_by f v)
ordinary_by-within r enough (Some f) v = λ l.
    within-cond r 20 (is_callable_kind (kind l f)) (has_instance f (as_object v)) (says false)
    (within-more r 2 20 (has_instance f (as_object v)) (omega arith) (has_instance-within r enough f (as_object v))) tt
ordinary_by-within r enough None v = tt

-- ---- ToPropertyDescriptor: what a list of fields asks for

abbrev for_fields : List Field → ℕ
for_fields [] = 0
for_fields (f ∷ fs) = suc (suc (suc (suc (for_fields fs))))

wanted_done-within : (r b : ℕ) (d : Descriptor) → IsWithin r b (wanted_done d)
wanted_done-within r b d = within-cond r b (is_of_both_kinds d) (throw_error error.TypeError (codes "bad descriptor")) (done (Normal (reply.Wanted d))) (λ l m n o. tt) tt

field_put-within : (r b : ℕ) (next : Descriptor → Program) → ((d : Descriptor) → IsWithin r b (next d)) → (f : Field) (d : Descriptor) (v : Value) → IsWithin r b (field_put next f d v)
field_put-within r b next h field.Enumerable d v = λ l. h _
field_put-within r b next h field.Configurable d v = λ l. h _
field_put-within r b next h field.Value d v = h _
field_put-within r b next h field.Writable d v = λ l. h _
field_put-within r b next h field.Get d v = λ l. within-cond r b (is_accessor_value l v) (next (record d { get = Some v })) not_a_function (h _) (λ l m n o. tt)
field_put-within r b next h field.Set d v = λ l. within-cond r b (is_accessor_value l v) (next (record d { set = Some v })) not_a_function (h _) (λ l m n o. tt)

field_had-within : (r b : ℕ) (next : Descriptor → Program) → ((d : Descriptor) → IsWithin r b (next d)) → (f : Field) (o : ObjectId) (d : Descriptor) (c : Completion) → IsWithin r (2 + b) (field_had next f o d c)
field_had-within r b next h f o d c = go_on-within r (2 + b) (field_is_there next f o d) (taken flag_in c) (λ x.
    within-cond r (2 + b) x (get_named o (field_name f) (field_given next f d)) (next d)
    (get_named-within r (2 + b) b o (field_name f) (field_given next f d) (omega arith) (λ e. go_on-within r b (field_put next f d) (taken value_in e) (field_put-within r b next h f d)))
    (within-more r b (2 + b) (next d) (omega arith) (h d)))

fields-within : (r : ℕ) (fs : List Field) (o : ObjectId) (d : Descriptor) → IsWithin r (for_fields fs) (fields_left fs o d)
fields-within r [] o d = wanted_done-within r 0 d
fields-within r (f ∷ fs) o d =
    has_named-within r (for_fields (f ∷ fs)) (2 + for_fields fs) o (field_name f) (field_had (fields_left fs o) f o d) (omega arith) (field_had-within r (for_fields fs) (fields_left fs o) (fields-within r fs o) f o d)

wanted-within : (r : ℕ) (o : Option ObjectId) → IsWithin r 30 (wanted_by o)
wanted-within r (Some o) =
    let fs : List Field = field.Enumerable ∷ fields_after field.Enumerable in
    within-more r (for_fields fs) 30 (wanted_by (Some o)) (omega arith) (fields-within r fs o no_fields)
wanted-within r None = λ l m n o. tt

-- ---- CreateListFromArrayLike

gives_all-within : (r b : ℕ) (all : Collected) → IsWithin r b (gives_all all)
gives_all-within r b (collected.Values vs) = tt
gives_all-within r b (collected.Keys ks) = tt

key_put-within : (r b : ℕ) (next : Collected → Program) → ((all : Collected) → IsWithin r b (next all)) → (ks : List PropKey) (v : Value) → IsWithin r b (key_put next ks v)
key_put-within r b next h ks value.Undefined = λ l m n o. tt
key_put-within r b next h ks value.Null = λ l m n o. tt
key_put-within r b next h ks (value.Bool x) = λ l m n o. tt
key_put-within r b next h ks (value.Whole n) = λ l m n o. tt
key_put-within r b next h ks (value.Text t) = λ l. h _
key_put-within r b next h ks (value.Symbol s) = h _
key_put-within r b next h ks (value.Object o) = λ l m n o. tt

element_put-within : (r b : ℕ) (next : Collected → Program) → ((all : Collected) → IsWithin r b (next all)) → (all : Collected) (v : Value) → IsWithin r b (element_put next all v)
element_put-within r b next h (collected.Values vs) v = h _
element_put-within r b next h (collected.Keys ks) v = key_put-within r b next h ks v

get_element-within : (r : ℕ) → 200 ≤ r → (o : ObjectId) (i : ℕ) (next : Completion → Program) → ((c : Completion) → IsWithin r 0 (next c)) → IsWithin r r (get_element o i next)
get_element-within r enough o i next h =
    within-cond r r (nat_le i most_index) (get o (Index i) next) (intern (whole_units (pos (min i most_whole))) (λ t. get o (Name t) next)) (0, omega arith, h) (λ l. (0, omega arith, h))

elements-within : (r b : ℕ) → 200 ≤ r → (left n : ℕ) (o : ObjectId) (all : Collected) → IsWithin r b (elements_left left n o all)
elements-within r b enough zero n o all = gives_all-within r b all
elements-within r b enough (suc left) n o all =
    get_element-within r enough o (n - suc left) (element_given (elements_left left n o) all) (λ c.
    go_on-within r 0 (element_put (elements_left left n o) all) (taken value_in c) (element_put-within r 0 (elements_left left n o) (elements-within r 0 enough left n o) all))

length-within : (r b : ℕ) → 200 ≤ r → (o : ObjectId) (all : Collected) (c : Completion) → IsWithin r b (length_given (elements_of o all) c)
length-within r b enough o all c = then_whole-within r b (λ n. elements_of o all (to_length n)) c (λ n. elements-within r b enough (to_length n) (to_length n) o all)

list-within : (r : ℕ) → 200 ≤ r → (o : Option ObjectId) (all : Collected) → IsWithin r 20 (list_by o all)
list-within r enough (Some o) all =
    get_named-within r 20 18 o (codes "length") (length_got (length_given (elements_of o all))) (lit< tt) (λ c.
    length_got-within r 18 5 (length_given (elements_of o all)) c (lit< tt) (length-within r 18 enough o all) (length-within r 5 enough o all))
list-within r enough None all = λ l m n o. tt

-- ---- all operations, whatever their operands

one-within : (r : ℕ) → 200 ≤ r → (op : Operation) (v : Value) → IsWithin r (operation_weight op) (one_operand op v)
one-within r enough operation.ToPrimitiveDefault v = to_primitive-within r enough hint.Default (as_object v) v
one-within r enough operation.ToPrimitiveNumber v = to_primitive-within r enough hint.Number (as_object v) v
one-within r enough operation.ToPrimitiveText v = to_primitive-within r enough hint.Text (as_object v) v
one-within r enough operation.ToText v = to_text-within r (as_object v) v
one-within r enough operation.ToWhole v = to_whole-within r (as_object v) v
one-within r enough operation.ToKey v = to_key-within r (as_object v) v
one-within r enough operation.ToWanted v = wanted-within r (as_object v)
one-within r enough operation.ListFromArrayLike v = list-within r enough (as_object v) (collected.Values [])
one-within r enough operation.KeysFromArrayLike v = list-within r enough (as_object v) (collected.Keys [])
one-within r enough operation.InstanceOf v = tt
one-within r enough operation.OrdinaryHasInstance v = tt
one-within r enough operation.LooselyEqual v = tt
one-within r enough operation.LessThan v = tt

two-within : (r : ℕ) → 200 ≤ r → (op : Operation) (a b : Value) → IsWithin r (operation_weight op) (two_operands op a b)
two-within r enough operation.ToPrimitiveDefault a b = tt
two-within r enough operation.ToPrimitiveNumber a b = tt
two-within r enough operation.ToPrimitiveText a b = tt
two-within r enough operation.ToText a b = tt
two-within r enough operation.ToWhole a b = tt
two-within r enough operation.ToKey a b = tt
two-within r enough operation.ToWanted a b = tt
two-within r enough operation.ListFromArrayLike a b = tt
two-within r enough operation.KeysFromArrayLike a b = tt
two-within r enough operation.InstanceOf a b = instance_of-within r enough a (as_object b)
two-within r enough operation.OrdinaryHasInstance a b = ordinary_by-within r enough (as_object a) b
two-within r enough operation.LooselyEqual a b = loosely_equal-within r (as_object a) (as_object b) a b
two-within r enough operation.LessThan a b = tt

less_than_by-within : (r : ℕ) (a b c : Value) → IsWithin r 40 (less_than_by a b c)
less_than_by-within r a b value.Undefined = tt
less_than_by-within r a b value.Null = tt
less_than_by-within r a b (value.Bool first) = less_than-within r a b first
less_than_by-within r a b (value.Whole n) = tt
less_than_by-within r a b (value.Text t) = tt
less_than_by-within r a b (value.Symbol s) = tt
less_than_by-within r a b (value.Object o) = tt

three-within : (r : ℕ) (op : Operation) (a b c : Value) → IsWithin r (operation_weight op) (three_operands op a b c)
three-within r operation.ToPrimitiveDefault a b c = tt
three-within r operation.ToPrimitiveNumber a b c = tt
three-within r operation.ToPrimitiveText a b c = tt
three-within r operation.ToText a b c = tt
three-within r operation.ToWhole a b c = tt
three-within r operation.ToKey a b c = tt
three-within r operation.ToWanted a b c = tt
three-within r operation.ListFromArrayLike a b c = tt
three-within r operation.KeysFromArrayLike a b c = tt
three-within r operation.InstanceOf a b c = tt
three-within r operation.OrdinaryHasInstance a b c = tt
three-within r operation.LooselyEqual a b c = tt
three-within r operation.LessThan a b c = less_than_by-within r a b c

work_of-within : (r : ℕ) → 200 ≤ r → (op : Operation) (x : Operands) → IsWithin r (operation_weight op) (work_of op x)
work_of-within r enough op (One a) = one-within r enough op a
work_of-within r enough op (Two a b) = two-within r enough op a b
work_of-within r enough op (Three a b c) = three-within r op a b c
work_of-within r enough op OtherCount = tt

pub work-within : (r : ℕ) → 200 ≤ r → (op : Operation) (operands : List Value) → IsWithin r (operation_weight op) (work_program op operands)
work-within r enough op operands = work_of-within r enough op (operands_in operands)

-- ---- the rows of built-in functions, each after the charge of its entering

print-within : (r b : ℕ) → 200 ≤ r → 0 < b → (vs line : List Value) → IsWithin r b (print_left vs line)
print-within r b enough some [] line = (0, omega arith, λ c. go_on-within r 0 _ (taken value_in c) (λ v. tt))
print-within r b enough some (v ∷ vs) line = (1, omega arith, λ c. go_on-within r 1 _ (taken value_in c) (λ t. print-within r 1 enough (lit< tt) vs (line ++ t ∷ [])))

pub row-within : (r : ℕ) → 200 ≤ r → (row : ℕ) (arguments : List Value) → IsWithin r r (row_program row arguments)
row-within r enough row arguments = within-cond r r (nat_eq row print_row) (print arguments) unwritten (print-within r r enough (omega arith) arguments []) tt
