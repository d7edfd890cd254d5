-- IsLooselyEqual and IsLessThan (ECMA-262, 7.2.14, 7.2.13).
use Rattle.std.specs.Prelude.{ℕ, suc, ℤ, Bool, true, false, int_lt, nat_lt, ◌==◌, if◌then◌else◌, Option, Some, None, Result, Ok, Err, List, [], ◌∷◌}
use Rattle.std.specs.Ordering.{int_eq}
use Rattle.property_keys.specs.declared.identifiers.ObjectId.{ObjectId}
use Rattle.property_keys.specs.declared.identifiers.TextId.{TextId}
use Rattle.property_keys.specs.declared.values.Value.{Value}
use Rattle.property_keys.specs.declared.values.Value.TheVariants as value
use Rattle.property_keys.specs.Values.{same_value}
use Rattle.es_model.specs.declared.answers.Reply.TheVariants as reply
use Rattle.es_model.specs.declared.requests.Operation.TheVariants as operation
use Rattle.es_model.specs.declared.requests.Request.TheVariants.{Work}
use Rattle.es_model.specs.Completions.{Completion, Normal}
use Rattle.es_model.specs.World.{Lists, units_of}
use Rattle.es_model.specs.Program.{Program, done, look, charge, ask}
use Rattle.es_model.specs.programs.Abrupt.{then_value}
use Rattle.es_model.specs.programs.Errors.{flag}
use Rattle.es_model.specs.programs.Testing.{as_object}
use Rattle.plain_builtins.specs.Conversions.{number_in, truth_number, no_number, with_number}
use Rattle.plain_builtins.specs.declared.words.NoNumber.{NoNumber}

abbrev pub says : Bool → Program
says b = done (flag b)

-- ---- IsLooselyEqual (7.2.14)

-- steps 9 and 10: a Boolean is compared as its number
abbrev pub numbered : Value → Value
numbered (value.Bool b) = value.Whole (truth_number b)
numbered other = other

abbrev pub equal_number : ℤ → Result ℤ NoNumber → Result Bool NoNumber
equal_number n (Ok m) = Ok (int_eq n m)
equal_number n (Err e) = Err e

abbrev pub is_nullish : Value → Bool
is_nullish value.Undefined = true
is_nullish value.Null = true
is_nullish other = false

-- a number and a text (step 5)
abbrev pub number_equal : Lists → ℤ → Value → Result Bool NoNumber
number_equal l n (value.Text t) = equal_number n (number_in l (value.Text t))
number_equal l n other = Ok (same_value (value.Whole n) other)

-- a text and a number (step 6)
abbrev pub text_equal : Lists → TextId → Value → Result Bool NoNumber
text_equal l t (value.Whole n) = equal_number n (number_in l (value.Text t))
text_equal l t other = Ok (same_value (value.Text t) other)

-- steps 1 to 6, 13 and 14, of two values of which none is an Object or a Boolean
abbrev pub equal_in : Lists → Value → Value → Result Bool NoNumber
equal_in l value.Undefined b = Ok (is_nullish b)
equal_in l value.Null b = Ok (is_nullish b)
equal_in l (value.Whole n) b = number_equal l n b
equal_in l (value.Text t) b = text_equal l t b
equal_in l other b = Ok (same_value other b)

abbrev pub says_equal : Result Bool NoNumber → Program
says_equal (Ok b) = says b
says_equal (Err e) = no_number e

abbrev pub primitives_equal : Value → Value → Program
primitives_equal a b = look (λ l. says_equal (equal_in l (numbered a) (numbered b)))

-- step 12: the left operand was converted
abbrev pub left_converted : Value → Completion → Program
left_converted b c = then_value (λ p. primitives_equal p b) c

-- step 11: the right operand was converted
abbrev pub right_converted : Value → Completion → Program
right_converted a c = then_value (λ p. primitives_equal a p) c

abbrev pub loosely_equal_by : Option ObjectId → Option ObjectId → Value → Value → Program
loosely_equal_by (Some x) (Some y) a b = says (same_value a b)
loosely_equal_by (Some x) None a b = if is_nullish b then says false else ask (Work operation.ToPrimitiveDefault (a ∷ [])) (left_converted b)
loosely_equal_by None (Some y) a b = if is_nullish a then says false else ask (Work operation.ToPrimitiveDefault (b ∷ [])) (right_converted a)
loosely_equal_by None None a b = primitives_equal a b

abbrev pub loosely_equal : Value → Value → Program
loosely_equal a b = loosely_equal_by (as_object a) (as_object b) a b

-- ---- IsLessThan (7.2.13)

-- step 3: the first code unit that differs decides, and else the shorter text is less
abbrev pub units_less : List ℕ → List ℕ → Bool
units_less [] [] = false
units_less [] (b ∷ vs) = true
units_less (a ∷ us) [] = false
units_less (a ∷ us) (b ∷ vs) = if a == b then units_less us vs else nat_lt a b

-- how many places are looked at for that, the one that differs too
abbrev pub units_looked : List ℕ → List ℕ → ℕ
units_looked [] vs = 0
units_looked (a ∷ us) [] = 0
units_looked (a ∷ us) (b ∷ vs) = if a == b then suc (units_looked us vs) else 1

abbrev pub texts_less : TextId → TextId → Program
texts_less s t = look (λ l. charge (units_looked (units_of l s) (units_of l t)) (says (units_less (units_of l s) (units_of l t))))

-- step 4
abbrev pub numbers_less : Value → Value → Program
numbers_less p q = look (λ l. with_number (λ n. with_number (λ m. says (int_lt n m)) (number_in l q)) (number_in l p))

abbrev pub as_text : Value → Option TextId
as_text (value.Text t) = Some t
as_text other = None

abbrev pub less_by : Option TextId → Option TextId → Value → Value → Program
less_by (Some s) (Some t) p q = texts_less s t
less_by (Some s) None p q = numbers_less p q
less_by None t p q = numbers_less p q

-- of two values that are no Objects
abbrev pub primitives_less : Value → Value → Program
primitives_less p q = less_by (as_text p) (as_text q) p q

abbrev pub converted_by : Option ObjectId → Value → (Completion → Program) → Program
converted_by (Some o) v next = ask (Work operation.ToPrimitiveNumber (v ∷ [])) next
converted_by None v next = next (Normal (reply.Value v))

-- ToPrimitive with number, of which a value that is no Object asks nothing
abbrev pub converted : Value → (Completion → Program) → Program
converted v next = converted_by (as_object v) v next

-- step 1, where the left operand is converted first
abbrev pub right_after : Value → Completion → Program
right_after p c = then_value (λ q. primitives_less p q) c

abbrev pub left_first : Value → Completion → Program
left_first b c = then_value (λ p. converted b (right_after p)) c

-- step 2, where the right operand is
abbrev pub left_after : Value → Completion → Program
left_after q c = then_value (λ p. primitives_less p q) c

abbrev pub right_first : Value → Completion → Program
right_first a c = then_value (λ q. converted a (left_after q)) c

-- LeftFirst is the last operand
abbrev pub less_than : Value → Value → Bool → Program
less_than a b true = converted a (left_first b)
less_than a b false = converted b (right_first a)
