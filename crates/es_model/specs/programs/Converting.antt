-- Conversions that other algorithms begin with (ECMA-262, 7.1.4, 7.1.5, 7.1.7, 7.1.18, 7.1.20, 7.3.18). What is of the wanted type already asks nothing.
use Rattle.std.specs.Prelude.{ℕ, ℤ, pos, Bool, true, false, ◌^◌, int_lt, nat_abs, if◌then◌else◌, Option, Some, None, List, [], ◌∷◌, length, codes}
use Rattle.std.specs.Int.{int_rem_euclid}
use Rattle.property_keys.specs.declared.identifiers.ObjectId.{ObjectId}
use Rattle.property_keys.specs.declared.identifiers.TextId.{TextId}
use Rattle.property_keys.specs.declared.keys.PropKey.TheVariants.{Name}
use Rattle.property_keys.specs.declared.values.Value.{Value}
use Rattle.property_keys.specs.declared.values.Value.TheVariants as value
use Rattle.descriptors.specs.declared.fields.Descriptor.{Descriptor}
use Rattle.es_model.specs.declared.answers.Reply.TheVariants as reply
use Rattle.es_model.specs.declared.kinds.ErrorKind.TheVariants as error
use Rattle.es_model.specs.declared.kinds.ObjectKind.{ObjectKind}
use Rattle.es_model.specs.declared.kinds.ObjectKind.TheVariants as kind_of
use Rattle.es_model.specs.declared.intrinsics.Class.{Class}
use Rattle.es_model.specs.declared.intrinsics.Class.TheVariants as class
use Rattle.es_model.specs.declared.intrinsics.Intrinsic.TheVariants as intrinsic
use Rattle.es_model.specs.declared.requests.Operation.TheVariants as operation
use Rattle.es_model.specs.declared.requests.Request.TheVariants.{Work}
use Rattle.es_model.specs.Completions.{Completion, Normal}
use Rattle.es_model.specs.Events.{OfWrapper}
use Rattle.es_model.specs.StartObjects.{object_of}
use Rattle.es_model.specs.World.{units_of}
use Rattle.es_model.specs.Program.{Program, look, ask, intern, make, define}
use Rattle.es_model.specs.programs.Abrupt.{then_value}
use Rattle.es_model.specs.programs.Errors.{throw_error, unfit}
use Rattle.es_model.specs.programs.Methods.{get_named}

-- an Object, or a value other than undefined and null, is wanted
abbrev pub not_an_object : Program
not_an_object = throw_error error.TypeError (codes "not an object")

-- ---- numbers

abbrev pub number : ℤ → Completion
number n = Normal (reply.Value (value.Whole n))

-- ToNumber (7.1.4)
abbrev pub to_number : Value → (Completion → Program) → Program
to_number (value.Whole n) next = next (number n)
to_number other next = ask (Work operation.ToWhole (other ∷ [])) next

-- ToIntegerOrInfinity (7.1.5): every number of the profile is whole, and undefined alone gives 0 where it has none
abbrev pub to_integer : Value → (Completion → Program) → Program
to_integer value.Undefined next = next (number (pos 0))
to_integer other next = to_number other next

-- a conversion to a number has no other reply
abbrev pub with_whole : (ℤ → Program) → Value → Program
with_whole next (value.Whole n) = next n
with_whole next other = unfit

abbrev pub then_whole : (ℤ → Program) → Completion → Program
then_whole next c = then_value (with_whole next) c

-- ToUint32 (7.1.7): the number modulo 2 ^ 32
abbrev pub modulo_uint32 : ℤ → ℤ
modulo_uint32 n = int_rem_euclid n (pos (2 ^ 32))

abbrev pub uint32_given : (ℤ → Program) → Completion → Program
uint32_given next c = then_whole (λ n. next (modulo_uint32 n)) c

abbrev pub to_uint32 : Value → (ℤ → Program) → Program
to_uint32 v next = to_number v (uint32_given next)

-- ---- lengths

-- the clamping of ToLength (7.1.20): no number of the profile is above 2 ^ 53 - 1
abbrev pub to_length : ℤ → ℕ
to_length n = if int_lt n (pos 0) then 0 else nat_abs n

-- LengthOfArrayLike (7.3.18): the value was asked for, and then its number
abbrev pub length_got : (Completion → Program) → Completion → Program
length_got next c = then_value (λ v. to_integer v next) c

abbrev pub length_given : (ℕ → Program) → Completion → Program
length_given next c = then_whole (λ n. next (to_length n)) c

abbrev pub length_of_array_like : ObjectId → (ℕ → Program) → Program
length_of_array_like o next = get_named o (codes "length") (length_got (length_given next))

-- ---- ToObject (7.1.18)

abbrev pub proto_of_class : Class → Option ObjectId
proto_of_class c = Some (object_of (intrinsic.Prototype c))

-- a new Boolean, Number or Symbol object
abbrev pub make_wrapper : Class → Value → (ObjectId → Program) → Program
make_wrapper c v next = make (kind_of.Wrapper v) OfWrapper (proto_of_class c) next

-- with three false flags
abbrev pub fixed : Value → Descriptor
fixed v = record { value = Some v; writable = Some false; get = None; set = None; enumerable = Some false; configurable = Some false }

-- StringCreate (10.4.3.4)
abbrev pub make_text_object : TextId → (ObjectId → Program) → Program
make_text_object t next = look (λ l.
    make (kind_of.Text t) OfWrapper (proto_of_class class.String) (λ o. intern (codes "length") (λ name.
    define o (Name name) (fixed (value.Whole (pos (length (units_of l t))))) (λ b. next o))))

abbrev pub to_object : Value → (ObjectId → Program) → Program
to_object value.Undefined next = not_an_object
to_object value.Null next = not_an_object
to_object (value.Bool b) next = make_wrapper class.Boolean (value.Bool b) next
to_object (value.Whole n) next = make_wrapper class.Number (value.Whole n) next
to_object (value.Text t) next = make_text_object t next
to_object (value.Symbol s) next = make_wrapper class.Symbol (value.Symbol s) next
to_object (value.Object o) next = next o
