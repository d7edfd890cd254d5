-- Values in a running body: what needs no question.
use Rattle.std.specs.Prelude.{ℕ, Bool, true, false, ◌&&◌, if◌then◌else◌, Option, Some, None, List}
use Rattle.std.specs.Prelude.{codes, ℤ, pos, neg_ℤ, int_le, ◌+ℤ◌, ◌-ℤ◌, ◌*ℤ◌, int_rem, nat_eq, slice_get}
use Rattle.std.specs.Ordering.{int_eq}
use Rattle.property_keys.specs.declared.identifiers.TextId.{TextId}
use Rattle.property_keys.specs.declared.keys.PropKey.{PropKey}
use Rattle.property_keys.specs.declared.keys.PropKey.TheVariants.{Index, Name, Sym}
use Rattle.property_keys.specs.declared.values.Value.{Value}
use Rattle.property_keys.specs.declared.values.Value.TheVariants as value
use Rattle.property_keys.specs.Keys.{key_of}
use Rattle.property_keys.specs.Wholes.{most_whole}
use Rattle.es_model.specs.declared.start_texts.StartText.TheVariants as start_text
use Rattle.es_model.specs.StartTexts.{text_number}
use Rattle.es_model.specs.World.{Lists, kind, units_of}
use Rattle.es_model.specs.Program.{Program, look}
use Rattle.es_model.specs.programs.Testing.{is_callable_kind}
use Rattle.evaluator.specs.declared.references.Arithmetic.{Arithmetic}
use Rattle.evaluator.specs.declared.references.Arithmetic.TheVariants as arithmetic
use Rattle.evaluator.specs.Errors.{make_text, out_of_profile}

abbrev pub is_nullish : Value → Bool
is_nullish value.Undefined = true
is_nullish value.Null = true
is_nullish other = false

abbrev pub is_text : Value → Bool
is_text (value.Text t) = true
is_text other = false

-- ---- the keys of texts (7.1.19)

abbrev pub key_of_text : Lists → TextId → PropKey
key_of_text l t = key_of (units_of l t) t

-- the key that these code units are
abbrev pub with_key : List ℕ → (PropKey → Program) → Program
with_key units next = make_text units (λ t. look (λ l. next (key_of_text l t)))

-- ---- the own properties of a text as a String object has them (10.4.3)

-- the text `length`, which has its number from the start on
abbrev pub is_length : TextId → Bool
is_length t = nat_eq t.0 (text_number start_text.Length)

abbrev pub has_unit : Option ℕ → Bool
has_unit None = false
has_unit (Some unit) = true

abbrev pub is_own_key : Lists → TextId → PropKey → Bool
is_own_key l t (Index i) = has_unit (slice_get (units_of l t) i)
is_own_key l t (Name n) = is_length n
is_own_key l t (Sym s) = false

-- ---- whole numbers of the profile

abbrev pub is_in_profile : ℤ → Bool
is_in_profile n = int_le (neg_ℤ (pos most_whole)) n && int_le n (pos most_whole)

-- a whole number, where it is one of the profile
abbrev pub whole_of : ℤ → Option ℤ
whole_of n = if is_in_profile n then Some n else None

-- a number, or the error where there is none
abbrev pub or_out : Option ℤ → (ℤ → Program) → Program
or_out None next = out_of_profile
or_out (Some n) next = next n

-- Number::add, subtract, multiply, remainder (6.1.6.1.4 to 6.1.6.1.8). There is no negative zero, and what is no number of the profile is none
abbrev pub calculate : Arithmetic → ℤ → ℤ → Option ℤ
calculate arithmetic.Add a b = whole_of (a +ℤ b)
calculate arithmetic.Subtract a b = whole_of (a -ℤ b)
calculate arithmetic.Multiply a b = whole_of (a *ℤ b)
calculate arithmetic.Remainder a b = if int_eq b (pos 0) then None else whole_of (int_rem a b)

-- ---- typeof (13.5.3, table 41)

abbrev pub type_name : Lists → Value → List ℕ
type_name l value.Undefined = codes "undefined"
type_name l value.Null = codes "object"
type_name l (value.Bool b) = codes "boolean"
type_name l (value.Whole n) = codes "number"
type_name l (value.Text t) = codes "string"
type_name l (value.Symbol s) = codes "symbol"
type_name l (value.Object o) = if is_callable_kind (kind l o) then codes "function" else codes "object"
