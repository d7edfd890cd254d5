-- Number.prototype.toString (ECMA-262, 21.1.3.6), and Number::toString (6.1.6.1.20) of a whole number.
use Rattle.std.specs.Prelude.{ℕ, zero, suc, ℤ, pos, Bool, ◌+◌, ◌/◌, ◌%◌, ◌==◌, ◌&&◌, int_le, int_lt, nat_abs, nat_lt, if◌then◌else◌, List, [], ◌∷◌, ◌++◌, codes}
use Rattle.property_keys.specs.declared.values.Value.{Value}
use Rattle.property_keys.specs.declared.values.Value.TheVariants as value
use Rattle.es_model.specs.declared.kinds.ErrorKind.TheVariants as error
use Rattle.es_model.specs.Completions.{Completion}
use Rattle.es_model.specs.Program.{Program}
use Rattle.es_model.specs.programs.Converting.{then_whole, to_number}
use Rattle.es_model.specs.programs.Errors.{throw_error}
use Rattle.core_builtins.specs.Answers.{first_of, gives_text}
use Rattle.core_builtins.specs.Numbers.{this_number}

-- ---- the digits are 0 to 9 and then a to z

abbrev pub digit_unit : ℕ → ℕ
digit_unit d = if nat_lt d 10 then 48 + d else 87 + d

-- up to so many digits of a number, with no zero before it. It is opaque: no algorithm looks into it
unfoldable pub radix_digits : ℕ → ℕ → ℕ → List ℕ
radix_digits zero radix n = []
radix_digits (suc left) radix n = (if n / radix == 0 then [] else radix_digits left radix (n / radix)) ++ digit_unit (n % radix) ∷ []

-- no number of the profile has more in a radix from 2 on: each is below 2 ^ 53
abbrev pub most_digits : ℕ
most_digits = 53

-- `-` before a negative number
abbrev pub sign_units : ℤ → List ℕ
sign_units x = if int_lt x (pos 0) then 45 ∷ [] else []

abbrev pub radix_units : ℕ → ℤ → List ℕ
radix_units radix x = sign_units x ++ radix_digits most_digits radix (nat_abs x)

-- ---- Number.prototype.toString ( [ radix ] )

-- step 4
abbrev pub is_radix : ℤ → Bool
is_radix radix = int_le (pos 2) radix && int_le radix (pos 36)

-- steps 4 and 5
abbrev pub radix_text : ℤ → ℤ → Program
radix_text x radix = if is_radix radix then gives_text (radix_units (nat_abs radix) x) else throw_error error.RangeError (codes "invalid radix")

-- step 3 was answered
abbrev pub radix_given : ℤ → Completion → Program
radix_given x c = then_whole (radix_text x) c

-- steps 2 and 3: ToIntegerOrInfinity (7.1.5) of what is not undefined is its number
abbrev pub with_radix : Value → ℤ → Program
with_radix value.Undefined x = radix_text x (pos 10)
with_radix radix x = to_number radix (radix_given x)

abbrev pub number_to_string : Value → List Value → Program
number_to_string this arguments = this_number this (with_radix (first_of arguments))
