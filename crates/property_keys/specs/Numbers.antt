-- The number of a text: StringToNumber (ECMA-262, 7.1.4.1.1), cut to the whole numbers.
use Rattle.std.specs.Prelude.{ℕ, ℤ, pos, neg_ℤ, Bool, List, Option, Some, None, length, drop}
use Rattle.std.specs.Prelude.{slice_index, option_map, nat_lt, nat_le, ◌==◌, ◌||◌, ◌&&◌, if◌then◌else◌}
use Rattle.std.specs.List.{list_all}
use Rattle.std.specs.Char.{is_digit}
use Rattle.std.specs.Str.Parse.{digits_value, without_leading_plus}
use Rattle.property_keys.specs.Blanks.{trimmed}
use Rattle.property_keys.specs.Wholes.{most_whole}

-- one digit of the base or more, and nothing else
abbrev pub is_numeral : ℕ → List ℕ → Bool
is_numeral radix digits = nat_lt 0 (length digits) && list_all (λ c. is_digit c radix) digits

-- the number that digits of the base write, where it is not too great for a whole number
abbrev pub natural_of : ℕ → List ℕ → Option ℤ
natural_of radix digits = if is_numeral radix digits && nat_le (digits_value radix digits) most_whole then Some (pos (digits_value radix digits)) else None

-- StrDecimalLiteral without a fraction and an exponent: a sign may stand before the digits
abbrev pub decimal_of : List ℕ → Option ℤ
decimal_of text = if slice_index text 0 == 45 then option_map neg_ℤ (natural_of 10 (drop 1 text)) else natural_of 10 (without_leading_plus text)

-- the base that a letter after 0 names: x, o or b, small or great; any other names none and is read as decimal
abbrev pub radix_of_letter : ℕ → ℕ
radix_of_letter c = if (c == 120) || (c == 88) then 16 else (if (c == 111) || (c == 79) then 8 else (if (c == 98) || (c == 66) then 2 else 10))

abbrev pub radix_of : List ℕ → ℕ
radix_of text = if slice_index text 0 == 48 then radix_of_letter (slice_index text 1) else 10

-- StrNumericLiteral: decimal, or a prefix and digits of its base with no sign
abbrev pub literal_of : List ℕ → Option ℤ
literal_of text = if radix_of text == 10 then decimal_of text else natural_of (radix_of text) (drop 2 text)

-- white space at the ends does not count, and nothing else is 0
abbrev pub number_of : List ℕ → Option ℤ
number_of text = if length (trimmed text) == 0 then Some (pos 0) else literal_of (trimmed text)
