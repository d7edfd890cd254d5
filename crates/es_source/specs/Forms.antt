-- The forms of names, numbers and punctuators (ECMA-262, 12.7 to 12.9). A form at the front of the characters gives what
-- the token is and how many characters it takes, or None where the characters at the front are a bad token.
use Rattle.std.specs.Prelude.{◌||◌, ◌&&◌, ◌==◌, ◌+◌, ◌-◌, ◌^◌, ℕ, suc, Bool, not, List, [], ◌∷◌, length, take, drop, codes, nat_eq, nat_lt, nat_le}
use Rattle.std.specs.Prelude.{slice_get, Option, Some, None, option_and_then, unwrap_or, take_while, flat_map, fold, pos, bytes_eq, if◌then◌else◌}
use Rattle.std.specs.List.{starts_with}
use Rattle.std.specs.Char.Escape.{encode_utf16}
use Rattle.std.specs.Str.Parse.{digits_value}
use Rattle.property_keys.specs.Limits.{most_units}
use Rattle.property_keys.specs.Wholes.{most_whole}
use Rattle.es_source.specs.Characters.{starts_name, continues_name, is_digit_of, begins}
use Rattle.es_source.specs.declared.token.TokenKind.{TokenKind}
use Rattle.es_source.specs.declared.token.TokenKind.TheVariants.{Name, Number, Punctuator}

-- The code units of characters (11.1.1).
abbrev pub units_of : List ℕ → List ℕ
units_of cs = flat_map encode_utf16 cs

-- A name and the value of a text have at most 2^20 code units.
abbrev pub is_short : List ℕ → Bool
is_short units = nat_le (length units) most_units

-- How many characters the longest name at the front takes.
abbrev pub name_length : List ℕ → ℕ
name_length [] = 0
name_length (c ∷ cs) = if starts_name c then suc (length (take_while continues_name cs)) else 0

-- A name or a word (12.7): the longest at the front. It is bad where it has more than 2^20 code units.
abbrev pub name_at : List ℕ → Option (TokenKind × ℕ)
name_at cs =
    let units = units_of (take (name_length cs) cs) in
    if is_short units then Some (Name units, name_length cs) else None

-- The base that a letter after `0` names: `x`, `o` and `b`, of either case.
abbrev pub base_named : ℕ → Option ℕ
base_named c =
    if (c == 120) || (c == 88) then Some 16
    else (if (c == 111) || (c == 79) then Some 8
    else (if (c == 98) || (c == 66) then Some 2
    else None))

-- The digits of a base at the front.
abbrev pub digits_at : ℕ → List ℕ → List ℕ
digits_at base cs = take_while (is_digit_of base) cs

-- After a prefix of two characters: one digit of its base or more. The value, and how many characters that takes with the prefix.
abbrev pub number_in : ℕ → List ℕ → Option (ℕ × ℕ)
number_in base cs =
    let digits = digits_at base cs in
    if nat_lt 0 (length digits) then Some (digits_value base digits, 2 + length digits) else None

-- `0x`, `0o` or `0b`, and digits.
abbrev pub prefixed_number : List ℕ → Option (ℕ × ℕ)
prefixed_number cs = option_and_then (λ base. number_in base (drop 2 cs)) (option_and_then base_named (slice_get cs 1))

-- A digit 1 to 9, and all the digits after it.
abbrev pub decimal_number : List ℕ → ℕ × ℕ
decimal_number cs = (digits_value 10 (digits_at 10 cs), length (digits_at 10 cs))

-- The longest number at the front (12.9.3), its value and how many characters it takes. One that begins with `0` has a prefix and
-- digits, or it is `0` alone.
abbrev pub number_of : List ℕ → ℕ × ℕ
number_of cs = if begins (λ c. c == 48) cs then unwrap_or (prefixed_number cs) (0, 1) else decimal_number cs

-- `.`, a digit, `\` and a character that may start a name may not stand directly after a number.
abbrev pub spoils_number : ℕ → Bool
spoils_number c = (c == 46) || is_digit_of 10 c || (c == 92) || starts_name c

-- A number: the longest at the front. It is bad where it is more than 2^53 - 1 or what stands directly after it spoils it.
abbrev pub number_at : List ℕ → Option (TokenKind × ℕ)
number_at cs =
    let number = number_of cs in
    if nat_le number.0 most_whole && not (begins spoils_number (drop number.1 cs)) then Some (Number (pos number.0), number.1) else None

-- The punctuators (12.8).
abbrev pub punctuators : List (List ℕ)
punctuators =
    codes "{" ∷ codes "}" ∷ codes "(" ∷ codes ")" ∷ codes "[" ∷ codes "]" ∷ codes "." ∷ codes "..." ∷ codes ";" ∷ codes ","
    ∷ codes "<" ∷ codes ">" ∷ codes "<=" ∷ codes ">=" ∷ codes "==" ∷ codes "!=" ∷ codes "===" ∷ codes "!=="
    ∷ codes "+" ∷ codes "-" ∷ codes "*" ∷ codes "%" ∷ codes "++" ∷ codes "--" ∷ codes "!" ∷ codes "&&" ∷ codes "||" ∷ codes "??"
    ∷ codes "?" ∷ codes ":" ∷ codes "=" ∷ codes "+=" ∷ codes "-=" ∷ codes "*=" ∷ codes "%=" ∷ codes "=>" ∷ []

-- The longer of two, where the second stands at the front of the characters.
abbrev pub longer_at : List ℕ → List ℕ → List ℕ → List ℕ
longer_at cs best next = if starts_with nat_eq cs next && nat_lt (length best) (length next) then next else best

-- The longest punctuator at the front, and nothing where none stands there.
unfoldable pub longest_punctuator : List ℕ → List ℕ
longest_punctuator cs = fold (longer_at cs) [] punctuators

-- A punctuator: the longest at the front. It is bad where none stands there, and where it is `.` directly before a digit.
abbrev pub punctuator_at : List ℕ → Option (TokenKind × ℕ)
punctuator_at cs =
    let longest = longest_punctuator cs in
    if (length longest == 0) || (bytes_eq longest (codes ".") && begins (is_digit_of 10) (drop 1 cs)) then None
    else Some (Punctuator (units_of longest), length longest)
