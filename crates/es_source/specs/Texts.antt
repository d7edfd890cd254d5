-- The form of texts (ECMA-262, 12.9.4). A part gives how many characters it takes and the code point that it stands for, if it stands for one;
-- None where the text is bad.
use Rattle.std.specs.Prelude.{◌||◌, ◌&&◌, ◌==◌, ◌+◌, ℕ, zero, suc, pred, Bool, List, [], ◌∷◌, ◌++◌, length, take, drop, codes}
use Rattle.std.specs.Prelude.{nat_lt, nat_le, Option, Some, None, option_map, option_and_then, bytes_eq, if◌then◌else◌}
use Rattle.std.specs.List.{list_all}
use Rattle.std.specs.Char.Escape.{encode_utf16}
use Rattle.std.specs.Option.{option_map_or}
use Rattle.std.specs.Str.Parse.{digits_value}
use Rattle.property_keys.specs.Blanks.{is_line_terminator}
use Rattle.es_source.specs.Characters.{is_digit_of, begins}
use Rattle.es_source.specs.Forms.{digits_at, is_short}
use Rattle.es_source.specs.declared.token.TokenKind.{TokenKind}
use Rattle.es_source.specs.declared.token.TokenKind.TheVariants.{Text}

-- `'` and `"`
abbrev pub is_quote : ℕ → Bool
is_quote c = (c == 39) || (c == 34)

-- What a character after `\` stands for that begins no other escape: `b t n v f r` for a control character, every other for itself.
abbrev pub escaped : ℕ → ℕ
escaped c =
    if c == 98 then 8
    else (if c == 116 then 9
    else (if c == 110 then 10
    else (if c == 118 then 11
    else (if c == 102 then 12
    else (if c == 114 then 13
    else c)))))

-- The number that exactly n hexadecimal digits at the front write.
abbrev pub hexadecimal : ℕ → List ℕ → Option ℕ
hexadecimal n cs =
    if (length (take n cs) == n) && list_all (is_digit_of 16) (take n cs) then Some (digits_value 16 (take n cs)) else None

-- After `\u{`: hexadecimal digits, at least one, of at most 10FFFF, and `}`.
abbrev pub braced : List ℕ → Option (ℕ × Option ℕ)
braced cs =
    let digits = digits_at 16 cs in
    if nat_lt 0 (length digits) && begins (λ c. c == 125) (drop (length digits) cs) && nat_le (digits_value 16 digits) 0x10FFFF
    then Some (length digits + 1, Some (digits_value 16 digits))
    else None

-- So many characters more.
abbrev pub longer_by : ℕ → ℕ × Option ℕ → ℕ × Option ℕ
longer_by n part = (n + part.0, part.1)

-- After `\u`: four hexadecimal digits, or digits in braces.
abbrev pub unicode_escape : List ℕ → Option (ℕ × Option ℕ)
unicode_escape cs =
    if begins (λ c. c == 123) cs then option_map (longer_by 1) (braced (drop 1 cs))
    else option_map (λ code. (4, Some code)) (hexadecimal 4 cs)

-- After `\`. `0` is U+0000 unless a digit follows, and no other digit is an escape. `x` has two hexadecimal digits. A line terminator, CR LF
-- as one, stands for nothing.
abbrev pub escape_at : List ℕ → Option (ℕ × Option ℕ)
escape_at [] = None
escape_at (c ∷ cs) =
    if c == 48 then (if begins (is_digit_of 10) cs then None else Some (1, Some 0))
    else (if is_digit_of 10 c then None
    else (if c == 120 then option_map (λ code. (3, Some code)) (hexadecimal 2 cs)
    else (if c == 117 then option_map (longer_by 1) (unicode_escape cs)
    else (if (c == 0xD) && begins (λ d. d == 0xA) cs then Some (2, None)
    else (if is_line_terminator c then Some (1, None)
    else Some (1, Some (escaped c)))))))

-- One part of a text: a character, or `\` and what follows it. LF and CR may not stand in a text, while U+2028 and U+2029 may.
abbrev pub part_at : List ℕ → Option (ℕ × Option ℕ)
part_at [] = None
part_at (c ∷ cs) =
    if (c == 0xA) || (c == 0xD) then None
    else (if c == 92 then option_map (longer_by 1) (escape_at cs)
    else Some (1, Some c))

-- The code units of a code point (11.1.1), of which one past the basic plane has two. A surrogate is its one code unit.
abbrev pub units_for : Option ℕ → List ℕ
units_for point = option_map_or encode_utf16 point []

-- One character more, and these code units before the others.
abbrev pub with_part : List ℕ → Option (ℕ × List ℕ) → Option (ℕ × List ℕ)
with_part units rest = option_map (λ text. (suc text.0, units ++ text.1)) rest

-- A part and what comes after it, where `later` says what comes once so many characters more have passed.
abbrev pub after_part : (ℕ → Option (ℕ × List ℕ)) → Option (ℕ × Option ℕ) → Option (ℕ × List ℕ)
after_part later None = None
after_part later (Some part) = with_part (units_for part.1) (later (pred part.0))

-- The rest of a text that this quote opened: how many characters it takes, the closing quote with them, and its code units. None where a part
-- is bad or the text has no end. The second number says how many characters at the front belong to the part before.
abbrev pub text_from : ℕ → ℕ → List ℕ → Option (ℕ × List ℕ)
text_from quote passing [] = None
text_from quote (suc passing) (c ∷ cs) = with_part [] (text_from quote passing cs)
text_from quote zero (c ∷ cs) =
    if c == quote then Some (1, []) else after_part (λ passing. text_from quote passing cs) (part_at (c ∷ cs))

-- The token of a text's rest: bad where the value has more than 2^20 code units. It is strict where exactly `use strict` stands between
-- the quotes.
abbrev pub text_token : List ℕ → ℕ × List ℕ → Option (TokenKind × ℕ)
text_token cs text =
    if is_short text.1 then Some (Text text.1 (bytes_eq (take (pred text.0) cs) (codes "use strict")), suc text.0) else None

-- A text, from its quote to the next quote of its kind that stands in no escape.
abbrev pub text_at : List ℕ → Option (TokenKind × ℕ)
text_at [] = None
text_at (quote ∷ cs) = option_and_then (text_token cs) (text_from quote 0 cs)
