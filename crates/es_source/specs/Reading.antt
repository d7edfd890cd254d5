-- The tokens of a source, or its first fault (ECMA-262, clause 12).
use Rattle.std.specs.Prelude.{◌&&◌, ◌==◌, ◌+◌, ◌^◌, ℕ, zero, suc, pred, Bool, true, false, not, List, [], ◌∷◌, ◌++◌, length}
use Rattle.std.specs.Prelude.{take, drop, codes, nat_eq, nat_lt, Option, Some, None, Result, Ok, Err, chars, if◌then◌else◌}
use Rattle.std.specs.List.{starts_with, list_any}
use Rattle.std.specs.Str.{is_utf8}
use Rattle.std.specs.Str.Lossy.{utf8_valid_len}
use Rattle.property_keys.specs.Blanks.{is_line_terminator}
use Rattle.es_source.specs.Characters.{starts_name, is_digit_of, begins}
use Rattle.es_source.specs.declared.place.Place.{Place}
use Rattle.es_source.specs.Places.{place_after}
use Rattle.es_source.specs.Gaps.{gap_of, to_line_end}
use Rattle.es_source.specs.Forms.{name_at, number_at, punctuator_at}
use Rattle.es_source.specs.Texts.{is_quote, text_at}
use Rattle.es_source.specs.declared.faults.FaultCode.{FaultCode}
use Rattle.es_source.specs.declared.faults.FaultCode.TheVariants.{TooLong, NotUtf8, BadToken}
use Rattle.es_source.specs.declared.faults.SourceFault.{SourceFault}
use Rattle.es_source.specs.declared.token.TokenKind.{TokenKind}
use Rattle.es_source.specs.declared.token.Token.{Token}

-- The tokens of a source and the place one past its last character.
pub record Reading : Type 0 where
  pub tokens : List Token
  pub ending : Place

-- The token at the front: what it is and how many characters it takes. None where no token stands there. The character at the front decides the
-- form, and each form takes as many characters as it can.
abbrev pub token_at : List ℕ → Option (TokenKind × ℕ)
token_at cs =
    if begins starts_name cs then name_at cs
    else (if begins (is_digit_of 10) cs then number_at cs
    else (if begins is_quote cs then text_at cs
    else punctuator_at cs))

-- What comes next in a source: its end after a gap, a bad token after so many characters, or a token with the length of the gap before it and its own.
pub data Next : Type 0 where
  Ends : Next
  Fails : (passed : ℕ) → Next
  Comes : (gap : ℕ) → (kind : TokenKind) → (size : ℕ) → Next

abbrev pub after_gap : ℕ → Option (TokenKind × ℕ) → Next
after_gap gap None = Fails gap
after_gap gap (Some form) = Comes gap form.0 form.1

abbrev pub next_after : List ℕ → Result ℕ ℕ → Next
next_after cs (Err passed) = Fails passed
next_after cs (Ok gap) = if length (drop gap cs) == 0 then Ends else after_gap gap (token_at (drop gap cs))

-- An unclosed comment is a bad token at its start, and so is what begins no token.
abbrev pub next_of : List ℕ → Next
next_of cs = next_after cs (gap_of cs)

abbrev pub fault_at : FaultCode → Place → SourceFault
fault_at fault place = record { code = fault; place = place }

-- A token that stands after these characters and a gap. It follows a break where a line terminator, also one in a comment, stands
-- between it and the token before.
abbrev pub token_after : Bool → List ℕ → List ℕ → TokenKind → Token
token_after is_first before gap form =
    record { kind = form; place = place_after (before ++ gap); after_break = not is_first && list_any is_line_terminator gap }

abbrev pub with_token : Token → Result (List Token) SourceFault → Result (List Token) SourceFault
with_token token (Ok rest) = Ok (token ∷ rest)
with_token token (Err fault) = Err fault

-- The tokens from here on, by what comes next. `before` is all that stands before, `cs` what is left, and `later` gives the tokens after so many
-- characters more.
abbrev pub tokens_by : Bool → List ℕ → List ℕ → (ℕ → Result (List Token) SourceFault) → Next → Result (List Token) SourceFault
tokens_by is_first before cs later Ends = Ok []
tokens_by is_first before cs later (Fails passed) = Err (fault_at BadToken (place_after (before ++ take passed cs)))
tokens_by is_first before cs later (Comes gap form size) =
    with_token (token_after is_first before (take gap cs) form) (later (pred (gap + size)))

-- The tokens of the characters that are left after those before. The number says how many characters at the front belong to what was found before.
abbrev pub tokens_from : Bool → List ℕ → ℕ → List ℕ → Result (List Token) SourceFault
tokens_from is_first before passing [] = Ok []
tokens_from is_first before (suc passing) (c ∷ cs) = tokens_from is_first (before ++ c ∷ []) passing cs
tokens_from is_first before zero (c ∷ cs) =
    tokens_by is_first before (c ∷ cs) (λ passing. tokens_from false (before ++ c ∷ []) passing cs) (next_of (c ∷ cs))

-- `#!` at the very start and all up to the line's end is a comment (12.5).
abbrev pub hashbang_length : List ℕ → ℕ
hashbang_length cs = if starts_with nat_eq cs (codes "#!") then to_line_end cs else 0

abbrev pub with_ending : Place → Result (List Token) SourceFault → Result Reading SourceFault
with_ending place (Ok all) = Ok (record { tokens = all; ending = place })
with_ending place (Err fault) = Err fault

-- The phase of tokens: over all the characters.
abbrev pub reading_of_characters : List ℕ → Result Reading SourceFault
reading_of_characters cs = with_ending (place_after cs) (tokens_from true [] (hashbang_length cs) cs)

-- a source has at most so many bytes
abbrev pub most_bytes : ℕ
most_bytes = 2 ^ 22

-- The tokens of bytes, or their first fault of length, of decoding or of tokens. Each phase goes over the whole file: it has at most 2^22 bytes (else
-- TooLong at 1:1); they are UTF-8 (else NotUtf8 at the first byte after their longest front that is); and their characters have tokens.
unfoldable pub reading_of : List ℕ → Result Reading SourceFault
reading_of bytes =
    if nat_lt most_bytes (length bytes) then Err (fault_at TooLong (place_after []))
    else (if is_utf8 bytes then reading_of_characters (chars bytes)
    else Err (fault_at NotUtf8 (place_after (chars (take (utf8_valid_len bytes) bytes)))))
