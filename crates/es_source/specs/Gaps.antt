-- What may stand between two tokens: white space, line terminators and comments (ECMA-262, 12.2 to 12.4).
use Rattle.std.specs.Prelude.{◌||◌, ◌+◌, ℕ, zero, suc, not, List, [], ◌∷◌, length, drop, codes, nat_eq}
use Rattle.std.specs.Prelude.{Option, Some, None, option_map, Result, Ok, Err, take_while, if◌then◌else◌}
use Rattle.std.specs.List.{starts_with}
use Rattle.property_keys.specs.Blanks.{is_white_space, is_line_terminator}
use Rattle.es_source.specs.Characters.{begins}

-- How many characters stand before the next line terminator, or before the end.
abbrev pub to_line_end : List ℕ → ℕ
to_line_end cs = length (take_while (λ c. not (is_line_terminator c)) cs)

-- How many characters stand up to the first `*/` and in it. None where there is no `*/`.
abbrev pub to_comment_end : List ℕ → Option ℕ
to_comment_end [] = None
to_comment_end (c ∷ cs) = if starts_with nat_eq (c ∷ cs) (codes "*/") then Some 2 else option_map suc (to_comment_end cs)

-- How many characters the white space, the line terminator or the comment at the front takes: 0 where none stands there.
-- A comment is `//` and all up to the line's end, or `/*` and all up to the first `*/`. None where a `/*` has no `*/` after it.
abbrev pub separator_length : List ℕ → Option ℕ
separator_length cs =
    if starts_with nat_eq cs (codes "//") then Some (to_line_end cs)
    else (if starts_with nat_eq cs (codes "/*") then option_map (λ n. 2 + n) (to_comment_end (drop 2 cs))
    else (if begins (λ c. is_white_space c || is_line_terminator c) cs then Some 1
    else Some 0))

-- One character more, whatever is found.
abbrev pub one_more : Result ℕ ℕ → Result ℕ ℕ
one_more (Ok n) = Ok (suc n)
one_more (Err n) = Err (suc n)

-- What is found after a separator of that length, where `later` says what is found once so many characters more have passed.
abbrev pub after_separator : (ℕ → Result ℕ ℕ) → Option ℕ → Result ℕ ℕ
after_separator later None = Err 0
after_separator later (Some zero) = Ok 0
after_separator later (Some (suc passing)) = one_more (later passing)

-- The gap at the front, which is all that stands before the next token or the end: Ok with how many characters it takes,
-- Err where a comment in it has no end, with how many characters stand before that comment.
-- The number says how many characters at the front belong to the separator before.
abbrev pub gap_from : ℕ → List ℕ → Result ℕ ℕ
gap_from passing [] = Ok 0
gap_from (suc passing) (c ∷ cs) = one_more (gap_from passing cs)
gap_from zero (c ∷ cs) = after_separator (λ passing. gap_from passing cs) (separator_length (c ∷ cs))

abbrev pub gap_of : List ℕ → Result ℕ ℕ
gap_of cs = gap_from 0 cs
