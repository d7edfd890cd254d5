-- Where something stands in a source.
use Rattle.std.specs.Prelude.{◌&&◌, ◌||◌, ◌==◌, ◌+◌, ℕ, suc, nat_eq, nat_lt, Bool, not, List, [], ◌∷◌, sum_by, if◌then◌else◌}
use Rattle.std.specs.Char.{len_utf8}
use Rattle.property_keys.specs.Blanks.{is_line_terminator}
use Rattle.es_source.specs.declared.place.Place.{Place}
use Rattle.es_source.specs.Characters.{begins}

-- A line ends after LF, CR, U+2028 and U+2029. CR LF ends it as one: a CR directly before an LF ends no line by itself.
abbrev pub ends_line : ℕ → List ℕ → Bool
ends_line c rest = is_line_terminator c && not ((c == 0xD) && begins (λ d. d == 0xA) rest)

-- How many lines end in these characters.
abbrev pub ended_lines : List ℕ → ℕ
ended_lines [] = 0
ended_lines (c ∷ cs) = if ends_line c cs then suc (ended_lines cs) else ended_lines cs

-- The characters after the last line that ends in them.
abbrev pub last_line : List ℕ → List ℕ
last_line [] = []
last_line (c ∷ cs) = if ended_lines (c ∷ cs) == 0 then c ∷ cs else last_line cs

abbrev pub same_place : Place → Place → Bool
same_place p q = nat_eq p.line q.line && nat_eq p.column q.column

-- Whether a place is before another: the lesser line counts, and on one line the lesser column.
abbrev pub is_before : Place → Place → Bool
is_before p q = nat_lt p.line q.line || (nat_eq p.line q.line && nat_lt p.column q.column)

-- The place directly after these characters, which stand at the start of a source. Columns count bytes of UTF-8.
abbrev pub place_after : List ℕ → Place
place_after before = record { line = 1 + ended_lines before; column = 1 + sum_by len_utf8 (last_line before) }
