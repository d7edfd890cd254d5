-- White space and line terminators, and a text without them at its ends.
use Rattle.std.specs.Prelude.{ℕ, ◌-◌, ◌==◌, ◌||◌, ◌&&◌, Bool, List, length, take, drop, nat_le}
use Rattle.std.specs.List.{prefix_len, suffix_len}

-- Unicode's category Zs
abbrev pub is_space_separator : ℕ → Bool
is_space_separator c =
    (c == 0x20) || ((c == 0xA0) || ((c == 0x1680) || ((nat_le 0x2000 c && nat_le c 0x200A) || ((c == 0x202F) || ((c == 0x205F) || (c == 0x3000))))))

-- ECMA-262, 12.2
abbrev pub is_white_space : ℕ → Bool
is_white_space c = (c == 0x9) || ((c == 0xB) || ((c == 0xC) || ((c == 0xFEFF) || is_space_separator c)))

-- ECMA-262, 12.3
abbrev pub is_line_terminator : ℕ → Bool
is_line_terminator c = (c == 0xA) || ((c == 0xD) || ((c == 0x2028) || (c == 0x2029)))

abbrev pub is_blank : ℕ → Bool
is_blank c = is_white_space c || is_line_terminator c

abbrev pub without_leading_blanks : List ℕ → List ℕ
without_leading_blanks text = drop (prefix_len is_blank text) text

abbrev pub without_trailing_blanks : List ℕ → List ℕ
without_trailing_blanks text = take (length text - suffix_len is_blank text) text

-- TrimString at both ends (ECMA-262, 22.1.3.32.1)
abbrev pub trimmed : List ℕ → List ℕ
trimmed text = without_trailing_blanks (without_leading_blanks text)
