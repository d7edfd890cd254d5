-- What stands between tokens (ECMA-262, 12.2 to 12.5): white space, line terminators, comments.
use Rattle.std.specs.Prelude.{ℕ, ◌+◌, true, false, List, [], ◌∷◌, map, codes}
use Rattle.es_source.specs.declared.faults.FaultCode.TheVariants as fault
use Rattle.es_source.specs.declared.token.Token.{Token}
use Rattle.es_source.specs.declared.token.TokenKind.TheVariants.{Name}
use Rattle.small_sources.specs.Rows.{FaultRow, ReadingRow, at, seen, tokens_until}

abbrev pub first_a : Token
first_a = seen (Name (codes "a")) 1 1 false

-- `a`, this character, which takes so many bytes, and `b`: the first line goes on
abbrev pub parted : ℕ → ℕ → ReadingRow
parted blank bytes = (97 ∷ blank ∷ 98 ∷ [], tokens_until (first_a ∷ seen (Name (codes "b")) 1 (2 + bytes) false ∷ []) 1 (3 + bytes))

-- the same, and a line ends between
abbrev pub broken : ℕ → ReadingRow
broken blank = (97 ∷ blank ∷ 98 ∷ [], tokens_until (first_a ∷ seen (Name (codes "b")) 2 1 true ∷ []) 2 2)

-- no token begins with this character
abbrev pub spoiled : ℕ → FaultRow
spoiled other = (97 ∷ other ∷ 98 ∷ [], at fault.BadToken 1 2)

-- Each white space (12.2), and each line terminator (12.3).
abbrev pub white_space_rows : List ReadingRow
white_space_rows =
    parted 0x9 1 ∷ parted 0xB 1 ∷ parted 0xC 1 ∷ parted 0x20 1 ∷ parted 0xA0 2 ∷ parted 0x1680 3 ∷ parted 0x2000 3 ∷ parted 0x2001 3 ∷ parted 0x2002 3
    ∷ parted 0x2003 3 ∷ parted 0x2004 3 ∷ parted 0x2005 3 ∷ parted 0x2006 3 ∷ parted 0x2007 3 ∷ parted 0x2008 3 ∷ parted 0x2009 3 ∷ parted 0x200A 3
    ∷ parted 0x202F 3 ∷ parted 0x205F 3 ∷ parted 0x3000 3 ∷ parted 0xFEFF 3 ∷ []

abbrev pub line_terminator_rows : List ReadingRow
line_terminator_rows = broken 0xA ∷ broken 0xD ∷ broken 0x2028 ∷ broken 0x2029 ∷ []

-- Characters near to these that are neither.
abbrev pub no_blank_rows : List FaultRow
no_blank_rows =
    map spoiled (0x0 ∷ 0x8 ∷ 0xE ∷ 0x1F ∷ 0x7F ∷ 0x85 ∷ 0x180E ∷ 0x200B ∷ 0x2010 ∷ 0x2027 ∷ 0x202A ∷ 0x2030 ∷ 0x205E ∷ 0x2060 ∷ 0x3001 ∷ [])

-- CR LF as one line terminator, comments (12.4), and `#!` at the start (12.5). The first token follows no break.
abbrev pub comment_rows : List ReadingRow
comment_rows =
    (codes "a\r\nb", tokens_until (first_a ∷ seen (Name (codes "b")) 2 1 true ∷ []) 2 2)
    ∷ (codes "a\n\rb", tokens_until (first_a ∷ seen (Name (codes "b")) 3 1 true ∷ []) 3 2)
    ∷ (codes "\n a", tokens_until (seen (Name (codes "a")) 2 2 false ∷ []) 2 3)
    ∷ (codes "a/*b*/c", tokens_until (first_a ∷ seen (Name (codes "c")) 1 7 false ∷ []) 1 8)
    ∷ (codes "a/*\n*/b", tokens_until (first_a ∷ seen (Name (codes "b")) 2 3 true ∷ []) 2 4)
    ∷ (codes "a/*\u{2029}*/b", tokens_until (first_a ∷ seen (Name (codes "b")) 2 3 true ∷ []) 2 4)
    ∷ (codes "/*/*/a", tokens_until (seen (Name (codes "a")) 1 6 false ∷ []) 1 7)
    ∷ (codes "a//b", tokens_until (first_a ∷ []) 1 5)
    ∷ (codes "a//b\nc", tokens_until (first_a ∷ seen (Name (codes "c")) 2 1 true ∷ []) 2 2)
    ∷ (codes "a//\u{2028}b", tokens_until (first_a ∷ seen (Name (codes "b")) 2 1 true ∷ []) 2 2)
    ∷ (codes "#!b\na", tokens_until (seen (Name (codes "a")) 2 1 false ∷ []) 2 2)
    -- a column counts bytes
    ∷ (0x20000 ∷ 0x20 ∷ 0x61 ∷ [], tokens_until (seen (Name (0xD840 ∷ 0xDC00 ∷ [])) 1 1 false ∷ seen (Name (codes "a")) 1 6 false ∷ []) 1 7)
    ∷ (codes "a  ", tokens_until (first_a ∷ []) 1 4)
    ∷ ([], tokens_until [] 1 1)
    ∷ []

-- Comments without an end, and `#!` elsewhere.
abbrev pub comment_fault_rows : List FaultRow
comment_fault_rows =
    (codes "/*", at fault.BadToken 1 1)
    ∷ (codes "/*/", at fault.BadToken 1 1)
    ∷ (codes "a /* *", at fault.BadToken 1 3)
    ∷ (codes "a\n/**", at fault.BadToken 2 1)
    ∷ (codes " #!a", at fault.BadToken 1 2)
    ∷ (codes "a\n#!b", at fault.BadToken 2 1)
    ∷ (codes "a / b", at fault.BadToken 1 3)
    ∷ (codes "/**/ #", at fault.BadToken 1 6)
    ∷ []
