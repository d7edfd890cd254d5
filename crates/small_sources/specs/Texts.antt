-- Texts and their escapes (ECMA-262, 12.9.4).
use Rattle.std.specs.Prelude.{ℕ, true, false, List, [], ◌∷◌, codes}
use Rattle.es_source.specs.declared.faults.FaultCode.TheVariants as fault
use Rattle.es_source.specs.declared.token.TokenKind.{TokenKind}
use Rattle.es_source.specs.declared.token.TokenKind.TheVariants.{Name, Text}
use Rattle.small_sources.specs.Rows.{FaultRow, KindRow, at}

-- one text with this value, whose source is not that of a directive that makes code strict
abbrev pub one_text : List ℕ → List TokenKind
one_text units = Text units false ∷ []

abbrev pub one_unit : ℕ → List TokenKind
one_unit unit = one_text (unit ∷ [])

-- Each escape.
abbrev pub escape_rows : List KindRow
escape_rows =
    (codes "'\\b'", one_unit 8)
    ∷ (codes "'\\t'", one_unit 9)
    ∷ (codes "'\\n'", one_unit 10)
    ∷ (codes "'\\v'", one_unit 11)
    ∷ (codes "'\\f'", one_unit 12)
    ∷ (codes "'\\r'", one_unit 13)
    ∷ (codes "'\\0'", one_unit 0)
    ∷ (codes "'\\0a'", one_text (0 ∷ 97 ∷ []))
    ∷ (codes "'\\x41'", one_unit 0x41)
    ∷ (codes "'\\xaF'", one_unit 0xAF)
    ∷ (codes "'\\x410'", one_text (codes "A0"))
    ∷ (codes "'\\u0041'", one_unit 0x41)
    ∷ (codes "'\\uD83d'", one_unit 0xD83D)
    ∷ (codes "'\\u00410'", one_text (codes "A0"))
    ∷ (codes "'\\u{41}'", one_unit 0x41)
    ∷ (codes "'\\u{0}'", one_unit 0)
    ∷ (codes "'\\u{000041}'", one_unit 0x41)
    ∷ (codes "'\\u{D800}'", one_unit 0xD800)
    ∷ (codes "'\\u{FFFF}'", one_unit 0xFFFF)
    ∷ (codes "'\\u{10000}'", one_text (0xD800 ∷ 0xDC00 ∷ []))
    ∷ (codes "'\\u{1F600}'", one_text (0xD83D ∷ 0xDE00 ∷ []))
    ∷ (codes "'\\u{10ffff}'", one_text (0xDBFF ∷ 0xDFFF ∷ []))
    -- a line terminator stands for nothing, CR LF as one
    ∷ (codes "'\\\n'", one_text [])
    ∷ (codes "'\\\r'", one_text [])
    ∷ (codes "'\\\r\n'", one_text [])
    ∷ (codes "'\\\u{2028}'", one_text [])
    ∷ (codes "'\\\u{2029}'", one_text [])
    -- every other character but a digit stands for itself
    ∷ (codes "'\\''", one_unit 39)
    ∷ (codes "'\\\"'", one_unit 34)
    ∷ (codes "'\\\\'", one_unit 92)
    ∷ (codes "'\\a'", one_unit 97)
    ∷ (codes "'\\c'", one_unit 99)
    ∷ (codes "'\\B'", one_unit 66)
    ∷ (codes "'\\N'", one_unit 78)
    ∷ (codes "'\\X41'", one_text (codes "X41"))
    ∷ (codes "'\\U0041'", one_text (codes "U0041"))
    ∷ (0x27 ∷ 0x5C ∷ 0x1F600 ∷ 0x27 ∷ [], one_text (0xD83D ∷ 0xDE00 ∷ []))
    ∷ []

-- Every other escape. The fault stands at the start of the text.
abbrev pub escape_fault_rows : List FaultRow
escape_fault_rows =
    (codes "'\\1'", at fault.BadToken 1 1)
    ∷ (codes "'\\2'", at fault.BadToken 1 1)
    ∷ (codes "'\\3'", at fault.BadToken 1 1)
    ∷ (codes "'\\4'", at fault.BadToken 1 1)
    ∷ (codes "'\\5'", at fault.BadToken 1 1)
    ∷ (codes "'\\6'", at fault.BadToken 1 1)
    ∷ (codes "'\\7'", at fault.BadToken 1 1)
    ∷ (codes "'\\8'", at fault.BadToken 1 1)
    ∷ (codes "'\\9'", at fault.BadToken 1 1)
    ∷ (codes "'\\00'", at fault.BadToken 1 1)
    ∷ (codes "'\\08'", at fault.BadToken 1 1)
    ∷ (codes "'\\09'", at fault.BadToken 1 1)
    ∷ (codes "'\\x'", at fault.BadToken 1 1)
    ∷ (codes "'\\x4'", at fault.BadToken 1 1)
    ∷ (codes "'\\x4g'", at fault.BadToken 1 1)
    ∷ (codes "'\\xg4'", at fault.BadToken 1 1)
    ∷ (codes "'\\u'", at fault.BadToken 1 1)
    ∷ (codes "'\\u004'", at fault.BadToken 1 1)
    ∷ (codes "'\\u004g'", at fault.BadToken 1 1)
    ∷ (codes "'\\u{}'", at fault.BadToken 1 1)
    ∷ (codes "'\\u{4g}'", at fault.BadToken 1 1)
    ∷ (codes "'\\u{41'", at fault.BadToken 1 1)
    ∷ (codes "'\\u{ 41}'", at fault.BadToken 1 1)
    ∷ (codes "'\\u{110000}'", at fault.BadToken 1 1)
    ∷ (codes "'\\u{100000041}'", at fault.BadToken 1 1)
    ∷ (codes "'\\\n\r'", at fault.BadToken 1 1)
    ∷ (codes "a '\\1'", at fault.BadToken 1 3)
    ∷ []

-- Texts without escapes. Those of exactly `use strict` are told apart.
abbrev pub text_rows : List KindRow
text_rows =
    (codes "''", one_text [])
    ∷ (codes "\"\"", one_text [])
    ∷ (codes "\"a\"", one_unit 97)
    ∷ (codes "'\"'", one_unit 34)
    ∷ (codes "\"'\"", one_unit 39)
    ∷ (codes "'\u{2028}'", one_unit 0x2028)
    ∷ (codes "'\u{2029}'", one_unit 0x2029)
    ∷ (0x27 ∷ 0x1F600 ∷ 0x27 ∷ [], one_text (0xD83D ∷ 0xDE00 ∷ []))
    ∷ (codes "'//'", one_text (codes "//"))
    ∷ (codes "'a'b", Text (codes "a") false ∷ Name (codes "b") ∷ [])
    ∷ (codes "'use strict'", Text (codes "use strict") true ∷ [])
    ∷ (codes "\"use strict\"", Text (codes "use strict") true ∷ [])
    ∷ (codes "'use\\x20strict'", one_text (codes "use strict"))
    ∷ (codes "'use  strict'", one_text (codes "use  strict"))
    ∷ (codes "'use strict '", one_text (codes "use strict "))
    ∷ []

-- A text without an end, or with LF or CR in it.
abbrev pub text_fault_rows : List FaultRow
text_fault_rows =
    (codes "'", at fault.BadToken 1 1)
    ∷ (codes "\"", at fault.BadToken 1 1)
    ∷ (codes "'a", at fault.BadToken 1 1)
    ∷ (codes "'a\"", at fault.BadToken 1 1)
    ∷ (codes "'\n'", at fault.BadToken 1 1)
    ∷ (codes "'\r'", at fault.BadToken 1 1)
    ∷ (codes "'a\n'", at fault.BadToken 1 1)
    ∷ (codes "'\\'", at fault.BadToken 1 1)
    ∷ (codes "'\\", at fault.BadToken 1 1)
    ∷ (codes "a 'b", at fault.BadToken 1 3)
    ∷ []
