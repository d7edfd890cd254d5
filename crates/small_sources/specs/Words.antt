-- Names, numbers and punctuators (ECMA-262, 12.7 to 12.9.3).
use Rattle.std.specs.Prelude.{ℕ, List, [], ◌∷◌, codes, pos, None}
use Rattle.es_source.specs.declared.faults.FaultCode.TheVariants as fault
use Rattle.es_source.specs.declared.token.TokenKind.{TokenKind}
use Rattle.es_source.specs.declared.token.TokenKind.TheVariants.{Name, Number, Punctuator}
use Rattle.small_sources.specs.Rows.{FaultRow, KindRow, at}

abbrev pub one_name : List ℕ → List TokenKind
one_name units = Name units ∷ []

abbrev pub one_number : ℕ → List TokenKind
one_number value = Number (pos value) ∷ []

abbrev pub mark : List ℕ → TokenKind
mark text = Punctuator text

-- Names: the first character and those behind it. One past the basic plane is two code units.
abbrev pub name_rows : List KindRow
name_rows =
    (codes "a", one_name (codes "a"))
    ∷ (codes "$", one_name (codes "$"))
    ∷ (codes "_", one_name (codes "_"))
    ∷ (codes "a1_$Z", one_name (codes "a1_$Z"))
    ∷ (0xE9 ∷ [], one_name (0xE9 ∷ []))
    ∷ (0x61 ∷ 0x300 ∷ [], one_name (0x61 ∷ 0x300 ∷ []))
    ∷ (codes "a\u{200c}", one_name (0x61 ∷ 0x200C ∷ []))
    ∷ (codes "a\u{200d}", one_name (0x61 ∷ 0x200D ∷ []))
    ∷ (0x20000 ∷ [], one_name (0xD840 ∷ 0xDC00 ∷ []))
    ∷ (codes "if", one_name (codes "if"))
    ∷ []

-- What begins no name, and `\` in one.
abbrev pub name_fault_rows : List FaultRow
name_fault_rows =
    (codes "\u{200c}", at fault.BadToken 1 1)
    ∷ (0x300 ∷ [], at fault.BadToken 1 1)
    ∷ (codes "\\u0061", at fault.BadToken 1 1)
    ∷ (codes "a\\u0061", at fault.BadToken 1 2)
    ∷ (codes "@", at fault.BadToken 1 1)
    ∷ (codes "#a", at fault.BadToken 1 1)
    ∷ (codes "`", at fault.BadToken 1 1)
    ∷ []

-- Numbers: decimal, and each prefix in both letters.
abbrev pub number_rows : List KindRow
number_rows =
    (codes "0", one_number 0)
    ∷ (codes "7", one_number 7)
    ∷ (codes "10", one_number 10)
    ∷ (codes "9007199254740991", one_number 9007199254740991)
    ∷ (codes "0x1F", one_number 31)
    ∷ (codes "0X1f", one_number 31)
    ∷ (codes "0xAbCdEf", one_number 11259375)
    ∷ (codes "0o17", one_number 15)
    ∷ (codes "0O17", one_number 15)
    ∷ (codes "0b101", one_number 5)
    ∷ (codes "0B101", one_number 5)
    ∷ (codes "0x0", one_number 0)
    ∷ (codes "0b0001", one_number 1)
    ∷ (codes "0x1FFFFFFFFFFFFF", one_number 9007199254740991)
    ∷ (codes "0o377777777777777777", one_number 9007199254740991)
    ∷ []

-- A number that is too great, one without digits, and what may not stand directly behind one: `.`, a digit, `\`, a first character of a name.
abbrev pub number_fault_rows : List FaultRow
number_fault_rows =
    (codes "9007199254740992", at fault.BadToken 1 1)
    ∷ (codes "0x20000000000000", at fault.BadToken 1 1)
    ∷ (codes "0o400000000000000000", at fault.BadToken 1 1)
    ∷ (codes "0x", at fault.BadToken 1 1)
    ∷ (codes "0X", at fault.BadToken 1 1)
    ∷ (codes "0o", at fault.BadToken 1 1)
    ∷ (codes "0O", at fault.BadToken 1 1)
    ∷ (codes "0b", at fault.BadToken 1 1)
    ∷ (codes "0B", at fault.BadToken 1 1)
    ∷ (codes "0xg", at fault.BadToken 1 1)
    ∷ (codes "0o8", at fault.BadToken 1 1)
    ∷ (codes "0b2", at fault.BadToken 1 1)
    ∷ (codes "0b12", at fault.BadToken 1 1)
    ∷ (codes "0O78", at fault.BadToken 1 1)
    ∷ (codes "00", at fault.BadToken 1 1)
    ∷ (codes "01", at fault.BadToken 1 1)
    ∷ (codes "08", at fault.BadToken 1 1)
    ∷ (codes "1.", at fault.BadToken 1 1)
    ∷ (codes "1.5", at fault.BadToken 1 1)
    ∷ (codes "1..a", at fault.BadToken 1 1)
    ∷ (codes "0x1.", at fault.BadToken 1 1)
    ∷ (codes "1a", at fault.BadToken 1 1)
    ∷ (codes "1n", at fault.BadToken 1 1)
    ∷ (codes "1_0", at fault.BadToken 1 1)
    ∷ (codes "1$", at fault.BadToken 1 1)
    ∷ (codes "3in", at fault.BadToken 1 1)
    ∷ (0x31 ∷ 0xE9 ∷ [], at fault.BadToken 1 1)
    ∷ (codes "0x1g", at fault.BadToken 1 1)
    ∷ (codes "1\\", at fault.BadToken 1 1)
    ∷ (codes "0\\", at fault.BadToken 1 1)
    ∷ (0x31 ∷ 0x300 ∷ [], at fault.BadToken 1 2)
    ∷ (codes "1\u{661}", at fault.BadToken 1 2)
    ∷ (codes "a 08", at fault.BadToken 1 3)
    ∷ (codes "1;", None)
    ∷ (codes "1+a", None)
    ∷ (codes "1/**/", None)
    ∷ []

-- Each punctuator (12.8).
abbrev pub each_mark : List TokenKind
each_mark =
    mark (codes "{") ∷ mark (codes "}") ∷ mark (codes "(") ∷ mark (codes ")") ∷ mark (codes "[") ∷ mark (codes "]") ∷ mark (codes ".")
    ∷ mark (codes "...") ∷ mark (codes ";") ∷ mark (codes ",") ∷ mark (codes "<") ∷ mark (codes ">") ∷ mark (codes "<=") ∷ mark (codes ">=")
    ∷ mark (codes "==") ∷ mark (codes "!=") ∷ mark (codes "===") ∷ mark (codes "!==") ∷ mark (codes "+") ∷ mark (codes "-") ∷ mark (codes "*")
    ∷ mark (codes "%") ∷ mark (codes "++") ∷ mark (codes "--") ∷ mark (codes "!") ∷ mark (codes "&&") ∷ mark (codes "||") ∷ mark (codes "??")
    ∷ mark (codes "?") ∷ mark (codes ":") ∷ mark (codes "=") ∷ mark (codes "+=") ∷ mark (codes "-=") ∷ mark (codes "*=") ∷ mark (codes "%=")
    ∷ mark (codes "=>") ∷ []

-- The longest is taken.
abbrev pub punctuator_rows : List KindRow
punctuator_rows =
    (codes "{ } ( ) [ ] . ... ; , < > <= >= == != === !== + - * % ++ -- ! && || ?? ? : = += -= *= %= =>", each_mark)
    ∷ (codes "a===b", Name (codes "a") ∷ mark (codes "===") ∷ Name (codes "b") ∷ [])
    ∷ (codes "a==b", Name (codes "a") ∷ mark (codes "==") ∷ Name (codes "b") ∷ [])
    ∷ (codes "+++", mark (codes "++") ∷ mark (codes "+") ∷ [])
    ∷ (codes "---=", mark (codes "--") ∷ mark (codes "-=") ∷ [])
    ∷ (codes "<==", mark (codes "<=") ∷ mark (codes "=") ∷ [])
    ∷ (codes "=>=", mark (codes "=>") ∷ mark (codes "=") ∷ [])
    ∷ (codes "!===", mark (codes "!==") ∷ mark (codes "=") ∷ [])
    ∷ (codes "====", mark (codes "===") ∷ mark (codes "=") ∷ [])
    ∷ (codes "....", mark (codes "...") ∷ mark (codes ".") ∷ [])
    ∷ (codes "..", mark (codes ".") ∷ mark (codes ".") ∷ [])
    ∷ (codes "??=", mark (codes "??") ∷ mark (codes "=") ∷ [])
    ∷ (codes "???", mark (codes "??") ∷ mark (codes "?") ∷ [])
    ∷ (codes "&&=", mark (codes "&&") ∷ mark (codes "=") ∷ [])
    ∷ (codes "**", mark (codes "*") ∷ mark (codes "*") ∷ [])
    ∷ (codes ">>=", mark (codes ">") ∷ mark (codes ">=") ∷ [])
    ∷ (codes "...1", mark (codes "...") ∷ Number (pos 1) ∷ [])
    ∷ []

-- What is no punctuator, and `.` directly before a digit.
abbrev pub punctuator_fault_rows : List FaultRow
punctuator_fault_rows =
    (codes "&", at fault.BadToken 1 1)
    ∷ (codes "|", at fault.BadToken 1 1)
    ∷ (codes "^", at fault.BadToken 1 1)
    ∷ (codes "~", at fault.BadToken 1 1)
    ∷ (codes "a & b", at fault.BadToken 1 3)
    ∷ (codes "&&&", at fault.BadToken 1 3)
    ∷ (codes ".1", at fault.BadToken 1 1)
    ∷ (codes "a.1", at fault.BadToken 1 2)
    ∷ (codes "..1", at fault.BadToken 1 2)
    ∷ (codes "a?.5:1", at fault.BadToken 1 3)
    ∷ []
