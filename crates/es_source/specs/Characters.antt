-- The characters that the tokens are made of (ECMA-262, clause 12). A character is its code point.
use Rattle.std.specs.Prelude.{◌||◌, ◌==◌, ℕ, Bool, false, List, [], ◌∷◌, nat_lt}
use Rattle.std.specs.Char.{digit_value}
use Rattle.unicode_ident.specs.Ident.{is_xid_start, is_xid_continue}

-- A name begins with `$`, `_` or a character that is XID_Start.
abbrev pub starts_name : ℕ → Bool
starts_name c = (c == 36) || (c == 95) || is_xid_start c

-- It goes on with `$`, `_`, U+200C, U+200D or characters that are XID_Continue.
abbrev pub continues_name : ℕ → Bool
continues_name c = (c == 36) || (c == 95) || (c == 0x200C) || (c == 0x200D) || is_xid_continue c

-- A digit of a base. The letters of bases above ten may be of either case.
abbrev pub is_digit_of : ℕ → ℕ → Bool
is_digit_of base c = nat_lt (digit_value c) base

-- Whether a character that passes the test stands first.
abbrev pub begins : (ℕ → Bool) → List ℕ → Bool
begins test [] = false
begins test (c ∷ cs) = test c
