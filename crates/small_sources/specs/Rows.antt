-- Rows: a source with what it gives. In each table a row that has a fault stands beside the nearest one that has none.
use Rattle.std.specs.Prelude.{◌≡◌, ℕ, Bool, List, map, encode_utf8_all, Option, Some, None, Result, Ok, Err}
use Rattle.es_source.specs.declared.faults.FaultCode.{FaultCode}
use Rattle.es_source.specs.declared.faults.FaultCode.TheVariants as code
use Rattle.es_source.specs.declared.faults.SourceFault.{SourceFault}
use Rattle.es_source.specs.declared.token.Token.{Token}
use Rattle.es_source.specs.declared.token.TokenKind.{TokenKind}
use Rattle.es_source.specs.Reading.{Reading, reading_of_characters, fault_at}
use Rattle.script_grammar.specs.Tree.{ParseTree}
use Rattle.script_grammar.specs.Samples.{Accepts}
use Rattle.script_rules.specs.FirstFault.{HasFirstFault}

-- ---- the first fault

-- a source in characters, and its first fault, or None where it has none
abbrev pub FaultRow : Type 0
FaultRow = List ℕ × Option SourceFault

-- this fault at this line and column
abbrev pub at : FaultCode → ℕ → ℕ → Option SourceFault
at fault line column = Some (fault_at fault (record { line = line; column = column }))

-- the bytes of the characters have that first fault
abbrev pub HasFault : FaultRow → Type 0
HasFault row = HasFirstFault (encode_utf8_all row.0) row.1

-- ---- the tokens

-- a source, and what its tokens are
abbrev pub KindRow : Type 0
KindRow = List ℕ × List TokenKind

abbrev pub kind_in : Token → TokenKind
kind_in t = t.kind

abbrev pub kinds_in : Result Reading SourceFault → Option (List TokenKind)
kinds_in (Ok r) = Some (map kind_in r.tokens)
kinds_in (Err fault) = None

abbrev pub HasKinds : KindRow → Type 0
HasKinds row = kinds_in (reading_of_characters row.0) ≡ Some row.1

-- a source, its tokens with their places, and its end
abbrev pub ReadingRow : Type 0
ReadingRow = List ℕ × Reading

-- a token at a line and a column, and whether it follows a break
abbrev pub seen : TokenKind → ℕ → ℕ → Bool → Token
seen kind line column after_break = record { kind = kind; place = record { line = line; column = column }; after_break = after_break }

-- tokens, and the line and column of the end
abbrev pub tokens_until : List Token → ℕ → ℕ → Reading
tokens_until tokens line column = record { tokens = tokens; ending = record { line = line; column = column } }

abbrev pub IsRead : ReadingRow → Type 0
IsRead row = reading_of_characters row.0 ≡ Ok row.1

-- ---- the tree

-- a source, and its tree
abbrev pub TreeRow : Type 0
TreeRow = List ℕ × ParseTree

abbrev pub HasScript : TreeRow → Type 0
HasScript row = Accepts row.0 row.1

-- ---- bytes that are no text

-- bytes, and their first fault
abbrev pub ByteRow : Type 0
ByteRow = List ℕ × SourceFault

abbrev pub ill_formed_at : ℕ → ℕ → SourceFault
ill_formed_at line column = fault_at code.NotUtf8 (record { line = line; column = column })

abbrev pub IsIllFormed : ByteRow → Type 0
IsIllFormed row = HasFirstFault row.0 (Some row.1)
