-- Each reserved word, in either mode (ECMA-262, 12.7.2), where a name, a member or a key may stand; and words that are not reserved.
use Rattle.std.specs.Prelude.{ℕ, List, [], ◌∷◌, ◌++◌, map, codes, None}
use Rattle.es_source.specs.declared.faults.FaultCode.TheVariants as fault
use Rattle.script_grammar.specs.declared.labels.Atom.TheVariants as atom
use Rattle.script_grammar.specs.declared.labels.Wrap.TheVariants as wrap
use Rattle.script_grammar.specs.declared.labels.Pair.TheVariants as pair
use Rattle.script_grammar.specs.Tree.{ParseTree as parse_tree}
use Rattle.script_grammar.specs.Samples.{name, number}
use Rattle.small_sources.specs.Forms.{object_of}
use Rattle.small_sources.specs.Levels.{expression}
use Rattle.small_sources.specs.Rows.{FaultRow, TreeRow, at}

abbrev pub reserved_words : List (List ℕ)
reserved_words =
    codes "await" ∷ codes "break" ∷ codes "case" ∷ codes "catch" ∷ codes "class" ∷ codes "const" ∷ codes "continue" ∷ codes "debugger"
    ∷ codes "default" ∷ codes "delete" ∷ codes "do" ∷ codes "else" ∷ codes "enum" ∷ codes "export" ∷ codes "extends" ∷ codes "false"
    ∷ codes "finally" ∷ codes "for" ∷ codes "function" ∷ codes "if" ∷ codes "implements" ∷ codes "import" ∷ codes "in" ∷ codes "instanceof"
    ∷ codes "interface" ∷ codes "let" ∷ codes "new" ∷ codes "null" ∷ codes "package" ∷ codes "private" ∷ codes "protected" ∷ codes "public"
    ∷ codes "return" ∷ codes "static" ∷ codes "super" ∷ codes "switch" ∷ codes "this" ∷ codes "throw" ∷ codes "true" ∷ codes "try"
    ∷ codes "typeof" ∷ codes "var" ∷ codes "void" ∷ codes "while" ∷ codes "with" ∷ codes "yield" ∷ []

abbrev pub plain_words : List (List ℕ)
plain_words =
    codes "get" ∷ codes "set" ∷ codes "of" ∷ codes "as" ∷ codes "from" ∷ codes "async" ∷ codes "target" ∷ codes "accessor"
    ∷ codes "constructor" ∷ codes "meta" ∷ codes "print" ∷ codes "lets" ∷ codes "yields" ∷ codes "$if" ∷ codes "_in" ∷ codes "undefinedly" ∷ []

-- those that stand in no production
abbrev pub unused_words : List (List ℕ)
unused_words =
    codes "await" ∷ codes "case" ∷ codes "class" ∷ codes "debugger" ∷ codes "default" ∷ codes "do" ∷ codes "enum" ∷ codes "export"
    ∷ codes "extends" ∷ codes "implements" ∷ codes "import" ∷ codes "interface" ∷ codes "package" ∷ codes "private" ∷ codes "protected"
    ∷ codes "public" ∷ codes "static" ∷ codes "super" ∷ codes "switch" ∷ codes "var" ∷ codes "with" ∷ codes "yield" ∷ []

-- no name
abbrev pub refused_name : List ℕ → FaultRow
refused_name word = (codes "let " ++ word, at fault.Unexpected 1 5)

abbrev pub reserved_rows : List FaultRow
reserved_rows = map refused_name reserved_words

-- no statement begins with it
abbrev pub refused_start : List ℕ → FaultRow
refused_start word = (word, at fault.Unexpected 1 1)

abbrev pub unused_rows : List FaultRow
unused_rows = map refused_start unused_words

-- a name
abbrev pub allowed_name : List ℕ → FaultRow
allowed_name word = (codes "let " ++ word, None)

abbrev pub plain_rows : List FaultRow
plain_rows = map allowed_name plain_words

-- any word behind a `.`, and as a key
abbrev pub member_named : List ℕ → TreeRow
member_named word = (codes "a." ++ word, expression (parse_tree.Wrap (wrap.Member 1 2) (name 0)))

abbrev pub member_rows : List TreeRow
member_rows = map member_named reserved_words

abbrev pub key_named : List ℕ → TreeRow
key_named word = (codes "({" ++ word ++ codes ": 1})", object_of (parse_tree.Pair pair.Property (parse_tree.Atom (atom.Key 2)) (number 4) ∷ []))

abbrev pub key_rows : List TreeRow
key_rows = map key_named reserved_words
