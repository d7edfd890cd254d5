-- The parts that have a first token, which their tree names.
use Rattle.std.specs.Prelude.{ℕ, Bool, true, false, Option, Some, None, List, ◌∷◌}
use Rattle.script_grammar.specs.declared.sign.Sign.TheVariants.{Token as of}
use Rattle.script_grammar.specs.Grammar.{Read, read}
use Rattle.script_grammar.specs.Grammar.{Nonterminal}
use Rattle.script_grammar.specs.Grammar.{Nonterminal as nonterminal}

-- All nodes do, and so do names and properties. The lists, what may be left out, and a catch have none.
abbrev pub has_first : Nonterminal → Bool
has_first (nonterminal.items of_body) = false
has_first (nonterminal.binds constant of_head) = false
has_first nonterminal.params = false
has_first nonterminal.names = false
has_first nonterminal.body = false
has_first nonterminal.first = false
has_first (nonterminal.maybe plain) = false
has_first nonterminal.catch = false
has_first nonterminal.args = false
has_first nonterminal.arguments = false
has_first nonterminal.elements = false
has_first nonterminal.props = false
has_first _ = true

-- The number of the first of some tokens, where it is one of the file.
abbrev pub first_number : List Read → Option ℕ
first_number (read (of kind i a) n ∷ ts) = Some i
first_number _ = None
