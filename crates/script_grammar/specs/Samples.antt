-- What small sources give, from their characters to a tree or a fault.
use Rattle.std.specs.Prelude.{◌≡◌, ℕ, zero, suc, false, List, [], ◌∷◌, ◌++◌, replicate, Ok, Some}
use Rattle.es_tree.specs.declared.expressions.BinaryOperator.TheVariants as binary_operator
use Rattle.es_source.specs.Reading.{Reading, reading_of_characters, fault_at}
use Rattle.es_source.specs.declared.faults.FaultCode.{FaultCode}
use Rattle.script_grammar.specs.declared.labels.Atom.TheVariants as atom
use Rattle.script_grammar.specs.declared.labels.Wrap.TheVariants as wrap
use Rattle.script_grammar.specs.declared.labels.Pair.TheVariants as pair
use Rattle.script_grammar.specs.Tree.{ParseTree}
use Rattle.script_grammar.specs.Tree.{ParseTree as parse_tree}
use Rattle.script_grammar.specs.Grammar.{nothing}
use Rattle.script_grammar.specs.Completed.{Derives, HasGrammarFault}

-- The source has tokens, which derive the tree.
pub record Accepts (source : List ℕ) (x : ParseTree) : Type 0 where
  pub reading : Reading
  pub is_read : reading_of_characters source ≡ Ok reading
  pub derives : Derives reading.tokens x

-- The source has tokens, and the grammar's first fault is this one, at this line and column.
pub record FaultAt (source : List ℕ) (code : FaultCode) (line column : ℕ) : Type 0 where
  pub reading : Reading
  pub is_read : reading_of_characters source ≡ Ok reading
  pub has_fault : HasGrammarFault reading (Some (fault_at code (record { line = line; column = column })))

-- Trees in short.
abbrev listed : ParseTree → List ParseTree → ParseTree
listed before [] = before
listed before (x ∷ rest) = listed (parse_tree.Pair pair.And before x) rest

-- a list with these members
abbrev pub all : List ParseTree → ParseTree
all members = listed nothing members

abbrev pub name : ℕ → ParseTree
name i = parse_tree.Atom (atom.Name i)

abbrev pub number : ℕ → ParseTree
number i = parse_tree.Atom (atom.Number i)

abbrev pub evaluate : ParseTree → ParseTree
evaluate e = parse_tree.Wrap wrap.Evaluate e

abbrev pub sum : ParseTree → ParseTree → ParseTree
sum a c = parse_tree.Pair (pair.Binary binary_operator.Add) a c

abbrev pub block : ℕ → List ParseTree → ParseTree
block i members = parse_tree.Wrap (wrap.Block i) (all members)

-- `let` with one name and its value
abbrev pub declare : ℕ → ℕ → ParseTree → ParseTree
declare first i e = parse_tree.Wrap (wrap.Lexical false first) (all (parse_tree.Wrap (wrap.Binding i) e ∷ []))

abbrev pub call : ParseTree → List ParseTree → ParseTree
call f arguments = parse_tree.Pair pair.Call f (all arguments)

abbrev pub parenthesis : ℕ → ParseTree → ParseTree
parenthesis i e = parse_tree.Wrap (wrap.Parenthesis i) e

-- so many parentheses around a number
abbrev pub inside : ℕ → ℕ → ParseTree
inside zero i = number i
inside (suc n) i = parenthesis i (inside n (suc i))

abbrev pub parenthesised : ℕ → List ℕ
parenthesised n = replicate n 40 ++ (49 ∷ replicate n 41)
