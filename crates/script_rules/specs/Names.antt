-- The names that the parts of a script declare.
use Rattle.std.specs.Prelude.{ℕ, Bool, List, [], ◌∷◌, ◌++◌, map, flat_map, Option, Some, None, slice_get, if◌then◌else◌}
use Rattle.script_grammar.specs.declared.leaf.Leaf.{Leaf}
use Rattle.script_grammar.specs.declared.leaf.LeafKind.{LeafKind}
use Rattle.script_grammar.specs.declared.leaf.LeafKind.TheVariants as leaf
use Rattle.script_grammar.specs.declared.labels.Atom.TheVariants as atom
use Rattle.script_grammar.specs.declared.labels.Wrap.TheVariants as wrap
use Rattle.script_grammar.specs.declared.labels.Pair.TheVariants as pair
use Rattle.script_grammar.specs.Tree.{ParseTree}
use Rattle.script_grammar.specs.Tree.{ParseTree as parse_tree}
use Rattle.script_rules.specs.declared.manner.Declared.{Declared}
use Rattle.script_rules.specs.declared.manner.Manner.{Manner}
use Rattle.script_rules.specs.declared.manner.Manner.TheVariants as manner

-- ---- what a token says

-- the code units of a name, a word or a text
abbrev pub units_in : LeafKind → List ℕ
units_in (leaf.Name units) = units
units_in (leaf.Text units strict) = units
units_in other = []

abbrev pub units_by : Option Leaf → List ℕ
units_by None = []
units_by (Some x) = units_in x.kind

-- the units that were found, or none
abbrev pub units_of : Option (List ℕ) → List ℕ
units_of None = []
units_of (Some units) = units

abbrev pub units_at : List Leaf → ℕ → List ℕ
units_at leaves i = units_by (slice_get leaves i)

-- ---- lists

-- the members of a list part, in order
abbrev pub members : ParseTree → List ParseTree
members (parse_tree.Pair pair.And xs x) = members xs ++ x ∷ []
members other = []

-- ---- what is declared, by the number of the name's token

abbrev pub declared_as : Manner → ℕ → Declared
declared_as how i = record { name = i; manner = how }

abbrev pub lexical_manner : (constant : Bool) → Manner
lexical_manner constant = if constant then manner.Const else manner.Let

-- the name of a Bind, an Init or a parameter
abbrev pub bound_by : ParseTree → List ℕ
bound_by (parse_tree.Atom (atom.Binding i)) = i ∷ []
bound_by (parse_tree.Wrap (wrap.Binding i) e) = i ∷ []
bound_by other = []

-- LexicallyDeclaredNames and the declared functions of one item (8.2.4, 8.2.10)
abbrev pub declared_by : ParseTree → List Declared
declared_by (parse_tree.Wrap (wrap.Lexical constant first) binds) = map (declared_as (lexical_manner constant)) (flat_map bound_by (members binds))
declared_by (parse_tree.Pair (pair.DeclaredFunction first name) parameters body) = declared_as manner.Function name ∷ []
declared_by other = []

-- the same of a list of items, in the order of the source
abbrev pub declared_in : ParseTree → List Declared
declared_in items = flat_map declared_by (members items)

-- the names of a parameter list
abbrev pub parameters_in : ParseTree → List Declared
parameters_in parameters = map (declared_as manner.Parameter) (flat_map bound_by (members parameters))

-- the names of a block
abbrev pub declared_in_block : ParseTree → List Declared
declared_in_block (parse_tree.Wrap (wrap.Block first) items) = declared_in items
declared_in_block other = []
