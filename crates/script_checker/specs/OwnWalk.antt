-- A function's own code part by part: what a part says itself, and which of its parts are own code too.
use Rattle.std.specs.Prelude.{◌≡◌, ◌<◌, ℕ, suc, ◌+◌, Bool, true, false, ◌||◌, List, [], ◌∷◌, ◌++◌, bytes_eq, flat_map, Option, Some, None}
use Rattle.std.specs.List.{list_any}
use Rattle.script_grammar.specs.declared.leaf.Leaf.{Leaf}
use Rattle.script_grammar.specs.declared.labels.Atom.TheVariants as atom
use Rattle.script_grammar.specs.declared.labels.Pair.{Pair}
use Rattle.script_grammar.specs.declared.labels.Pair.TheVariants as pair
use Rattle.script_grammar.specs.declared.labels.Triple.{Triple}
use Rattle.script_grammar.specs.declared.labels.Triple.TheVariants as triple
use Rattle.script_grammar.specs.declared.node.ParseNode.{ParseNode}
use Rattle.script_grammar.specs.Tree.{ParseTree}
use Rattle.script_grammar.specs.Tree.{ParseTree as parse_tree}
use Rattle.script_rules.specs.Arena.{ArePart, IsPart, tree_at, trees_at}
use Rattle.script_rules.specs.Names.{units_at}
use Rattle.script_rules.specs.Scopes.{arguments_name}
use Rattle.script_checker.specs.Own.{assigned_name, is_this, names_arguments, names_of_this, with_each}

abbrev pub uses_here : List Leaf → ParseTree → Bool
uses_here leaves (parse_tree.Atom (atom.Name i)) = bytes_eq (units_at leaves i) arguments_name
uses_here leaves (parse_tree.Atom (atom.Shorthand i)) = bytes_eq (units_at leaves i) arguments_name
uses_here leaves other = false

abbrev pub assigned_here : List Leaf → ParseTree → List (List ℕ)
assigned_here leaves (parse_tree.Pair (pair.Assign op) target e) = assigned_name leaves op target
assigned_here leaves other = []

abbrev pub own_in_pair : {T : Type 0} → Pair → T → T → List T
own_in_pair (pair.Function i) x y = []
own_in_pair (pair.NamedFunction i name) x y = []
own_in_pair (pair.DeclaredFunction i name) x y = []
own_in_pair (pair.Getter i) x y = x ∷ []
own_in_pair (pair.Setter i parameter) x y = x ∷ []
own_in_pair other x y = x ∷ y ∷ []

abbrev pub own_in_triple : {T : Type 0} → Triple → T → T → T → List T
own_in_triple triple.Method x y z = x ∷ []
own_in_triple other x y z = x ∷ y ∷ z ∷ []

abbrev pub own_parts : ParseTree → List ParseTree
own_parts (parse_tree.Atom f) = []
own_parts (parse_tree.Wrap f x) = x ∷ []
own_parts (parse_tree.Pair f x y) = own_in_pair f x y
own_parts (parse_tree.Triple f x y z) = own_in_triple f x y z
own_parts (parse_tree.Quad f x y z w) = x ∷ y ∷ z ∷ w ∷ []

abbrev pub is_this_word : ParseTree → Bool
is_this_word (parse_tree.Atom (atom.This i)) = true
is_this_word other = false

-- what stands in parentheses, where they stand around a part
abbrev pub InParentheses : List ParseNode → ℕ → Option ℕ → Type 0
InParentheses ns n None = is_this (tree_at ns n) ≡ is_this_word (tree_at ns n)
InParentheses ns n (Some i) = (is_this (tree_at ns n) ≡ is_this (tree_at ns i)) × (i < n) × IsPart ns i

-- the units of a token, where there is one
abbrev pub units_listed : List Leaf → Option ℕ → List (List ℕ)
units_listed leaves None = []
units_listed leaves (Some i) = units_at leaves i ∷ []

-- how many labels there are
abbrev pub size : ParseTree → ℕ
size (parse_tree.Atom f) = 1
size (parse_tree.Wrap f x) = suc (size x)
size (parse_tree.Pair f x y) = suc (size x + size y)
size (parse_tree.Triple f x y z) = suc (size x + size y + size z)
size (parse_tree.Quad f x y z w) = suc (size x + size y + size z + size w)

abbrev pub sizes : List ParseTree → ℕ
sizes [] = 0
sizes (x ∷ xs) = size x + sizes xs

-- the names so far, and those of the parts that are left, are those of the body
pub record GoesOver (leaves : List Leaf) (ns : List ParseNode) (body : ℕ) (rest : List ℕ) (found : List (List ℕ)) (uses : Bool) : Type 0 where
  pub parts : ArePart ns rest
  pub names : with_each found (flat_map (names_of_this leaves) (trees_at ns rest)) ≡ with_each [] (names_of_this leaves (tree_at ns body))
  pub arguments : (uses || list_any (names_arguments leaves) (trees_at ns rest)) ≡ names_arguments leaves (tree_at ns body)

-- the parts of a part that are own code stand on top of what was there
pub record AddsOwn (ns : List ParseNode) (n : ℕ) (old new : List ℕ) : Type 0 where
  pub trees : trees_at ns new ≡ own_parts (tree_at ns n) ++ trees_at ns old
  pub parts : ArePart ns old → ArePart ns new
