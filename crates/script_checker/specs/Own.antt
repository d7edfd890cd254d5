-- What is said of a function's own code: all of its body outside of the functions in it. A computed key of a method is own code of the function around.
use Rattle.std.specs.Prelude.{ℕ, Bool, true, false, ◌||◌, List, [], ◌∷◌, ◌++◌, length, bytes_eq, Option, Some, None, slice_get, if◌then◌else◌}
use Rattle.property_keys.specs.Texts.{interned}
use Rattle.es_tree.specs.declared.expressions.AssignOperator.{AssignOperator}
use Rattle.es_tree.specs.declared.expressions.AssignOperator.TheVariants as assign_operator
use Rattle.script_grammar.specs.declared.leaf.Leaf.{Leaf}
use Rattle.script_grammar.specs.declared.leaf.LeafKind.{LeafKind}
use Rattle.script_grammar.specs.declared.leaf.LeafKind.TheVariants as leaf
use Rattle.script_grammar.specs.declared.labels.Atom.TheVariants as atom
use Rattle.script_grammar.specs.declared.labels.Wrap.TheVariants as wrap
use Rattle.script_grammar.specs.declared.labels.Pair.TheVariants as pair
use Rattle.script_grammar.specs.declared.labels.Triple.TheVariants as triple
use Rattle.script_grammar.specs.Tree.{ParseTree}
use Rattle.script_grammar.specs.Tree.{ParseTree as parse_tree}
use Rattle.script_rules.specs.Names.{units_at, members}
use Rattle.script_rules.specs.Scopes.{arguments_name}

-- ---- `arguments` is used as a name

abbrev pub names_arguments : List Leaf → ParseTree → Bool
names_arguments leaves (parse_tree.Atom (atom.Name i)) = bytes_eq (units_at leaves i) arguments_name
names_arguments leaves (parse_tree.Atom (atom.Shorthand i)) = bytes_eq (units_at leaves i) arguments_name
names_arguments leaves (parse_tree.Atom other) = false
names_arguments leaves (parse_tree.Wrap f x) = names_arguments leaves x
names_arguments leaves (parse_tree.Pair (pair.Function i) parameters body) = false
names_arguments leaves (parse_tree.Pair (pair.NamedFunction i name) parameters body) = false
names_arguments leaves (parse_tree.Pair (pair.DeclaredFunction i name) parameters body) = false
names_arguments leaves (parse_tree.Pair (pair.Getter i) key body) = names_arguments leaves key
names_arguments leaves (parse_tree.Pair (pair.Setter i parameter) key body) = names_arguments leaves key
names_arguments leaves (parse_tree.Pair other x y) = names_arguments leaves x || names_arguments leaves y
names_arguments leaves (parse_tree.Triple triple.Method key parameters body) = names_arguments leaves key
names_arguments leaves (parse_tree.Triple other x y z) = names_arguments leaves x || names_arguments leaves y || names_arguments leaves z
names_arguments leaves (parse_tree.Quad f x y z w) =
    names_arguments leaves x || names_arguments leaves y || names_arguments leaves z || names_arguments leaves w

-- ---- the names N of assignments `this.N = e`. Parentheses around `this` make no difference

abbrev pub is_this : ParseTree → Bool
is_this (parse_tree.Atom (atom.This i)) = true
is_this (parse_tree.Wrap (wrap.Parenthesis i) x) = is_this x
is_this other = false

abbrev pub name_of_this : List Leaf → ParseTree → List (List ℕ)
name_of_this leaves (parse_tree.Wrap (wrap.Member dot word) base) = if is_this base then units_at leaves word ∷ [] else []
name_of_this leaves other = []

abbrev pub assigned_name : List Leaf → AssignOperator → ParseTree → List (List ℕ)
assigned_name leaves assign_operator.Plain target = name_of_this leaves target
assigned_name leaves other target = []

abbrev pub names_of_this : List Leaf → ParseTree → List (List ℕ)
names_of_this leaves (parse_tree.Atom f) = []
names_of_this leaves (parse_tree.Wrap f x) = names_of_this leaves x
names_of_this leaves (parse_tree.Pair (pair.Assign op) target e) = assigned_name leaves op target ++ names_of_this leaves target ++ names_of_this leaves e
names_of_this leaves (parse_tree.Pair (pair.Function i) parameters body) = []
names_of_this leaves (parse_tree.Pair (pair.NamedFunction i name) parameters body) = []
names_of_this leaves (parse_tree.Pair (pair.DeclaredFunction i name) parameters body) = []
names_of_this leaves (parse_tree.Pair (pair.Getter i) key body) = names_of_this leaves key
names_of_this leaves (parse_tree.Pair (pair.Setter i parameter) key body) = names_of_this leaves key
names_of_this leaves (parse_tree.Pair other x y) = names_of_this leaves x ++ names_of_this leaves y
names_of_this leaves (parse_tree.Triple triple.Method key parameters body) = names_of_this leaves key
names_of_this leaves (parse_tree.Triple other x y z) = names_of_this leaves x ++ names_of_this leaves y ++ names_of_this leaves z
names_of_this leaves (parse_tree.Quad f x y z w) = names_of_this leaves x ++ names_of_this leaves y ++ names_of_this leaves z ++ names_of_this leaves w

-- these names, and then those of others that are not among them yet
abbrev pub with_each : List (List ℕ) → List (List ℕ) → List (List ℕ)
with_each seen [] = seen
with_each seen (n ∷ names) = with_each (interned seen n) names

-- how many names there are, each counted once
abbrev pub this_names : List Leaf → ParseTree → ℕ
this_names leaves body = length (with_each [] (names_of_this leaves body))

-- ---- directives (11.2.1): the statements of one Text token each with which a body or a script begins

abbrev pub is_strict_kind : LeafKind → Bool
is_strict_kind (leaf.Text units strict) = strict
is_strict_kind other = false

abbrev pub is_strict_by : Option Leaf → Bool
is_strict_by None = false
is_strict_by (Some x) = is_strict_kind x.kind

-- the token of a statement of one Text token
abbrev pub directive : ParseTree → Option ℕ
directive (parse_tree.Wrap wrap.Evaluate (parse_tree.Atom (atom.Text i))) = Some i
directive other = None

abbrev pub strict_after : List Leaf → Option ℕ → (rest : Bool) → Bool
strict_after leaves None rest = false
strict_after leaves (Some i) rest = is_strict_by (slice_get leaves i) || rest

abbrev pub has_strict : List Leaf → List ParseTree → Bool
has_strict leaves [] = false
has_strict leaves (x ∷ xs) = strict_after leaves (directive x) (has_strict leaves xs)

abbrev pub is_strict : List Leaf → ParseTree → Bool
is_strict leaves items = has_strict leaves (members items)
