-- The longest object literal of a script.
use Rattle.std.specs.Prelude.{ℕ, List, [], ◌∷◌, length, max}
use Rattle.es_tree.specs.declared.primaries.Primary.TheVariants as primary
use Rattle.es_tree.specs.declared.node.Node.{Node}
use Rattle.es_tree.specs.declared.node.Node.TheVariants as node

-- how many property definitions a node has, where it is an object literal (13.2.5)
abbrev pub definitions_at : Node → ℕ
definitions_at (node.Primary (primary.Object literal properties)) = length properties
definitions_at other = 0

-- the most of them
abbrev pub most_definitions : List Node → ℕ
most_definitions [] = 0
most_definitions (n ∷ ns) = max (definitions_at n) (most_definitions ns)
