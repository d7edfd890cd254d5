-- The script that the code has, and the tree that it stands for.
use Rattle.std.specs.Prelude.{◌≡◌, ◌<◌, ℕ, List, Some, slice_get}
use Rattle.es_source.specs.declared.token.Token.{Token}
use Rattle.es_source.specs.declared.token.TokenKind.{TokenKind}
use Rattle.es_source.specs.declared.token.TokenKind.TheVariants as token
use Rattle.script_grammar.specs.declared.node.ParseNode.{ParseNode}
use Rattle.script_grammar.specs.declared.node.ParseNode.TheVariants as node
use Rattle.script_grammar.specs.declared.leaf.Leaf.{Leaf}
use Rattle.script_grammar.specs.declared.leaf.LeafKind.{LeafKind}
use Rattle.script_grammar.specs.declared.leaf.LeafKind.TheVariants as leaf
use Rattle.script_grammar.specs.Tree.{ParseTree}
use Rattle.script_grammar.specs.Tree.{ParseTree as parse_tree}

pub record Parts : Type 0 where
  pub nodes : List ParseNode
  pub leaves : List Leaf
  pub root : ℕ

abbrev pub parts_of : List ParseNode → List Leaf → ℕ → Parts
parts_of all_nodes all_leaves the_root = record { nodes = all_nodes; leaves = all_leaves; root = the_root }

abbrev pub leaf_kind : TokenKind → LeafKind
leaf_kind (token.Name units) = leaf.Name units
leaf_kind (token.Number value) = leaf.Number value
leaf_kind (token.Text units strict) = leaf.Text units strict
leaf_kind (token.Punctuator units) = leaf.Punctuator

abbrev pub leaf_of : Token → Leaf
leaf_of t = record { kind = leaf_kind t.kind; place = t.place }

-- The node with that number stands for the tree: it has the tree's label, and its parts, whose numbers are below its own, stand for the tree's.
abbrev pub HasTree : List ParseNode → ℕ → ParseTree → Type 0
HasTree ns n (parse_tree.Atom f) = slice_get ns n ≡ Some (node.Atom f)
HasTree ns n (parse_tree.Wrap f x) = (i : ℕ) × (slice_get ns n ≡ Some (node.Wrap f i)) × (i < n) × HasTree ns i x
HasTree ns n (parse_tree.Pair f x y) = (i j : ℕ) × (slice_get ns n ≡ Some (node.Pair f i j)) × (i < n) × (j < n) × HasTree ns i x × HasTree ns j y
HasTree ns n (parse_tree.Triple f x y z) =
    (i j k : ℕ) × (slice_get ns n ≡ Some (node.Triple f i j k)) × (i < n) × (j < n) × (k < n) × HasTree ns i x × HasTree ns j y × HasTree ns k z
HasTree ns n (parse_tree.Quad f x y z w) =
    (i j k l : ℕ) × (slice_get ns n ≡ Some (node.Quad f i j k l))
    × (i < n) × (j < n) × (k < n) × (l < n) × HasTree ns i x × HasTree ns j y × HasTree ns k z × HasTree ns l w
