-- The tree that a node of a script stands for.
use Rattle.std.specs.Prelude.{◌≡◌, ◌<◌, ℕ, zero, suc, List, [], ◌∷◌, Option, Some, None, slice_get}
use Rattle.script_grammar.specs.declared.labels.Atom.TheVariants as atom
use Rattle.script_grammar.specs.declared.labels.Wrap.{Wrap}
use Rattle.script_grammar.specs.declared.labels.Pair.{Pair}
use Rattle.script_grammar.specs.declared.labels.Triple.{Triple}
use Rattle.script_grammar.specs.declared.labels.Quad.{Quad}
use Rattle.script_grammar.specs.declared.node.ParseNode.{ParseNode}
use Rattle.script_grammar.specs.declared.node.ParseNode.TheVariants as node
use Rattle.script_grammar.specs.Scripts.{HasTree}
use Rattle.script_grammar.specs.Tree.{ParseTree}
use Rattle.script_grammar.specs.Tree.{ParseTree as parse_tree}

-- the tree of a node whose parts stand for these trees
abbrev pub tree_by : (ℕ → ParseTree) → Option ParseNode → ParseTree
tree_by below None = parse_tree.Atom atom.Nothing
tree_by below (Some (node.Atom f)) = parse_tree.Atom f
tree_by below (Some (node.Wrap f i)) = parse_tree.Wrap f (below i)
tree_by below (Some (node.Pair f i j)) = parse_tree.Pair f (below i) (below j)
tree_by below (Some (node.Triple f i j k)) = parse_tree.Triple f (below i) (below j) (below k)
tree_by below (Some (node.Quad f i j k l)) = parse_tree.Quad f (below i) (below j) (below k) (below l)

abbrev pub tree_within : (depth : ℕ) → List ParseNode → ℕ → ParseTree
tree_within zero ns n = parse_tree.Atom atom.Nothing
tree_within (suc depth) ns n = tree_by (tree_within depth ns) (slice_get ns n)

-- the tree of the node with that number. The numbers of parts are below that of their node
unfoldable pub tree_at : List ParseNode → ℕ → ParseTree
tree_at ns n = tree_within (suc n) ns n

-- the node with that number stands for a tree, which is that one
unfoldable pub IsPart : List ParseNode → ℕ → Type 0
IsPart ns n = HasTree ns n (tree_at ns n)

abbrev pub trees_at : List ParseNode → List ℕ → List ParseTree
trees_at ns [] = []
trees_at ns (n ∷ numbers) = tree_at ns n ∷ trees_at ns numbers

abbrev pub ArePart : List ParseNode → List ℕ → Type 0
ArePart ns [] = Unit {0}
ArePart ns (n ∷ numbers) = IsPart ns n × ArePart ns numbers

-- ---- a node with its parts

pub record IsWrap (ns : List ParseNode) (n : ℕ) (f : Wrap) (i : ℕ) : Type 0 where
  pub is : tree_at ns n ≡ parse_tree.Wrap f (tree_at ns i)
  pub below : i < n
  pub part : IsPart ns i

pub record IsPair (ns : List ParseNode) (n : ℕ) (f : Pair) (i j : ℕ) : Type 0 where
  pub is : tree_at ns n ≡ parse_tree.Pair f (tree_at ns i) (tree_at ns j)
  pub below_first : i < n
  pub below_second : j < n
  pub first : IsPart ns i
  pub second : IsPart ns j

pub record IsTriple (ns : List ParseNode) (n : ℕ) (f : Triple) (i j k : ℕ) : Type 0 where
  pub is : tree_at ns n ≡ parse_tree.Triple f (tree_at ns i) (tree_at ns j) (tree_at ns k)
  pub first : IsPart ns i
  pub second : IsPart ns j
  pub third : IsPart ns k

pub record IsQuad (ns : List ParseNode) (n : ℕ) (f : Quad) (i j k l : ℕ) : Type 0 where
  pub is : tree_at ns n ≡ parse_tree.Quad f (tree_at ns i) (tree_at ns j) (tree_at ns k) (tree_at ns l)
  pub first : IsPart ns i
  pub second : IsPart ns j
  pub third : IsPart ns k
  pub fourth : IsPart ns l

abbrev pub HasParts : List ParseNode → ℕ → ParseNode → Type 0
HasParts ns n (node.Atom f) = tree_at ns n ≡ parse_tree.Atom f
HasParts ns n (node.Wrap f i) = IsWrap ns n f i
HasParts ns n (node.Pair f i j) = IsPair ns n f i j
HasParts ns n (node.Triple f i j k) = IsTriple ns n f i j k
HasParts ns n (node.Quad f i j k l) = IsQuad ns n f i j k l
