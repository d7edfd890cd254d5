-- The nodes stand for trees.
use Rattle.std.proofs.Common.{suc, zero, ◌≡◌, ◌<◌, ℕ, Some, List, [], ◌∷◌, ◌++◌, length, refl, ap, slice_get, arith}
use Rattle.script_grammar.specs.declared.node.ParseNode.{ParseNode}
use Rattle.script_grammar.specs.declared.node.ParseNode.TheVariants as node
use Rattle.script_grammar.specs.declared.act.Act.{Act}
use Rattle.script_grammar.specs.declared.act.Act.TheVariants as act_kinds
use Rattle.script_grammar.specs.Tree.{ParseTree, is_target, is_plain}
use Rattle.script_grammar.specs.Tree.{ParseTree as parse_tree}
use Rattle.script_grammar.specs.Trees.{act, top_target, top_plain}
use Rattle.script_grammar.specs.Scripts.{HasTree}
use Rattle.script_parser.specs.State.{State, act_on, is_target_node, is_plain_node, newest}
use Rattle.script_parser.specs.Progress.{AllStand, Stood}

get_more : {X : Type 0} → (xs ys : List X) (i : ℕ) (x : X) → slice_get xs i ≡ Some x → slice_get (xs ++ ys) i ≡ Some x
get_more [] ys i x e = absurd (cc (e))
get_more (z ∷ xs) ys zero x e = e
get_more (z ∷ xs) ys (suc i) x e = get_more xs ys i x e

get_end : {X : Type 0} → (xs : List X) (x : X) → slice_get (xs ++ (x ∷ [])) (length xs) ≡ Some x
get_end [] x = refl
get_end (z ∷ xs) x = get_end xs x

get_below : {X : Type 0} → (xs : List X) (i : ℕ) (x : X) → slice_get xs i ≡ Some x → i < length xs
get_below [] i x e = absurd (cc (e))
get_below (z ∷ xs) zero x e = omega arith
get_below (z ∷ xs) (suc i) x e = let below : i < length xs = get_below xs i x e in omega arith

-- what stands for a tree still does behind more nodes
stands_more : (ns more : List ParseNode) (n : ℕ) (x : ParseTree) → HasTree ns n x → HasTree (ns ++ more) n x
stands_more ns more n (parse_tree.Atom f) h = get_more ns more n (node.Atom f) h
stands_more ns more n (parse_tree.Wrap f x) h = (h.0, get_more ns more n (node.Wrap f h.0) h.1, h.2, stands_more ns more h.0 x h.3)
stands_more ns more n (parse_tree.Pair f x z) h =
    (h.0, h.1, get_more ns more n (node.Pair f h.0 h.1) h.2, h.3, h.4, stands_more ns more h.0 x h.5, stands_more ns more h.1 z h.6)
stands_more ns more n (parse_tree.Triple f x z w) h =
    (h.0, h.1, h.2, get_more ns more n (node.Triple f h.0 h.1 h.2) h.3, h.4, h.5, h.6, stands_more ns more h.0 x h.7, stands_more ns more h.1 z h.8, stands_more ns more h.2 w h.9)
stands_more ns more n (parse_tree.Quad f x z w v) h =
    (h.0, h.1, h.2, h.3, get_more ns more n (node.Quad f h.0 h.1 h.2 h.3) h.4, h.5, h.6, h.7, h.8, stands_more ns more h.0 x h.9, stands_more ns more h.1 z h.10, stands_more ns more h.2 w h.11, stands_more ns more h.3 v h.12)

-- a number that stands for a tree is that of a node
stands_below : (ns : List ParseNode) (n : ℕ) (x : ParseTree) → HasTree ns n x → n < length ns
stands_below ns n (parse_tree.Atom f) h = get_below ns n (node.Atom f) h
stands_below ns n (parse_tree.Wrap f x) h = get_below ns n (node.Wrap f h.0) h.1
stands_below ns n (parse_tree.Pair f x z) h = get_below ns n (node.Pair f h.0 h.1) h.2
stands_below ns n (parse_tree.Triple f x z w) h = get_below ns n (node.Triple f h.0 h.1 h.2) h.3
stands_below ns n (parse_tree.Quad f x z w v) h = get_below ns n (node.Quad f h.0 h.1 h.2 h.3) h.4

all_more : (ns more : List ParseNode) (is : List ℕ) (xs : List ParseTree) → AllStand ns is xs → AllStand (ns ++ more) is xs
all_more ns more [] [] h = tt
all_more ns more (i ∷ is) (x ∷ xs) h = (stands_more ns more i x h.0, all_more ns more is xs h.1)
all_more ns more [] (x ∷ xs) h = absurd h
all_more ns more (i ∷ is) [] h = absurd h

module _ (ns : List ParseNode) where
  -- a node more
  abbrev with : ParseNode → List ParseNode
  with n = ns ++ (n ∷ [])

  part : (n : ParseNode) (i : ℕ) (x : ParseTree) → HasTree ns i x → HasTree (with n) i x
  part n i x h = stands_more ns (n ∷ []) i x h

  below : (i : ℕ) (x : ParseTree) → HasTree ns i x → i < length ns
  below i x h = stands_below ns i x h

  atom_stands : (f : _) (is : List ℕ) (xs : List ParseTree) → AllStand ns is xs → Stood (act_on (act_kinds.Atom f) ns is) (act (act_kinds.Atom f) xs)
  atom_stands f is xs h = (get_end ns (node.Atom f), all_more ns (node.Atom f ∷ []) is xs h)

  wrap_stands : (f : _) (is : List ℕ) (xs : List ParseTree) → AllStand ns is xs → Stood (act_on (act_kinds.Wrap f) ns is) (act (act_kinds.Wrap f) xs)
  wrap_stands f (i ∷ is) (x ∷ xs) h = ((i, get_end ns (node.Wrap f i), below i x h.0, part (node.Wrap f i) i x h.0), all_more ns (node.Wrap f i ∷ []) is xs h.1)
  wrap_stands f [] [] h = tt
  wrap_stands f [] (x ∷ xs) h = absurd h
  wrap_stands f (i ∷ is) [] h = absurd h

  pair_stands : (f : _) (is : List ℕ) (xs : List ParseTree) → AllStand ns is xs → Stood (act_on (act_kinds.Pair f) ns is) (act (act_kinds.Pair f) xs)
  pair_stands f (j ∷ i ∷ is) (y ∷ x ∷ xs) h =
      let n = node.Pair f i j in
      ((i, j, get_end ns n, below i x h.1.0, below j y h.0, part n i x h.1.0, part n j y h.0), all_more ns (n ∷ []) is xs h.1.1)
  pair_stands f [] [] h = tt
  pair_stands f (j ∷ []) (y ∷ []) h = tt
  pair_stands f [] (x ∷ xs) h = absurd h
  pair_stands f (i ∷ is) [] h = absurd h
  pair_stands f (j ∷ []) (y ∷ x ∷ xs) h = absurd h.1
  pair_stands f (j ∷ i ∷ is) (y ∷ []) h = absurd h.1

  triple_stands : (f : _) (is : List ℕ) (xs : List ParseTree) → AllStand ns is xs → Stood (act_on (act_kinds.Triple f) ns is) (act (act_kinds.Triple f) xs)
  triple_stands f (k ∷ j ∷ i ∷ is) (z ∷ y ∷ x ∷ xs) h =
      let n = node.Triple f i j k in
      ((i, j, k, get_end ns n, below i x h.1.1.0, below j y h.1.0, below k z h.0, part n i x h.1.1.0, part n j y h.1.0, part n k z h.0), all_more ns (n ∷ []) is xs h.1.1.1)
  triple_stands f [] [] h = tt
  triple_stands f (k ∷ []) (z ∷ []) h = tt
  triple_stands f (k ∷ j ∷ []) (z ∷ y ∷ []) h = tt
  triple_stands f [] (x ∷ xs) h = absurd h
  triple_stands f (i ∷ is) [] h = absurd h
  triple_stands f (j ∷ []) (y ∷ x ∷ xs) h = absurd h.1
  triple_stands f (j ∷ i ∷ is) (y ∷ []) h = absurd h.1
  triple_stands f (k ∷ j ∷ []) (z ∷ y ∷ x ∷ xs) h = absurd h.1.1
  triple_stands f (k ∷ j ∷ i ∷ is) (z ∷ y ∷ []) h = absurd h.1.1

  quad_stands : (f : _) (is : List ℕ) (xs : List ParseTree) → AllStand ns is xs → Stood (act_on (act_kinds.Quad f) ns is) (act (act_kinds.Quad f) xs)
  quad_stands f (l ∷ k ∷ j ∷ i ∷ is) (w ∷ z ∷ y ∷ x ∷ xs) h =
      let n = node.Quad f i j k l in
      ((i, j, k, l, get_end ns n, below i x h.1.1.1.0, below j y h.1.1.0, below k z h.1.0, below l w h.0, part n i x h.1.1.1.0, part n j y h.1.1.0, part n k z h.1.0, part n l w h.0), all_more ns (n ∷ []) is xs h.1.1.1.1)
  quad_stands f [] [] h = tt
  quad_stands f (k ∷ []) (z ∷ []) h = tt
  quad_stands f (k ∷ j ∷ []) (z ∷ y ∷ []) h = tt
  quad_stands f (l ∷ k ∷ j ∷ []) (w ∷ z ∷ y ∷ []) h = tt
  quad_stands f [] (x ∷ xs) h = absurd h
  quad_stands f (i ∷ is) [] h = absurd h
  quad_stands f (j ∷ []) (y ∷ x ∷ xs) h = absurd h.1
  quad_stands f (j ∷ i ∷ is) (y ∷ []) h = absurd h.1
  quad_stands f (k ∷ j ∷ []) (z ∷ y ∷ x ∷ xs) h = absurd h.1.1
  quad_stands f (k ∷ j ∷ i ∷ is) (z ∷ y ∷ []) h = absurd h.1.1
  quad_stands f (l ∷ k ∷ j ∷ []) (w ∷ z ∷ y ∷ x ∷ xs) h = absurd h.1.1.1
  quad_stands f (l ∷ k ∷ j ∷ i ∷ is) (w ∷ z ∷ y ∷ []) h = absurd h.1.1.1

pub acts_stand : (f : Act) (s : State) (vs : List ParseTree) → Stood s vs → Stood (act_on f s.0 s.1) (act f vs)
acts_stand (act_kinds.Atom f) s vs h = atom_stands s.0 f s.1 vs h
acts_stand (act_kinds.Wrap f) s vs h = wrap_stands s.0 f s.1 vs h
acts_stand (act_kinds.Pair f) s vs h = pair_stands s.0 f s.1 vs h
acts_stand (act_kinds.Triple f) s vs h = triple_stands s.0 f s.1 vs h
acts_stand (act_kinds.Quad f) s vs h = quad_stands s.0 f s.1 vs h

-- a node is a target, or may stand beside `??`, where its tree may
node_target : (ns : List ParseNode) (n : ℕ) (x : ParseTree) → HasTree ns n x → is_target_node (slice_get ns n) ≡ is_target x
node_target ns n (parse_tree.Atom f) h = ap is_target_node h
node_target ns n (parse_tree.Wrap f x) h = ap is_target_node h.1
node_target ns n (parse_tree.Pair f x z) h = ap is_target_node h.2
node_target ns n (parse_tree.Triple f x z w) h = ap is_target_node h.3
node_target ns n (parse_tree.Quad f x z w v) h = ap is_target_node h.4

node_plain : (ns : List ParseNode) (n : ℕ) (x : ParseTree) → HasTree ns n x → is_plain_node (slice_get ns n) ≡ is_plain x
node_plain ns n (parse_tree.Atom f) h = ap is_plain_node h
node_plain ns n (parse_tree.Wrap f x) h = ap is_plain_node h.1
node_plain ns n (parse_tree.Pair f x z) h = ap is_plain_node h.2
node_plain ns n (parse_tree.Triple f x z w) h = ap is_plain_node h.3
node_plain ns n (parse_tree.Quad f x z w v) h = ap is_plain_node h.4

pub targets_stand : (s : State) (vs : List ParseTree) → Stood s vs → is_target_node (newest s.0 s.1) ≡ top_target vs
targets_stand s vs h = go s.0 s.1 vs h
  where
    go : (ns : List ParseNode) (is : List ℕ) (vs : List ParseTree) → AllStand ns is vs → is_target_node (newest ns is) ≡ top_target vs
    go ns [] [] h = refl
    go ns (i ∷ is) (x ∷ xs) h = node_target ns i x h.0
    go ns [] (x ∷ xs) h = absurd h
    go ns (i ∷ is) [] h = absurd h

pub plains_stand : (s : State) (vs : List ParseTree) → Stood s vs → is_plain_node (newest s.0 s.1) ≡ top_plain vs
plains_stand s vs h = go s.0 s.1 vs h
  where
    go : (ns : List ParseNode) (is : List ℕ) (vs : List ParseTree) → AllStand ns is vs → is_plain_node (newest ns is) ≡ top_plain vs
    go ns [] [] h = refl
    go ns (i ∷ is) (x ∷ xs) h = node_plain ns i x h.0
    go ns [] (x ∷ xs) h = absurd h
    go ns (i ∷ is) [] h = absurd h
