-- A node that stands for a tree, and its parts.
use Rattle.std.proofs.Common.{◌≡◌, ◌<◌, ◌∙◌, ap, sym, refl, subst, ℕ, suc, zero, List, length, Option, Some, slice_get, arith}
use Rattle.std.proofs.lemmas.Option.{slice_get_within}
use Rattle.script_grammar.specs.declared.node.ParseNode.{ParseNode}
use Rattle.script_grammar.specs.declared.node.ParseNode.TheVariants as node
use Rattle.script_grammar.specs.Scripts.{HasTree}
use Rattle.script_grammar.specs.Tree.{ParseTree}
use Rattle.script_grammar.specs.Tree.{ParseTree as parse_tree}
use Rattle.script_rules.specs.Arena.{tree_by, tree_within, tree_at, IsPart, HasParts}

within : (x : ParseTree) (ns : List ParseNode) (n d : ℕ) → n < d → HasTree ns n x → tree_within d ns n ≡ x
within x ns n zero lt s = absurd (omega arith)
within (parse_tree.Atom f) ns n (suc d) lt s = ap (tree_by (tree_within d ns)) s
within (parse_tree.Wrap f x) ns n (suc d) lt s = ap (tree_by (tree_within d ns)) s.1 ∙ ap (parse_tree.Wrap f) (within x ns s.0 d (omega arith) s.3)
within (parse_tree.Pair f x y) ns n (suc d) lt s =
    let a = within x ns s.0 d (omega arith) s.5 in
    let b = within y ns s.1 d (omega arith) s.6 in
    ap (tree_by (tree_within d ns)) s.2 ∙ rw (a, b) refl
within (parse_tree.Triple f x y z) ns n (suc d) lt s =
    let a = within x ns s.0 d (omega arith) s.7 in
    let b = within y ns s.1 d (omega arith) s.8 in
    let c = within z ns s.2 d (omega arith) s.9 in
    ap (tree_by (tree_within d ns)) s.3 ∙ rw (a, b, c) refl
within (parse_tree.Quad f x y z w) ns n (suc d) lt s =
    let a = within x ns s.0 d (omega arith) s.9 in
    let b = within y ns s.1 d (omega arith) s.10 in
    let c = within z ns s.2 d (omega arith) s.11 in
    let e = within w ns s.3 d (omega arith) s.12 in
    ap (tree_by (tree_within d ns)) s.4 ∙ rw (a, b, c, e) refl

-- a node stands for one tree alone
pub tree_is : (ns : List ParseNode) (n : ℕ) (x : ParseTree) → HasTree ns n x → tree_at ns n ≡ x
unfolding tree_at
tree_is ns n x s = within x ns n (suc n) (omega arith) s

pub is_part : (ns : List ParseNode) (n : ℕ) (x : ParseTree) → HasTree ns n x → IsPart ns n
unfolding IsPart
is_part ns n x s = subst (λ (y : ParseTree). HasTree ns n y) (sym (tree_is ns n x s)) s

known : (x : ParseTree) (ns : List ParseNode) (n : ℕ) → HasTree ns n x → n < length ns
known (parse_tree.Atom f) ns n s = slice_get_within ns n _ s
known (parse_tree.Wrap f x) ns n s = slice_get_within ns n _ s.1
known (parse_tree.Pair f x y) ns n s = slice_get_within ns n _ s.2
known (parse_tree.Triple f x y z) ns n s = slice_get_within ns n _ s.3
known (parse_tree.Quad f x y z w) ns n s = slice_get_within ns n _ s.4

pub part_known : (ns : List ParseNode) (n : ℕ) → IsPart ns n → n < length ns
unfolding IsPart
part_known ns n p = known (tree_at ns n) ns n p

same_node : (o : Option ParseNode) (d e : ParseNode) → o ≡ Some d → o ≡ Some e → e ≡ d
same_node o d e p q = cc

parts_of : (x : ParseTree) (ns : List ParseNode) (n : ℕ) (d : ParseNode) → tree_at ns n ≡ x → HasTree ns n x → slice_get ns n ≡ Some d → HasParts ns n d
parts_of (parse_tree.Atom f) ns n d e s g = subst (HasParts ns n) (same_node _ _ _ g s) e
parts_of (parse_tree.Wrap f x) ns n d e s g =
    let h : HasParts ns n (node.Wrap f s.0) = record {
      is = e ∙ rw (tree_is ns s.0 x s.3) refl;
      below = s.2;
      part = is_part ns s.0 x s.3;
    } in subst (HasParts ns n) (same_node _ _ _ g s.1) h
parts_of (parse_tree.Pair f x y) ns n d e s g =
    let h : HasParts ns n (node.Pair f s.0 s.1) = record {
      is = e ∙ rw (tree_is ns s.0 x s.5, tree_is ns s.1 y s.6) refl;
      below_first = s.3;
      below_second = s.4;
      first = is_part ns s.0 x s.5;
      second = is_part ns s.1 y s.6;
    } in subst (HasParts ns n) (same_node _ _ _ g s.2) h
parts_of (parse_tree.Triple f x y z) ns n d e s g =
    let h : HasParts ns n (node.Triple f s.0 s.1 s.2) = record {
      is = e ∙ rw (tree_is ns s.0 x s.7, tree_is ns s.1 y s.8, tree_is ns s.2 z s.9) refl;
      first = is_part ns s.0 x s.7;
      second = is_part ns s.1 y s.8;
      third = is_part ns s.2 z s.9;
    } in subst (HasParts ns n) (same_node _ _ _ g s.3) h
parts_of (parse_tree.Quad f x y z w) ns n d e s g =
    let h : HasParts ns n (node.Quad f s.0 s.1 s.2 s.3) = record {
      is = e ∙ rw (tree_is ns s.0 x s.9, tree_is ns s.1 y s.10, tree_is ns s.2 z s.11, tree_is ns s.3 w s.12) refl;
      first = is_part ns s.0 x s.9;
      second = is_part ns s.1 y s.10;
      third = is_part ns s.2 z s.11;
      fourth = is_part ns s.3 w s.12;
    } in subst (HasParts ns n) (same_node _ _ _ g s.4) h

pub has_parts : (ns : List ParseNode) (n : ℕ) (d : ParseNode) → IsPart ns n → slice_get ns n ≡ Some d → HasParts ns n d
unfolding IsPart
has_parts ns n d p g = parts_of (tree_at ns n) ns n d refl p g
