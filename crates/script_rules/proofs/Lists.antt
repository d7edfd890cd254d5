-- Lists of parts.
use Rattle.std.proofs.Common.{◌≡◌, ◌<◌, ◌≤◌, ◌++◌, ◌∙◌, ap, sym, refl, subst, ℕ, ◌+◌, List, [], ◌∷◌, length, drop, map, flat_map, get_or, append_assoc, reverse}
use Rattle.std.proofs.lemmas.List.{reverse-append, at_drop_more, at_drop_all, append-nil}
use Rattle.std.proofs.lemmas.List.{map-append}
use Rattle.script_grammar.specs.declared.labels.Pair.TheVariants as pair
use Rattle.script_grammar.specs.declared.node.ParseNode.{ParseNode}
use Rattle.script_grammar.specs.Tree.{ParseTree}
use Rattle.script_rules.specs.declared.manner.Declared.{Declared}
use Rattle.script_rules.specs.declared.manner.Manner.{Manner}
use Rattle.script_rules.specs.Arena.{tree_at, trees_at, IsPart, ArePart, IsPair}
use Rattle.script_rules.specs.Names.{members, bound_by, declared_as}

-- ---- a list is gone through from its end

pub record GoesDown (ns : List ParseNode) (list rest : ℕ) (found : List ℕ) : Type 0 where
  pub part : IsPart ns rest
  pub parts : ArePart ns (reverse found)
  pub trees : members (tree_at ns list) ≡ members (tree_at ns rest) ++ trees_at ns (reverse found)

reversed_push : (xs : List ℕ) (x : ℕ) → reverse (xs ++ x ∷ []) ≡ x ∷ reverse xs
reversed_push xs x = reverse-append xs (x ∷ [])

pub goes_down : (ns : List ParseNode) (list rest front last : ℕ) (found : List ℕ) → GoesDown ns list rest found → IsPair ns rest pair.And front last → GoesDown ns list front (found ++ last ∷ [])
goes_down ns list rest front last found g p = record {
  part = p.first;
  parts = rw (reversed_push found last) (p.second, g.parts);
  trees = rw (reversed_push found last) (g.trees ∙ rw p.is (append_assoc (members (tree_at ns front)) (tree_at ns last ∷ []) (trees_at ns (reverse found))));
}

-- ---- the members of a list are gone through from its start

pub record GoesOn (A : Type 0) (ns : List ParseNode) (f : ParseTree → List A) (all numbers : List ℕ) (first found : List A) : Type 0 where
  pub parts : ArePart ns numbers
  pub trees : found ++ flat_map f (trees_at ns numbers) ≡ first ++ flat_map f (trees_at ns all)

pub goes_on : {A : Type 0} (ns : List ParseNode) (f : ParseTree → List A) (all : List ℕ) (i n : ℕ) (first found found' : List A)
    → GoesOn A ns f all (drop i all) first found → (i < length all) → n ≡ get_or all i n → found' ≡ found ++ f (tree_at ns n)
    → GoesOn A ns f all (drop (i + 1) all) first found'
goes_on {A} ns f all i n first found found' g lt e more =
    let h : GoesOn A ns f all (n ∷ drop (i + 1) all) first found =
    subst (λ (m : ℕ). GoesOn A ns f all (m ∷ drop (i + 1) all) first found) (sym e)
    (let P : List ℕ → Type 0 = λ ms. GoesOn A ns f all ms first found in subst P (at_drop_more (λ ms. ms) all i n lt) g) in
    record {
      parts = h.parts.1;
      trees = rw more (append_assoc found (f (tree_at ns n)) (flat_map f (trees_at ns (drop (i + 1) all))) ∙ h.trees);
    }

pub map_found : (m : Manner) (f : ParseTree → List ℕ) (xs : List ParseTree) → map (declared_as m) (flat_map f xs) ≡ flat_map (λ x. map (declared_as m) (f x)) xs
map_found m f [] = refl
map_found m f (x ∷ xs) = map-append (declared_as m) (f x) (flat_map f xs) ∙ ap (λ ys. map (declared_as m) (f x) ++ ys) (map_found m f xs)

pub gone_on : {A : Type 0} (ns : List ParseNode) (f : ParseTree → List A) (all : List ℕ) (i : ℕ) (first found : List A)
    → GoesOn A ns f all (drop i all) first found → length all ≤ i → found ≡ first ++ flat_map f (trees_at ns all)
gone_on {A} ns f all i first found g le =
    sym (append-nil found) ∙ sym (at_drop_all (λ ms. found ++ flat_map f (trees_at ns ms)) all i le) ∙ g.trees

pub names_found : (ns : List ParseNode) (m : Manner) (list i : ℕ) (all : List ℕ) (first found : List Declared)
    → GoesOn Declared ns (λ (x : ParseTree). map (declared_as m) (bound_by x)) all (drop i all) first found → length all ≤ i → trees_at ns all ≡ members (tree_at ns list)
    → found ≡ first ++ map (declared_as m) (flat_map bound_by (members (tree_at ns list)))
names_found ns m list i all first found g le e =
    gone_on ns (λ (x : ParseTree). map (declared_as m) (bound_by x)) all i first found g le
    ∙ ap (λ ys. first ++ ys) (sym (map_found m bound_by (trees_at ns all)) ∙ ap (λ (xs : List ParseTree). map (declared_as m) (flat_map bound_by xs)) e)
