-- Properties in a tree of entries.
use Rattle.std.proofs.Common.{◌≡◌, ◌<◌, ◌≤◌, ◌+◌, ◌-◌, ◌∷◌, ℕ, true, false, cond, eqb, List, [], length, Option, Some, None, is_some, refl, sym, ap, ◌∙◌, arith, nat_cmp, is_lt}
use Rattle.std.specs.Ordering.{eq_by_cmp}
use Rattle.std.specs.BTreeMap as tree
use Rattle.std.specs.BTreeMap.{BTreeMap}
use Rattle.std.specs.Map.{keys_of, lookup}
use Rattle.std.specs.FinMap as map_of
use Rattle.std.specs.FinMap.{find}
use Rattle.std.proofs.lemmas.Bool.Decides.{nat_tests}
use Rattle.descriptors.specs.declared.property.Complete.{Complete}
use Rattle.elements_kinds.specs.Maps.{properties_in}
use Rattle.elements_kinds.specs.Properties.{properties_of}
use Rattle.elements_kinds.specs.Rules.{greatest_of}
use Rattle.elements_kinds.proofs.FiniteMaps.{get-from, get-insert, get-remove, same_properties, entries-from, sorted_from_ordered, end_is, greatest_is, greatest_none}

found : (q : ℕ) (es : List (ℕ × Complete)) → find nat_cmp q es ≡ lookup (tree.is_at (nat_cmp q)) es
found q [] = refl
found q (e ∷ es) = ap (cond (eq_by_cmp nat_cmp q e.0) (Some e.1)) (found q es)

pub get-in : (m : BTreeMap ℕ Complete) (q : ℕ) → map_of.get (properties_in m) q ≡ tree.get nat_cmp m q
unfolding properties_in
get-in m q = get-from m.entries q ∙ found q m.entries

eq_swapped : (i q : ℕ) → tree.is_at (nat_cmp i) q ≡ eqb q i
eq_swapped i q = grind (arith, nat_tests)

-- one property more
pub in-insert : (m n : BTreeMap ℕ Complete) (i : ℕ) (p : Complete) → ((q : ℕ) → tree.get nat_cmp n q ≡ cond (tree.is_at (nat_cmp i) q) (Some p) (tree.get nat_cmp m q))
    → properties_in n ≡ map_of.insert (properties_in m) i p
in-insert m n i p h = same_properties (properties_in n) (map_of.insert (properties_in m) i p) (λ q.
    get-in n q ∙ h q ∙ ap (λ b. cond b (Some p) (tree.get nat_cmp m q)) (eq_swapped i q) ∙ ap (cond (eqb q i) (Some p)) (sym (get-in m q)) ∙ sym (get-insert (properties_in m) i p q))

pub in-remove : (m n : BTreeMap ℕ Complete) (i : ℕ) → ((q : ℕ) → tree.get nat_cmp n q ≡ cond (tree.is_at (nat_cmp i) q) None (tree.get nat_cmp m q)) → properties_in n ≡ map_of.remove (properties_in m) i
in-remove m n i h = same_properties (properties_in n) (map_of.remove (properties_in m) i) (λ q.
    get-in n q ∙ h q ∙ ap (λ b. cond b None (tree.get nat_cmp m q)) (eq_swapped i q) ∙ ap (cond (eqb q i) None) (sym (get-in m q)) ∙ sym (get-remove (properties_in m) i q))

pub in-same : (m n : BTreeMap ℕ Complete) → n.entries ≡ m.entries → properties_in n ≡ properties_in m
unfolding properties_in
in-same m n e = ap map_of.from_entries e

pub in-none : (m : BTreeMap ℕ Complete) → m.entries ≡ [] → properties_in m ≡ properties_of []
unfolding properties_in properties_of
in-none m e = ap map_of.from_entries e

pub keys-in : (m : BTreeMap ℕ Complete) → tree.IsOrdered nat_cmp m → map_of.keys (properties_in m) ≡ tree.keys m
unfolding properties_in
keys-in m h = ap keys_of (entries-from m.entries (sorted_from_ordered m.entries h))

-- a key that is there and that none is above
pub greatest-in : (m : BTreeMap ℕ Complete) (i : ℕ) (p : Complete) → tree.get nat_cmp m i ≡ Some p → tree.IsUpperBound nat_cmp m i → greatest_of (properties_in m) ≡ Some i
greatest-in m i p here above =
    greatest_is (properties_in m) i (end_is (properties_in m) (i + 1) (λ q ge. past q ge (map_of.get (properties_in m) q) refl) (λ lt. last))
  where
    past : (q : ℕ) → i + 1 ≤ q → (o : Option Complete) → map_of.get (properties_in m) q ≡ o → map_of.get (properties_in m) q ≡ None
    past q ge None e = e
    past q ge (Some x) e =
        let there : is_some (tree.get nat_cmp m q) ≡ true = ap is_some (sym (get-in m q) ∙ e) in
        let below : is_lt (nat_cmp i q) ≡ false = above q there in
        absurd (grind (arith, nat_tests, below, ge))

    at_last : (n : ℕ) → n ≡ i → is_some (map_of.get (properties_in m) n) ≡ true
    at_last n e = ap (λ k. is_some (map_of.get (properties_in m) k)) e ∙ ap is_some (get-in m i ∙ here)

    last : is_some (map_of.get (properties_in m) ((i + 1) - 1)) ≡ true
    last = at_last ((i + 1) - 1) (omega arith)

pub none-in : (m : BTreeMap ℕ Complete) → (false ≡ true → 0 < tree.btree_map_len m) × (0 < tree.btree_map_len m → false ≡ true) → greatest_of (properties_in m) ≡ None
none-in m variant = greatest_none (properties_in m) (end_is (properties_in m) 0 (λ q ge. get-in m q ∙ gone q m.entries empty) (λ lt. absurd (omega arith)))
  where
    not_there : 0 < tree.btree_map_len m → ⊥
    not_there lt = let x : false ≡ true = variant.1 lt in cc

    no_entries : (es : List (ℕ × Complete)) → (0 < length es → ⊥) → es ≡ []
    no_entries [] h = refl
    no_entries (e ∷ es) h = absurd (h (omega arith))

    empty : m.entries ≡ []
    empty = no_entries m.entries not_there

    gone : (q : ℕ) (es : List (ℕ × Complete)) → es ≡ [] → lookup (tree.is_at (nat_cmp q)) es ≡ None
    gone q es e = ap (lookup (tree.is_at (nat_cmp q))) e
