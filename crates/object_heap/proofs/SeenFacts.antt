-- What a change of an object's list makes of what is seen of it.
use Rattle.std.proofs.Common.{◌≡◌, ℕ, Bool, true, false, Some, None, List, [], ◌∷◌, ◌++◌, cond, refl, ap, sym, ◌∙◌, arith, ◌==◌}
use Rattle.std.specs.Prelude.{not, filter, IsSome}
use Rattle.std.specs.Ordering.{nat_cmp, eq_by_cmp}
use Rattle.std.specs.FinMap as map_of
use Rattle.std.specs.FinMap.{FinMap, get-insert, get-remove, get-empty, same_map, nat_cmp-IsAntisymmetric}
use Rattle.std.proofs.lemmas.Cmp.{nat_cmp_total}
use Rattle.std.proofs.lemmas.Bool.Decides.{nat_tests}
use Rattle.std.proofs.lemmas.List.Elements.{filter-append}
use Rattle.std.proofs.lemmas.List.{append-nil}
use Rattle.property_keys.specs.declared.keys.PropKey.{PropKey}
use Rattle.property_keys.specs.declared.keys.PropKey.TheVariants.{Index, Name, Sym}
use Rattle.es_model.specs.Objects.{same_key}
use Rattle.descriptors.specs.declared.property.Complete.{Complete}
use Rattle.es_model.specs.declared.owned.OwnProperty.{OwnProperty}
use Rattle.es_model.specs.Objects.{Object, find_property, replace_property, remove_property, add_property, with_properties}
use Rattle.object_heap.specs.Seen.{seen, named, indexed, with_index, is_named, find_seen, seen_added, seen_replaced, seen_removed}
use Rattle.object_heap.proofs.PropertyLists.{find-add, find-replace, find-remove, same_key-eq}

pub eq_by_nat_cmp : (q k : ℕ) → eq_by_cmp nat_cmp q k ≡ (k == q)
eq_by_nat_cmp q k = grind (arith, nat_tests)

pub get-indexed : (ps : List OwnProperty) (i : ℕ) → map_of.get (indexed ps) i ≡ find_property ps (Index i)
get-indexed [] i = get-empty nat_cmp i
get-indexed (p ∷ ps) i =
    elim p.key as (λ k. map_of.get (with_index k p.complete (indexed ps)) i ≡ cond (same_key k (Index i)) (Some p.complete) (find_property ps (Index i))) [
      | Index j ↦ get-insert nat_cmp_total (indexed ps) j p.complete i ∙ ap (λ b. cond b (Some p.complete) (map_of.get (indexed ps) i)) (eq_by_nat_cmp i j) ∙ ap (cond (j == i) (Some p.complete)) (get-indexed ps i)
      | Name t ↦ get-indexed ps i
      | Sym t ↦ get-indexed ps i
    ]

-- maps that have the same at each index are one
pub same_indexed : (m n : FinMap nat_cmp Complete) → ((i : ℕ) → map_of.get m i ≡ map_of.get n i) → m ≡ n
same_indexed m n h = same_map nat_cmp_total nat_cmp-IsAntisymmetric m n h

pub find-named : (ps : List OwnProperty) (key : PropKey) → is_named key ≡ true → find_property (named ps) key ≡ find_property ps key
find-named [] key h = refl
find-named (p ∷ ps) key h =
    elim (is_named p.key) as (λ b. is_named p.key ≡ b → find_property (cond b (p ∷ named ps) (named ps)) key ≡ find_property (p ∷ ps) key) [
      | true ↦ λ e. ap (cond (same_key p.key key) (Some p.complete)) (find-named ps key h)
      | false ↦ λ e. grind (arith, find-named ps key h, same_key-eq p.key key)
    ] refl

-- what is found in the object is what is seen of it
pub find-seen : (o : Object) (key : PropKey) → find_seen (seen o) key ≡ find_property o.properties key
find-seen o (Index i) = get-indexed o.properties i
find-seen o (Name t) = find-named o.properties (Name t) refl
find-seen o (Sym t) = find-named o.properties (Sym t) refl

-- a filter that passes or fails an element by its key alone
named-replace_index : (ps : List OwnProperty) (i : ℕ) (c : Complete) → named (replace_property ps (Index i) c) ≡ named ps
named-replace_index [] i c = refl
named-replace_index (p ∷ ps) i c =
    elim (same_key p.key (Index i)) as (λ b. same_key p.key (Index i) ≡ b → named (cond b (record { key = p.key; complete = c } ∷ ps) (p ∷ replace_property ps (Index i) c)) ≡ named (p ∷ ps)) [
      | true ↦ λ e. let k = same_key-eq p.key (Index i) e in grind (arith, k)
      | false ↦ λ e. ap (λ qs. cond (is_named p.key) (p ∷ qs) qs) (named-replace_index ps i c)
    ] refl

named-replace : (ps : List OwnProperty) (key : PropKey) (c : Complete) → is_named key ≡ true → named (replace_property ps key c) ≡ replace_property (named ps) key c
named-replace [] key c h = refl
named-replace (p ∷ ps) key c h =
    elim (same_key p.key key) as (λ b. same_key p.key key ≡ b → named (cond b (record { key = p.key; complete = c } ∷ ps) (p ∷ replace_property ps key c)) ≡ replace_property (named (p ∷ ps)) key c) [
      | true ↦ λ e. let k = same_key-eq p.key key e in let n : is_named p.key ≡ true = ap is_named k ∙ h in grind (arith, n, e)
      | false ↦ λ e. elim (is_named p.key) as (λ b. cond b (p ∷ named (replace_property ps key c)) (named (replace_property ps key c)) ≡ replace_property (cond b (p ∷ named ps) (named ps)) key c) [
        | true ↦ ap (λ qs. p ∷ qs) (named-replace ps key c h) ∙ sym (ap (λ b. cond b (record { key = p.key; complete = c } ∷ named ps) (p ∷ replace_property (named ps) key c)) e)
        | false ↦ named-replace ps key c h
      ]
    ] refl

filter-filter : {X : Type 0} (p q : X → Bool) (xs : List X) → filter p (filter q xs) ≡ filter q (filter p xs)
filter-filter p q [] = refl
filter-filter p q (x ∷ xs) = grind (arith, filter-filter p q xs)

named-remove_index : (ps : List OwnProperty) (i : ℕ) → named (remove_property ps (Index i)) ≡ named ps
named-remove_index [] i = refl
named-remove_index (p ∷ ps) i =
    elim (same_key p.key (Index i)) as (λ b. same_key p.key (Index i) ≡ b → named (cond (not b) (p ∷ remove_property ps (Index i)) (remove_property ps (Index i))) ≡ named (p ∷ ps)) [
      | true ↦ λ e. let k : is_named p.key ≡ false = ap is_named (same_key-eq p.key (Index i) e) in named-remove_index ps i ∙ sym (ap (λ b. cond b (p ∷ named ps) (named ps)) k)
      | false ↦ λ e. ap (λ qs. cond (is_named p.key) (p ∷ qs) qs) (named-remove_index ps i)
    ] refl

by_parts : (o : Object) (ps : List OwnProperty) (n : List OwnProperty) (m : FinMap nat_cmp Complete) → named ps ≡ n → indexed ps ≡ m → seen (with_properties o ps) ≡ record { kind = o.kind; proto = o.proto; extensible = o.extensible; named = n; indexed = m }
by_parts o ps n m a b = λ i. record { kind = o.kind; proto = o.proto; extensible = o.extensible; named = a i; indexed = b i }

-- a change at an index
indexed-put : (ps qs : List OwnProperty) (i : ℕ) (c : Complete) → ((q : PropKey) → find_property qs q ≡ cond (same_key (Index i) q) (Some c) (find_property ps q)) → indexed qs ≡ map_of.insert (indexed ps) i c
indexed-put ps qs i c h = same_indexed (indexed qs) (map_of.insert (indexed ps) i c) (λ q. get-indexed qs q ∙ h (Index q) ∙ ap (cond (i == q) (Some c)) (sym (get-indexed ps q))
    ∙ ap (λ b. cond b (Some c) (map_of.get (indexed ps) q)) (sym (eq_by_nat_cmp q i)) ∙ sym (get-insert nat_cmp_total (indexed ps) i c q))

-- a change that no index sees
indexed-stays : (ps qs : List OwnProperty) → ((i : ℕ) → find_property qs (Index i) ≡ find_property ps (Index i)) → indexed qs ≡ indexed ps
indexed-stays ps qs h = same_indexed (indexed qs) (indexed ps) (λ q. get-indexed qs q ∙ h q ∙ sym (get-indexed ps q))

indexed-taken : (ps qs : List OwnProperty) (i : ℕ) → ((q : PropKey) → find_property qs q ≡ cond (same_key (Index i) q) None (find_property ps q)) → indexed qs ≡ map_of.remove (indexed ps) i
indexed-taken ps qs i h = same_indexed (indexed qs) (map_of.remove (indexed ps) i) (λ q. get-indexed qs q ∙ h (Index q) ∙ ap (cond (i == q) None) (sym (get-indexed ps q))
    ∙ ap (λ b. cond b None (map_of.get (indexed ps) q)) (sym (eq_by_nat_cmp q i)) ∙ sym (get-remove nat_cmp_total (indexed ps) i q))

named-add : (ps : List OwnProperty) (key : PropKey) (c : Complete) → named (add_property ps key c) ≡ named ps ++ named (record { key = key; complete = c } ∷ [])
named-add ps key c = filter-append (λ p. is_named p.key) ps (record { key = key; complete = c } ∷ [])

pub seen-added : (o : Object) (key : PropKey) (c : Complete) → find_property o.properties key ≡ None → seen (with_properties o (add_property o.properties key c)) ≡ seen_added (seen o) key c
seen-added o (Index i) c h =
    let ps = o.properties in by_parts o (add_property ps (Index i) c) (named ps) (map_of.insert (indexed ps) i c) (named-add ps (Index i) c ∙ append-nil (named ps)) (indexed-put ps (add_property ps (Index i) c) i c (λ q. find-add ps (Index i) c q h))
seen-added o (Name t) c h =
    let ps = o.properties in by_parts o (add_property ps (Name t) c) (add_property (named ps) (Name t) c) (indexed ps) (named-add ps (Name t) c) (indexed-stays ps (add_property ps (Name t) c) (λ q. find-add ps (Name t) c (Index q) h))
seen-added o (Sym t) c h =
    let ps = o.properties in by_parts o (add_property ps (Sym t) c) (add_property (named ps) (Sym t) c) (indexed ps) (named-add ps (Sym t) c) (indexed-stays ps (add_property ps (Sym t) c) (λ q. find-add ps (Sym t) c (Index q) h))

pub seen-replaced : (o : Object) (key : PropKey) (c : Complete) → IsSome (find_property o.properties key) → seen (with_properties o (replace_property o.properties key c)) ≡ seen_replaced (seen o) key c
seen-replaced o (Index i) c h =
    let ps = o.properties in by_parts o (replace_property ps (Index i) c) (named ps) (map_of.insert (indexed ps) i c) (named-replace_index ps i c) (indexed-put ps (replace_property ps (Index i) c) i c (λ q. find-replace ps (Index i) c q h))
seen-replaced o (Name t) c h =
    let ps = o.properties in by_parts o (replace_property ps (Name t) c) (replace_property (named ps) (Name t) c) (indexed ps) (named-replace ps (Name t) c refl) (indexed-stays ps (replace_property ps (Name t) c) (λ q. find-replace ps (Name t) c (Index q) h))
seen-replaced o (Sym t) c h =
    let ps = o.properties in by_parts o (replace_property ps (Sym t) c) (replace_property (named ps) (Sym t) c) (indexed ps) (named-replace ps (Sym t) c refl) (indexed-stays ps (replace_property ps (Sym t) c) (λ q. find-replace ps (Sym t) c (Index q) h))

pub seen-removed : (o : Object) (key : PropKey) → seen (with_properties o (remove_property o.properties key)) ≡ seen_removed (seen o) key
seen-removed o (Index i) =
    let ps = o.properties in by_parts o (remove_property ps (Index i)) (named ps) (map_of.remove (indexed ps) i) (named-remove_index ps i) (indexed-taken ps (remove_property ps (Index i)) i (λ q. find-remove ps (Index i) q))
seen-removed o (Name t) =
    let ps = o.properties in by_parts o (remove_property ps (Name t)) (remove_property (named ps) (Name t)) (indexed ps) (filter-filter (λ p. is_named p.key) (λ p. not (same_key p.key (Name t))) ps) (indexed-stays ps (remove_property ps (Name t)) (λ q. find-remove ps (Name t) (Index q)))
seen-removed o (Sym t) =
    let ps = o.properties in by_parts o (remove_property ps (Sym t)) (remove_property (named ps) (Sym t)) (indexed ps) (filter-filter (λ p. is_named p.key) (λ p. not (same_key p.key (Sym t))) ps) (indexed-stays ps (remove_property ps (Sym t)) (λ q. find-remove ps (Sym t) (Index q)))
