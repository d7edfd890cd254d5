-- Finite maps from indices: what tells them apart, their keys, and their end.
use Rattle.std.proofs.Common.{◌≡◌, ◌<◌, ◌≤◌, ◌+◌, ◌-◌, ◌&&◌, ◌∷◌, [], ℕ, Bool, true, false, cond, T, eqb, List, Some, None, is_some, map, sym, ap, ◌∙◌, subst, inl, inr, arith, nat_cmp, is_lt, Less, true≢false}
use Rattle.std.specs.Ordering.{eq_by_cmp}
use Rattle.std.specs.FinMap as map_of
use Rattle.std.specs.FinMap.{FinMap, find, is_sorted, get-from_entries, get-from_sorted, get-entries, entries-from_sorted, same_map, nat_cmp-IsAntisymmetric}
use Rattle.std.specs.FinMap.Entries.{below_all}
use Rattle.std.specs.List.{AllByRecursion}
use Rattle.std.specs.List.Sorted.{IsStrictlySortedBy}
use Rattle.std.specs.Map.{keys_of}
use Rattle.std.proofs.lemmas.Cmp.{nat_cmp_total}
use Rattle.std.proofs.lemmas.Bool.{cases_Bool, cases_lt}
use Rattle.std.proofs.lemmas.Bool.Decides.{nat_tests}
use Rattle.descriptors.specs.declared.property.Complete.{Complete}
use Rattle.elements_kinds.specs.Rules.{end_of, end_of_keys, greatest_of}

pub eq_by_nat : (q k : ℕ) → eq_by_cmp nat_cmp q k ≡ eqb q k
eq_by_nat q k = grind (arith, nat_tests)

pub to_T : (b : Bool) → b ≡ true → T b
to_T b e = subst T (sym e) tt

pub both : (a b : Bool) → T a → T b → T (a && b)
both true b p q = q
both false b p q = p

pub same_properties : (m n : FinMap nat_cmp Complete) → ((q : ℕ) → map_of.get m q ≡ map_of.get n q) → m ≡ n
same_properties m n h = same_map nat_cmp_total nat_cmp-IsAntisymmetric m n h

pub get-from : (es : List (ℕ × Complete)) (q : ℕ) → map_of.get (map_of.from_entries {R = nat_cmp} es) q ≡ find nat_cmp q es
get-from es q = get-from_entries nat_cmp_total es q

-- a map of entries whose keys rise has these entries
pub entries-from : (es : List (ℕ × Complete)) → T (is_sorted nat_cmp es) → map_of.entries (map_of.from_entries {R = nat_cmp} es) ≡ es
entries-from es h =
    ap map_of.entries (same_properties (map_of.from_entries es) (map_of.from_sorted es) (λ q. get-from es q ∙ sym (get-from_sorted nat_cmp es q h)))
    ∙ entries-from_sorted nat_cmp es h

pub get-insert : (m : FinMap nat_cmp Complete) (i : ℕ) (p : Complete) (q : ℕ) → map_of.get (map_of.insert m i p) q ≡ cond (eqb q i) (Some p) (map_of.get m q)
get-insert m i p q = map_of.get-insert nat_cmp_total m i p q ∙ ap (λ b. cond b (Some p) (map_of.get m q)) (eq_by_nat q i)

pub get-remove : (m : FinMap nat_cmp Complete) (i q : ℕ) → map_of.get (map_of.remove m i) q ≡ cond (eqb q i) None (map_of.get m q)
get-remove m i q = map_of.get-remove nat_cmp_total m i q ∙ ap (λ b. cond b None (map_of.get m q)) (eq_by_nat q i)

-- ---- keys in the order of a tree

below_rest : (x : ℕ) (es : List (ℕ × Complete)) → AllByRecursion (λ y. nat_cmp x y ≡ Less) (keys_of es) → T (below_all nat_cmp x es)
below_rest x [] h = tt
below_rest x (e ∷ es) h = both _ _ (to_T _ (ap is_lt h.0)) (below_rest x es h.1)

pub sorted_from_ordered : (es : List (ℕ × Complete)) → IsStrictlySortedBy nat_cmp (keys_of es) → T (is_sorted nat_cmp es)
unfolding IsStrictlySortedBy
sorted_from_ordered [] h = tt
sorted_from_ordered (e ∷ es) h = both _ _ (below_rest e.0 es h.0) (sorted_from_ordered es h.1)

-- ---- the end

-- a key that is found is below the end, and the one before the end is found
found_below_end : (es : List (ℕ × Complete)) (q : ℕ) → is_some (find nat_cmp q es) ≡ true → q < end_of_keys (map (λ (e : ℕ × Complete). e.0) es)
found_below_end [] q h = absurd (true≢false (sym h))
found_below_end (e ∷ es) q h =
    elim (cases_Bool (eqb q e.0)) [
      | inl y ↦ let k : q ≡ e.0 = grind (arith, nat_tests, y) in omega arith
      | inr n ↦
          let g : find nat_cmp q (e ∷ es) ≡ find nat_cmp q es = ap (λ b. cond b (Some e.1) (find nat_cmp q es)) (eq_by_nat q e.0 ∙ n) in
          omega (arith, found_below_end es q (sym (ap is_some g) ∙ h))
    ]

last_is_found : (es : List (ℕ × Complete)) (q : ℕ) → q + 1 ≡ end_of_keys (map (λ (e : ℕ × Complete). e.0) es) → is_some (find nat_cmp q es) ≡ true
last_is_found [] q h = absurd (omega arith)
last_is_found (e ∷ es) q h =
    elim (cases_Bool (eqb q e.0)) [
      | inl y ↦ ap is_some (ap (λ b. cond b (Some e.1) (find nat_cmp q es)) (eq_by_nat q e.0 ∙ y))
      | inr n ↦
          let ne : q ≡ e.0 → ⊥ = λ k. grind (arith, nat_tests, n, k) in
          let r : q + 1 ≡ end_of_keys (map (λ (e : ℕ × Complete). e.0) es) = omega arith in
          ap is_some (ap (λ b. cond b (Some e.1) (find nat_cmp q es)) (eq_by_nat q e.0 ∙ n)) ∙ last_is_found es q r
    ]

pub below_end : (m : FinMap nat_cmp Complete) (q : ℕ) → is_some (map_of.get m q) ≡ true → q < end_of m
unfolding end_of
below_end m q h = found_below_end (map_of.entries m) q (sym (ap is_some (get-entries m q)) ∙ h)

pub last_present : (m : FinMap nat_cmp Complete) (q : ℕ) → q + 1 ≡ end_of m → is_some (map_of.get m q) ≡ true
unfolding end_of
last_present m q h = ap is_some (get-entries m q) ∙ last_is_found (map_of.entries m) q h

none_past : (m : FinMap nat_cmp Complete) (q : ℕ) → map_of.get m q ≡ None → is_some (map_of.get m q) ≡ true → ⊥
none_past m q e h = true≢false (sym h ∙ ap is_some e)

-- nothing is present from here on, and the last index before is
pub end_is : (m : FinMap nat_cmp Complete) (end : ℕ) → ((q : ℕ) → end ≤ q → map_of.get m q ≡ None) → (0 < end → is_some (map_of.get m (end - 1)) ≡ true) → end_of m ≡ end
end_is m end past last =
    elim (cases_lt end (end_of m)) [
      | inl lt ↦ absurd (none_past m (end_of m - 1) (past (end_of m - 1) (omega arith)) (last_present m (end_of m - 1) (omega arith)))
      | inr ge ↦ elim (cases_lt (end_of m) end) [
        | inl lt ↦ absurd (let l : end - 1 < end_of m = below_end m (end - 1) (last (omega arith)) in omega arith)
        | inr le ↦ omega arith
      ]
    ]

pub greatest_is : (m : FinMap nat_cmp Complete) (q : ℕ) → end_of m ≡ q + 1 → greatest_of m ≡ Some q
greatest_is m q e = grind (arith, nat_tests, e)

pub greatest_none : (m : FinMap nat_cmp Complete) → end_of m ≡ 0 → greatest_of m ≡ None
greatest_none m e = grind (arith, nat_tests, e)
