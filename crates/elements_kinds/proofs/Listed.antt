-- The properties of a list of values.
use Rattle.std.proofs.Common.{◌≡◌, ◌≢◌, ◌<◌, ◌≤◌, ◌+◌, ◌-◌, ◌++◌, ◌∷◌, [], ℕ, zero, suc, Bool, true, false, cond, T, eqb, List, Option, Some, None, is_some, length, get_or, set, take, map, replicate, refl, sym, ap, ◌∙◌, inl, inr, arith, zero-add, nat_cmp, option_map}
use Rattle.std.specs.FinMap as map_of
use Rattle.std.specs.FinMap.{find, is_sorted}
use Rattle.std.specs.FinMap.Entries.{below_all}
use Rattle.std.proofs.lemmas.Bool.{cases_Bool, cases_lt}
use Rattle.std.proofs.lemmas.Bool.Decides.{nat_tests}
use Rattle.std.proofs.lemmas.List.{get_or-set_other, get_or-take, get_or-replicate, get_or-append_right, get_or_append_left, get_or_past, length-replicate, length-take-le, take_more}
use Rattle.property_keys.specs.declared.values.Value.{Value}
use Rattle.descriptors.specs.declared.property.Complete.{Complete}
use Rattle.elements_kinds.specs.Maps.{with_value}
use Rattle.elements_kinds.specs.Properties.{entries_from, plain, properties_of}
use Rattle.elements_kinds.specs.Rules.{end_of, end_of_keys}
use Rattle.elements_kinds.specs.Sound.{IsSoundStore}
use Rattle.elements_kinds.proofs.FiniteMaps.{eq_by_nat, to_T, both, same_properties, get-from, entries-from, get-insert, get-remove, end_is}

abbrev pub Values : Type 0
Values = List (Option Value)

-- ---- what is found at an index

find_below : (vs : Values) (k q : ℕ) → q < k → find nat_cmp q (entries_from k vs) ≡ None
find_below [] k q lt = refl
find_below (None ∷ vs) k q lt = find_below vs (k + 1) q (omega arith)
find_below (Some v ∷ vs) k q lt =
    let n : eqb q k ≡ false = grind (arith, nat_tests, lt) in
    ap (λ b. cond b (Some (plain v)) (find nat_cmp q (entries_from (k + 1) vs))) (eq_by_nat q k ∙ n) ∙ find_below vs (k + 1) q (omega arith)

further : (vs : Values) (k q : ℕ) → find nat_cmp (k + suc q) (entries_from (k + 1) vs) ≡ find nat_cmp ((k + 1) + q) (entries_from (k + 1) vs)
further vs k q = let e : k + suc q ≡ (k + 1) + q = omega arith in ap (λ n. find nat_cmp n (entries_from (k + 1) vs)) e

find_at : (vs : Values) (k q : ℕ) → find nat_cmp (k + q) (entries_from k vs) ≡ option_map plain (get_or vs q None)
find_at [] k q = refl
find_at (None ∷ vs) k zero = find_below vs (k + 1) (k + 0) (omega arith)
find_at (None ∷ vs) k (suc q) = further vs k q ∙ find_at vs (k + 1) q
find_at (Some v ∷ vs) k zero =
    let y : eqb (k + 0) k ≡ true = grind (arith, nat_tests) in
    ap (λ b. cond b (Some (plain v)) (find nat_cmp (k + 0) (entries_from (k + 1) vs))) (eq_by_nat (k + 0) k ∙ y)
find_at (Some v ∷ vs) k (suc q) =
    let n : eqb (k + suc q) k ≡ false = grind (arith, nat_tests) in
    ap (λ b. cond b (Some (plain v)) (find nat_cmp (k + suc q) (entries_from (k + 1) vs))) (eq_by_nat (k + suc q) k ∙ n) ∙ further vs k q ∙ find_at vs (k + 1) q

pub get-listed : (vs : Values) (q : ℕ) → map_of.get (properties_of vs) q ≡ option_map plain (get_or vs q None)
unfolding properties_of
get-listed vs q = get-from (entries_from 0 vs) q ∙ ap (λ n. find nat_cmp n (entries_from 0 vs)) (sym (zero-add q)) ∙ find_at vs 0 q

-- ---- the keys

below_entries : (vs : Values) (x k : ℕ) → x < k → T (below_all nat_cmp x (entries_from k vs))
below_entries [] x k lt = tt
below_entries (None ∷ vs) x k lt = below_entries vs x (k + 1) (omega arith)
below_entries (Some v ∷ vs) x k lt = both _ _ (to_T _ (grind (arith, nat_tests, lt))) (below_entries vs x (k + 1) (omega arith))

sorted_entries : (vs : Values) (k : ℕ) → T (is_sorted nat_cmp (entries_from k vs))
sorted_entries [] k = tt
sorted_entries (None ∷ vs) k = sorted_entries vs (k + 1)
sorted_entries (Some v ∷ vs) k = both _ _ (below_entries vs k (k + 1) (omega arith)) (sorted_entries vs (k + 1))

abbrev pub first_of_each : List (ℕ × Complete) → List ℕ
first_of_each es = map (λ (e : ℕ × Complete). e.0) es

pub keys-listed : (vs : Values) → map_of.keys (properties_of vs) ≡ first_of_each (entries_from 0 vs)
unfolding properties_of
keys-listed vs = ap first_of_each (entries-from (entries_from 0 vs) (sorted_entries vs 0))

abbrev pub where_present : Bool → ℕ → List ℕ
where_present b i = cond b (i ∷ []) []

entries_push : (vs : Values) (k : ℕ) (v : Option Value) → first_of_each (entries_from k (vs ++ v ∷ [])) ≡ first_of_each (entries_from k vs) ++ where_present (is_some v) (k + length vs)
entries_push [] k None = refl
entries_push [] k (Some v) = let e : k ≡ k + 0 = omega arith in ap (λ i. i ∷ []) e
entries_push (None ∷ vs) k v = entries_push vs (k + 1) v ∙ moved_on vs k v
  where
    moved_on : (vs : Values) (k : ℕ) (v : Option Value) → first_of_each (entries_from (k + 1) vs) ++ where_present (is_some v) ((k + 1) + length vs) ≡ first_of_each (entries_from (k + 1) vs) ++ where_present (is_some v) (k + suc (length vs))
    moved_on vs k v = let e : (k + 1) + length vs ≡ k + suc (length vs) = omega arith in ap (λ i. first_of_each (entries_from (k + 1) vs) ++ where_present (is_some v) i) e
entries_push (Some w ∷ vs) k v =
    let e : (k + 1) + length vs ≡ k + suc (length vs) = omega arith in
    ap (λ is. k ∷ is) (entries_push vs (k + 1) v) ∙ ap (λ i. k ∷ (first_of_each (entries_from (k + 1) vs) ++ where_present (is_some v) i)) e

-- one value more
pub keys_more : (vs : Values) (i : ℕ) → i < length vs → map_of.keys (properties_of (take i vs)) ++ where_present (is_some (get_or vs i None)) i ≡ map_of.keys (properties_of (take (i + 1) vs))
keys_more vs i lt =
    let n : length (take i vs) ≡ i = length-take-le i vs (omega arith) in
    let shorter : 0 + length (take i vs) ≡ i = omega arith in
    ap (λ is. is ++ where_present (is_some (get_or vs i None)) i) (keys-listed (take i vs))
    ∙ ap (λ j. first_of_each (entries_from 0 (take i vs)) ++ where_present (is_some (get_or vs i None)) j) (sym shorter)
    ∙ sym (entries_push (take i vs) 0 (get_or vs i None))
    ∙ ap (λ ws. first_of_each (entries_from 0 ws)) (sym (take_more vs i None lt))
    ∙ sym (keys-listed (take (i + 1) vs))

-- ---- lists that have the same at each index

pub same_listed : (vs ws : Values) → ((q : ℕ) → get_or vs q None ≡ get_or ws q None) → properties_of vs ≡ properties_of ws
same_listed vs ws h = same_properties (properties_of vs) (properties_of ws) (λ q. get-listed vs q ∙ ap (option_map plain) (h q) ∙ sym (get-listed ws q))

-- a value at i, and else what was there
pub listed_with : (vs ws : Values) (i : ℕ) (v : Value) → get_or ws i None ≡ Some v → ((q : ℕ) → q ≢ i → get_or ws q None ≡ get_or vs q None) → properties_of ws ≡ map_of.insert (properties_of vs) i (plain v)
listed_with vs ws i v here others = same_properties (properties_of ws) (map_of.insert (properties_of vs) i (plain v)) (λ q.
    get-listed ws q ∙ at q ∙ ap (cond (eqb q i) (Some (plain v))) (sym (get-listed vs q)) ∙ sym (get-insert (properties_of vs) i (plain v) q))
  where
    at : (q : ℕ) → option_map plain (get_or ws q None) ≡ cond (eqb q i) (Some (plain v)) (option_map plain (get_or vs q None))
    at q = elim (cases_Bool (eqb q i)) [
      | inl y ↦
          let e : q ≡ i = grind (arith, nat_tests, y) in
          ap (λ j. option_map plain (get_or ws j None)) e ∙ ap (option_map plain) here ∙ sym (ap (λ b. cond b (Some (plain v)) (option_map plain (get_or vs q None))) y)
      | inr n ↦
          let ne : q ≢ i = λ k. grind (arith, nat_tests, n, k) in
          ap (option_map plain) (others q ne) ∙ sym (ap (λ b. cond b (Some (plain v)) (option_map plain (get_or vs q None))) n)
    ]

pub listed_without : (vs ws : Values) (i : ℕ) → get_or ws i None ≡ None → ((q : ℕ) → q ≢ i → get_or ws q None ≡ get_or vs q None) → properties_of ws ≡ map_of.remove (properties_of vs) i
listed_without vs ws i here others = same_properties (properties_of ws) (map_of.remove (properties_of vs) i) (λ q.
    get-listed ws q ∙ at q ∙ ap (cond (eqb q i) None) (sym (get-listed vs q)) ∙ sym (get-remove (properties_of vs) i q))
  where
    at : (q : ℕ) → option_map plain (get_or ws q None) ≡ cond (eqb q i) None (option_map plain (get_or vs q None))
    at q = elim (cases_Bool (eqb q i)) [
      | inl y ↦
          let e : q ≡ i = grind (arith, nat_tests, y) in
          ap (λ j. option_map plain (get_or ws j None)) e ∙ ap (option_map plain) here ∙ sym (ap (λ b. cond b None (option_map plain (get_or vs q None))) y)
      | inr n ↦
          let ne : q ≢ i = λ k. grind (arith, nat_tests, n, k) in
          ap (option_map plain) (others q ne) ∙ sym (ap (λ b. cond b None (option_map plain (get_or vs q None))) n)
    ]

-- ---- writes and growth

pub get-set : (vs : Values) (i q : ℕ) (v : Option Value) → q ≢ i → get_or (set vs i v) q None ≡ get_or vs q None
get-set vs i q v ne = get_or-set_other vs i q v None ne

pub get-grown : (vs : Values) (n q : ℕ) → get_or (vs ++ replicate n None) q None ≡ get_or vs q None
get-grown vs n q =
    elim (cases_lt q (length vs)) [
      | inl lt ↦ get_or_append_left vs (replicate n None) None q lt
      | inr ge ↦ get_or-append_right vs (replicate n None) (length vs) q None refl ge ∙ hole (q - length vs) ∙ sym (get_or_past vs q None ge)
    ]
  where
    holes : Values
    holes = replicate n None

    hole : (j : ℕ) → get_or holes j None ≡ None
    hole j = elim (cases_lt j n) [
      | inl lt ↦ get_or-replicate n j None None lt
      | inr ge ↦ get_or_past holes j None (let e : length holes ≡ n = length-replicate n None in omega arith)
    ]

-- the first values, where the others are holes
pub listed_front : (vs : Values) (end : ℕ) → ((q : ℕ) → end ≤ q → get_or vs q None ≡ None) → properties_of (take end vs) ≡ properties_of vs
listed_front vs end past = same_listed (take end vs) vs (λ q. elim (cases_lt q end) [
  | inl lt ↦ get_or-take end vs q None lt
  | inr ge ↦ get_or_past (take end vs) q None (let l : length (take end vs) ≤ end = short end vs in omega arith) ∙ sym (past q ge)
])
  where
    short : (n : ℕ) (xs : Values) → length (take n xs) ≤ n
    short zero xs = omega arith
    short (suc n) [] = omega arith
    short (suc n) (x ∷ xs) = omega (arith, short n xs)

-- one value more
pub listed_more : (vs : Values) (i : ℕ) → i < length vs → with_value (properties_of (take i vs)) i (get_or vs i None) ≡ properties_of (take (i + 1) vs)
listed_more vs i lt = step (get_or vs i None) refl
  where
    n : length (take i vs) ≡ i
    n = length-take-le i vs (omega arith)

    pushed : (q : ℕ) → get_or (take (i + 1) vs) q None ≡ get_or (take i vs ++ get_or vs i None ∷ []) q None
    pushed q = ap (λ ws. get_or ws q None) (take_more vs i None lt)

    past_i : (q : ℕ) → i ≤ q → get_or (take i vs) q None ≡ None
    past_i q ge = get_or_past (take i vs) q None (omega (arith, n))

    here : get_or (take (i + 1) vs) i None ≡ get_or vs i None
    here = get_or-take (i + 1) vs i None (omega arith)

    others : (q : ℕ) → q ≢ i → get_or (take (i + 1) vs) q None ≡ get_or (take i vs) q None
    others q ne = elim (cases_lt q i) [
      | inl l ↦ get_or-take (i + 1) vs q None (omega arith) ∙ sym (get_or-take i vs q None l)
      | inr ge ↦
          get_or_past (take (i + 1) vs) q None (let m : length (take (i + 1) vs) ≡ i + 1 = length-take-le (i + 1) vs (omega arith) in omega arith)
          ∙ sym (past_i q ge)
    ]

    step : (v : Option Value) → get_or vs i None ≡ v → with_value (properties_of (take i vs)) i v ≡ properties_of (take (i + 1) vs)
    step None e = same_listed (take i vs) (take (i + 1) vs) (λ q. elim (cases_Bool (eqb q i)) [
      | inl y ↦
          let k : q ≡ i = grind (arith, nat_tests, y) in
          past_i q (omega arith) ∙ sym (ap (λ j. get_or (take (i + 1) vs) j None) k ∙ here ∙ e)
      | inr x ↦ let ne : q ≢ i = λ k. grind (arith, nat_tests, x, k) in sym (others q ne)
    ])
    step (Some v) e = sym (listed_with (take i vs) (take (i + 1) vs) i v (here ∙ e) others)

-- ---- the end of what is sound

is_some-plain : (o : Option Value) → is_some (option_map plain o) ≡ is_some o
is_some-plain None = refl
is_some-plain (Some v) = refl

pub end_sound : (vs : Values) (end : ℕ) → IsSoundStore vs end → end_of (properties_of vs) ≡ end
end_sound vs end sound =
    end_is (properties_of vs) end (λ q ge. get-listed vs q ∙ ap (option_map plain) (sound.past q ge))
    (λ l. ap is_some (get-listed vs (end - 1)) ∙ is_some-plain (get_or vs (end - 1) None) ∙ sound.last l)

pub present-listed : (vs : Values) (i : ℕ) → map_of.contains_key (properties_of vs) i ≡ is_some (get_or vs i None)
present-listed vs i = ap is_some (get-listed vs i) ∙ is_some-plain (get_or vs i None)

pub end_within : (vs : Values) (end : ℕ) → IsSoundStore vs end → end ≤ length vs
end_within vs end sound =
    elim (cases_lt (length vs) end) [
      | inl lt ↦ absurd (none_is (get_or vs (end - 1) None) (get_or_past vs (end - 1) None (omega arith)) (sound.last (omega arith)))
      | inr ge ↦ ge
    ]
  where
    none_is : (o : Option Value) → o ≡ None → is_some o ≡ true → ⊥
    none_is o e h = let x : false ≡ true = sym (ap is_some e) ∙ h in cc

-- ---- no values

pub empty_listed : properties_of [] ≡ map_of.empty
unfolding properties_of
empty_listed = refl

pub keys_none : map_of.keys (properties_of []) ≡ []
keys_none = keys-listed []

pub keys_empty : map_of.keys (map_of.empty {X = Complete} {R = nat_cmp}) ≡ []
keys_empty = ap map_of.keys (sym empty_listed) ∙ keys_none

pub end_empty : end_of (map_of.empty {X = Complete} {R = nat_cmp}) ≡ 0
unfolding end_of
end_empty = ap end_of_keys keys_empty
