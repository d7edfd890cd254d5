-- What the calls of a tree do to its table leaves it sound.
use Rattle.std.proofs.Common.{◌≡◌, ◌≢◌, inl, inr, ℕ, ◌+◌, ◌<◌, ◌^◌, true, Option, Some, None, List, [], ◌∷◌, ◌++◌, length, MatchOption, ap, sym, subst, ◌∙◌, arith, length-append, length-set}
use Rattle.std.proofs.Math.ListN.{set}
use Rattle.std.proofs.lemmas.Bool.{cases_eq, cases_lt}
use Rattle.std.proofs.lemmas.List.{get_or_append_left, get_or_push, get_or-set_other, get_or-set_same}
use Rattle.map_store.specs.declared.MapId.{MapId}
use Rattle.map_store.specs.declared.entries.Representation.TheVariants as representation
use Rattle.transition_tree.specs.declared.edges.Edge.{Edge}
use Rattle.transition_tree.specs.declared.table.Made.{Made}
use Rattle.transition_tree.specs.declared.table.Slot.{Slot}
use Rattle.transition_tree.specs.Edges.{HasNoPlace, HasOneEach, by_accessor, edge_at, no_edge, step_before}
use Rattle.transition_tree.specs.Tables.{IsFree, IsLatest, IsPlaced, IsSoundTable, LeadsFrom, LeadsOn, made_at, no_made, no_slot, slot_at}
use Rattle.transition_tree.proofs.RowsOfPlaces.{rows-pushed}

one-pushed : (es : List Edge) (e : Edge) → HasOneEach es → HasNoPlace es e → HasOneEach (es ++ e ∷ [])
one-pushed es e one none i j a b same =
    let long = length-append es (e ∷ []) in
    let old : (k : ℕ) → k < length es → edge_at (es ++ e ∷ []) k ≡ edge_at es k = λ k c. get_or_append_left es (e ∷ []) no_edge k c in
    let new : (k : ℕ) → length es ≡ k → edge_at (es ++ e ∷ []) k ≡ e = λ k c. get_or_push es e no_edge k c in
    elim (cases_lt i (length es)) [
      | inl c ↦ elim (cases_lt j (length es)) [
        | inl d ↦ one i j c d (sym (old i c) ∙ same ∙ old j d)
        | inr d ↦ absurd (none i c (sym (old i c) ∙ same ∙ new j (omega arith)))
      ]
      | inr c ↦ elim (cases_lt j (length es)) [
        | inl d ↦ absurd (none j d (sym (old j d) ∙ sym same ∙ new i (omega arith)))
        | inr d ↦ omega arith
      ]
    ]

-- ---- a place more

module _ (es : List Edge) (slots : List Slot) (made : List Made) (e : Edge) (sound : IsSoundTable es slots made) (none : HasNoPlace es e) (leads : LeadsOn e (length es)) where
  abbrev es' : List Edge
  es' = es ++ e ∷ []

  abbrev slots' : List Slot
  slots' = slots ++ no_slot ∷ []

  old-edge : (n : ℕ) → n < length es → edge_at es' n ≡ edge_at es n
  old-edge n b = get_or_append_left es (e ∷ []) no_edge n b

  old-slot : (n : ℕ) → n < length es → slot_at slots' n ≡ slot_at slots n
  old-slot n b = get_or_append_left slots (no_slot ∷ []) no_slot n (omega (arith, sound.paired))

  new-slot : (n : ℕ) → length es ≡ n → slot_at slots' n ≡ no_slot
  new-slot n c = get_or_push slots no_slot no_slot n (sound.paired ∙ c)

  still-placed : (n : ℕ) → n < length made → IsPlaced es' made n
  still-placed n b =
      let at = sound.maps n b in
      record {
        known = omega (arith, at.known, length-append es (e ∷ []));
        parent = subst (λ (x : Edge). MatchOption (made_at made n).parent (step_before x ≡ None) (LeadsFrom x made n)) (sym (old-edge (made_at made n).place at.known)) at.parent;
      }

  still-latest : (n : ℕ) → n < length es' → MatchOption (slot_at slots' n).latest (IsFree made n) (IsLatest made n)
  still-latest n b =
      elim (cases_lt n (length es)) [
        | inl c ↦ subst (λ (s : Slot). MatchOption s.latest (IsFree made n) (IsLatest made n)) (sym (old-slot n c)) (sound.latest n c)
        | inr c ↦
            let free : IsFree made n = λ k d same. let known = (sound.maps k d).known in omega arith in
            subst (λ (s : Slot). MatchOption s.latest (IsFree made n) (IsLatest made n)) (sym (new-slot n (omega (arith, length-append es (e ∷ []))))) free
      ]

  still-pairs : (n : ℕ) → n < length es' → (slot_at slots' n).kept ≡ representation.Pair → by_accessor (edge_at es' n) ≡ true
  still-pairs n b pair =
      elim (cases_lt n (length es)) [
        | inl c ↦ ap by_accessor (old-edge n c) ∙ sound.pairs n c (sym (ap (λ (s : Slot). s.kept) (old-slot n c)) ∙ pair)
        | inr c ↦
            let nothing : representation.None ≡ representation.Pair = sym (ap (λ (s : Slot). s.kept) (new-slot n (omega (arith, length-append es (e ∷ []))))) ∙ pair in cc
      ]

  pub sound-placed : IsSoundTable es' slots' made
  sound-placed = record {
    paired = omega (arith, sound.paired, length-append es (e ∷ []), length-append slots (no_slot ∷ []));
    few = sound.few;
    one = one-pushed es e sound.one none;
    rows = rows-pushed es e sound.rows leads;
    maps = still-placed;
    latest = still-latest;
    pairs = still-pairs;
    paired_maps = λ n b accessor.
        let known = (sound.maps n b).known in
        ap (λ (s : Slot). s.kept) (old-slot (made_at made n).place known) ∙ sound.paired_maps n b (sym (ap by_accessor (old-edge (made_at made n).place known)) ∙ accessor);
  }

-- ---- another representation is kept

module _ (es : List Edge) (slots : List Slot) (made : List Made) (k : ℕ) (s : Slot) (sound : IsSoundTable es slots made) (known : k < length es) where
  within : k < length slots
  within = omega (arith, sound.paired)

  here : slot_at (set slots k s) k ≡ s
  here = get_or-set_same slots k s no_slot within

  there : (n : ℕ) → n ≢ k → slot_at (set slots k s) n ≡ slot_at slots n
  there n ne = get_or-set_other slots k n s no_slot ne

  set-pairs : (s.kept ≡ representation.Pair → by_accessor (edge_at es k) ≡ true) → (n : ℕ) → n < length es → (slot_at (set slots k s) n).kept ≡ representation.Pair → by_accessor (edge_at es n) ≡ true
  set-pairs only n b pair =
      elim (cases_eq n k) [
        | inl same ↦ ap (λ (j : ℕ). by_accessor (edge_at es j)) same ∙ only (sym (ap (λ (x : Slot). x.kept) here) ∙ ap (λ (j : ℕ). (slot_at (set slots k s) j).kept) (sym same) ∙ pair)
        | inr ne ↦ sound.pairs n b (sym (ap (λ (x : Slot). x.kept) (there n ne)) ∙ pair)
      ]

  set-paired : (by_accessor (edge_at es k) ≡ true → s.kept ≡ representation.Pair) → (place : ℕ) → (by_accessor (edge_at es place) ≡ true → place ≢ k → (slot_at slots place).kept ≡ representation.Pair)
      → by_accessor (edge_at es place) ≡ true → (slot_at (set slots k s) place).kept ≡ representation.Pair
  set-paired due place old accessor =
      elim (cases_eq place k) [
        | inl same ↦ ap (λ (j : ℕ). (slot_at (set slots k s) j).kept) same ∙ ap (λ (x : Slot). x.kept) here ∙ due (ap (λ (j : ℕ). by_accessor (edge_at es j)) (sym same) ∙ accessor)
        | inr ne ↦ ap (λ (x : Slot). x.kept) (there place ne) ∙ old accessor ne
      ]

  pub sound-kept : s.latest ≡ (slot_at slots k).latest → (s.kept ≡ representation.Pair → by_accessor (edge_at es k) ≡ true) → (by_accessor (edge_at es k) ≡ true → s.kept ≡ representation.Pair) → IsSoundTable es (set slots k s) made
  sound-kept latest only due = record {
    paired = omega (arith, sound.paired, length-set slots k s);
    few = sound.few;
    one = sound.one;
    rows = sound.rows;
    maps = sound.maps;
    latest = λ n b. elim (cases_eq n k) [
      | inl same ↦ subst (λ (o : Option MapId). MatchOption o (IsFree made n) (IsLatest made n)) (sym (ap (λ (j : ℕ). (slot_at (set slots k s) j).latest) same ∙ ap (λ (x : Slot). x.latest) here ∙ latest ∙ ap (λ (j : ℕ). (slot_at slots j).latest) (sym same))) (sound.latest n b)
      | inr ne ↦ subst (λ (x : Slot). MatchOption x.latest (IsFree made n) (IsLatest made n)) (sym (there n ne)) (sound.latest n b)
    ];
    pairs = set-pairs only;
    paired_maps = λ n b accessor. set-paired due (made_at made n).place (λ a ne. sound.paired_maps n b a) accessor;
  }

-- ---- a map more

same-leads : (e : Edge) (made made' : List Made) (n : ℕ) → ((p : ℕ) → p < n → made_at made' p ≡ made_at made p) → (o : Option MapId) → MatchOption o (step_before e ≡ None) (LeadsFrom e made n) → MatchOption o (step_before e ≡ None) (LeadsFrom e made' n)
same-leads e made made' n same None h = h
same-leads e made made' n same (Some p) h = record { earlier = h.earlier; by = h.by; before = h.before ∙ ap (λ (x : Made). Some (x.place, h.by)) (sym (same p.0 h.earlier)) }

module _ (es : List Edge) (slots : List Slot) (made : List Made) (m : Made) (s : Slot) (map : MapId) (sound : IsSoundTable es slots made) (known : m.place < length es) (number : map.0 ≡ length made) where
  abbrev made' : List Made
  made' = made ++ m ∷ []

  old-made : (n : ℕ) → n < length made → made_at made' n ≡ made_at made n
  old-made n b = get_or_append_left made (m ∷ []) no_made n b

  new-made : (n : ℕ) → length made ≡ n → made_at made' n ≡ m
  new-made n e = get_or_push made m no_made n e

  entered-placed : MatchOption m.parent (step_before (edge_at es m.place) ≡ None) (LeadsFrom (edge_at es m.place) made (length made)) → (n : ℕ) → n < length made' → IsPlaced es made' n
  entered-placed parent n b =
      elim (cases_lt n (length made)) [
        | inl c ↦
            let at = sound.maps n c in
            record {
              known = subst (λ (x : Made). x.place < length es) (sym (old-made n c)) at.known;
              parent = subst (λ (x : Made). MatchOption x.parent (step_before (edge_at es x.place) ≡ None) (LeadsFrom (edge_at es x.place) made' n)) (sym (old-made n c))
                  (same-leads (edge_at es (made_at made n).place) made made' n (λ p lt. old-made p (omega arith)) (made_at made n).parent at.parent);
            }
        | inr c ↦
            let last : length made ≡ n = omega (arith, length-append made (m ∷ [])) in
            record {
              known = subst (λ (x : Made). x.place < length es) (sym (new-made n last)) known;
              parent = subst (λ (x : Made). MatchOption x.parent (step_before (edge_at es x.place) ≡ None) (LeadsFrom (edge_at es x.place) made' n)) (sym (new-made n last))
                  (subst (λ (j : ℕ). MatchOption m.parent (step_before (edge_at es m.place) ≡ None) (LeadsFrom (edge_at es m.place) made' j)) last
                  (same-leads (edge_at es m.place) made made' (length made) old-made m.parent parent));
            }
      ]

  -- of the place of the new map it is the latest, and of the others what was
  latest-here : IsLatest made' m.place map
  latest-here = record {
    known = omega (arith, length-append made (m ∷ []));
    here = ap (λ (x : Made). x.place) (new-made map.0 (sym number));
    last = λ n b e. omega (arith, length-append made (m ∷ []));
  }

  latest-there : (n : ℕ) → n ≢ m.place → (o : Option MapId) → MatchOption o (IsFree made n) (IsLatest made n) → MatchOption o (IsFree made' n) (IsLatest made' n)
  latest-there n ne None free = λ k b e. elim (cases_lt k (length made)) [
    | inl c ↦ free k c (sym (ap (λ (x : Made). x.place) (old-made k c)) ∙ e)
    | inr c ↦ ne (sym e ∙ ap (λ (x : Made). x.place) (new-made k (omega (arith, length-append made (m ∷ [])))))
  ]
  latest-there n ne (Some l) latest = record {
    known = omega (arith, latest.known, length-append made (m ∷ []));
    here = ap (λ (x : Made). x.place) (old-made l.0 latest.known) ∙ latest.here;
    last = λ k b e. elim (cases_lt k (length made)) [
      | inl c ↦ latest.last k c (sym (ap (λ (x : Made). x.place) (old-made k c)) ∙ e)
      | inr c ↦ absurd (ne (sym e ∙ ap (λ (x : Made). x.place) (new-made k (omega (arith, length-append made (m ∷ []))))))
    ];
  }

  entered-latest : s.latest ≡ Some map → (n : ℕ) → n < length es → MatchOption (slot_at (set slots m.place s) n).latest (IsFree made' n) (IsLatest made' n)
  entered-latest is n b =
      elim (cases_eq n m.place) [
        | inl same ↦
            subst (λ (o : Option MapId). MatchOption o (IsFree made' n) (IsLatest made' n))
            (sym (ap (λ (j : ℕ). (slot_at (set slots m.place s) j).latest) same ∙ ap (λ (x : Slot). x.latest) (here es slots made m.place s sound known) ∙ is))
            (subst (λ (j : ℕ). IsLatest made' j map) (sym same) latest-here)
        | inr ne ↦
            subst (λ (x : Slot). MatchOption x.latest (IsFree made' n) (IsLatest made' n)) (sym (there es slots made m.place s sound known n ne))
            (latest-there n ne (slot_at slots n).latest (sound.latest n b))
      ]

  entered-paired : (by_accessor (edge_at es m.place) ≡ true → s.kept ≡ representation.Pair) → (n : ℕ) → n < length made' → by_accessor (edge_at es (made_at made' n).place) ≡ true
      → (slot_at (set slots m.place s) (made_at made' n).place).kept ≡ representation.Pair
  entered-paired due n b accessor =
      set-paired es slots made m.place s sound known due (made_at made' n).place
      (λ a ne. elim (cases_lt n (length made)) [
        | inl c ↦ ap (λ (x : Made). (slot_at slots x.place).kept) (old-made n c) ∙ sound.paired_maps n c (ap (λ (x : Made). by_accessor (edge_at es x.place)) (sym (old-made n c)) ∙ a)
        | inr c ↦ absurd (ne (ap (λ (x : Made). x.place) (new-made n (omega (arith, length-append made (m ∷ []))))))
      ]) accessor

  pub sound-entered : MatchOption m.parent (step_before (edge_at es m.place) ≡ None) (LeadsFrom (edge_at es m.place) made (length made)) → s.latest ≡ Some map
      → (s.kept ≡ representation.Pair → by_accessor (edge_at es m.place) ≡ true) → (by_accessor (edge_at es m.place) ≡ true → s.kept ≡ representation.Pair)
      → length made + 1 < 2 ^ 32 → IsSoundTable es (set slots m.place s) made'
  sound-entered parent latest only due few = record {
    paired = omega (arith, sound.paired, length-set slots m.place s);
    few = omega (arith, length-append made (m ∷ []));
    one = sound.one;
    rows = sound.rows;
    maps = entered-placed parent;
    latest = entered-latest latest;
    pairs = set-pairs es slots made m.place s sound known only;
    paired_maps = entered-paired due;
  }
