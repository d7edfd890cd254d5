-- Lemmas on the cells.
use Rattle.std.proofs.Common.{◌≡◌, ◌≢◌, ◌<◌, ◌+◌, ◌^◌, ◌++◌, ◌∷◌, [], ℕ, Bool, true, false, cond, List, Option, Some, None, length, length-append, refl, sym, ap, ◌∙◌, subst, arith, true≢false, ◌⊎◌, inl, inr}
use Rattle.std.specs.Str.{bytes_eq}
use Rattle.std.proofs.lemmas.Bool.{cases_Bool, cases_lt}
use Rattle.std.proofs.lemmas.List.{length-map, get_or-map, ext_get_or}
use Rattle.std.proofs.lemmas.Slice.Eq.{bytes_eq-Decides}
use Rattle.std.proofs.Math.ListN.{get_or-append}
use Rattle.std.proofs.Math.Seq.{get_or-append_seam}
use Rattle.property_keys.specs.declared.identifiers.ObjectId.{ObjectId}
use Rattle.prototype_validity.specs.declared.cell.Cell.{Cell}
use Rattle.prototype_validity.specs.declared.registry.Registry.{Registry}
use Rattle.prototype_validity.specs.Cells.{no_cell, cell_of, includes, changed_cell, after_change, HasNoCell, IsCellOf, new_cell, Drops}
use Rattle.prototype_validity.specs.Registered.{IsListed, cell_at, count_of}
use Rattle.prototype_validity.specs.Sound.{IsSoundRegistry}

pub sound_none : (newest : List ℕ → Option ℕ) (registry : Registry) → IsSoundRegistry newest registry []
sound_none newest registry = record { room = omega arith; kept = λ i lt. absurd (omega arith); listed = λ i o lt. absurd (omega arith) }

module _ (newest : List ℕ → Option ℕ) (registry : Registry) (cells : List Cell) (sound : IsSoundRegistry newest registry cells) where
  pub sound_grown : (now : List ℕ → Option ℕ) (grown : Registry) → ((q : List ℕ) → now q ≡ newest q) → ((o : ObjectId) (i : ℕ) → IsListed registry o i → IsListed grown o i) → IsSoundRegistry now grown cells
  sound_grown now grown same keeps = record {
    room = sound.room;
    kept = λ i lt h. same _ ∙ sound.kept i lt h;
    listed = λ i o lt h inc. keeps o i (sound.listed i o lt h inc);
  }

  pub none_from_index : (chain : List ℕ) → newest chain ≡ None → HasNoCell cells chain
  none_from_index chain none i lt is =
      elim (cases_Bool (cell_of cells i).holds) [
        | inl h ↦ let x : Some i ≡ None = sym (sound.kept i lt h) ∙ ap newest is ∙ none in cc
        | inr f ↦ f
      ]

  pub none_from_standing : (chain : List ℕ) (number : ℕ) → newest chain ≡ Some number → (IsCellOf cells chain number → ⊥) → HasNoCell cells chain
  none_from_standing chain number h not i lt is =
      elim (cases_Bool (cell_of cells i).holds) [
        | inl t ↦
            let x : Some i ≡ Some number = sym (sound.kept i lt t) ∙ ap newest is ∙ h in
            let y : i ≡ number = cc in
            absurd (not (record { known = omega arith; chain_is = ap (λ k. (cell_of cells k).chain) (sym y) ∙ is; still_holds = ap (λ k. (cell_of cells k).holds) (sym y) ∙ t }))
        | inr f ↦ f
      ]

  -- a chain of which no cell holds has another newest cell
  pub sound_newest : (chain : List ℕ) (n : ℕ) (now : List ℕ → Option ℕ) → HasNoCell cells chain → ((q : List ℕ) → now q ≡ cond (bytes_eq chain q) (Some n) (newest q)) → IsSoundRegistry now registry cells
  sound_newest chain n now none update = record {
    room = sound.room;
    kept = λ i lt h. let q = (cell_of cells i).chain in
        elim (cases_Bool (bytes_eq chain q)) [
          | inl e ↦ absurd (true≢false (sym h ∙ none i lt (sym ((bytes_eq-Decides chain q).0 e))))
          | inr e ↦ update q ∙ ap (λ b. cond b (Some n) (newest q)) e ∙ sound.kept i lt h
        ];
    listed = sound.listed;
  }

  -- a cell more
  pub sound_entered : (chain : List ℕ) → newest chain ≡ Some (length cells) → ((o : ObjectId) → includes o.0 chain ≡ true → IsListed registry o (length cells)) → length cells + 1 < 2 ^ 32
      → IsSoundRegistry newest registry (cells ++ new_cell chain ∷ [])
  sound_entered chain h lists room = record {
    room = omega (arith, length-append cells (new_cell chain ∷ []));
    kept = λ i lt t. elim (cases_lt i (length cells)) [
      | inl l ↦ let e = left i l in ap (λ (c : Cell). newest c.chain) e ∙ sound.kept i l (sym (ap (λ (c : Cell). c.holds) e) ∙ t)
      | inr g ↦ let k : i ≡ length cells = omega (arith, length-append cells (new_cell chain ∷ [])) in ap (λ (c : Cell). newest c.chain) (right i k) ∙ h ∙ ap Some (sym k)
    ];
    listed = λ i o lt t inc. elim (cases_lt i (length cells)) [
      | inl l ↦ let e = left i l in sound.listed i o l (sym (ap (λ (c : Cell). c.holds) e) ∙ t) (sym (ap (λ (c : Cell). includes o.0 c.chain) e) ∙ inc)
      | inr g ↦ let k : i ≡ length cells = omega (arith, length-append cells (new_cell chain ∷ [])) in
          subst (λ j. IsListed registry o j) (sym k) (lists o (sym (ap (λ (c : Cell). includes o.0 c.chain) (right i k)) ∙ inc))
    ];
  }
    where
      left : (i : ℕ) → i < length cells → cell_of (cells ++ new_cell chain ∷ []) i ≡ cell_of cells i
      left i l = get_or-append cells (new_cell chain ∷ []) no_cell i l

      right : (i : ℕ) → i ≡ length cells → cell_of (cells ++ new_cell chain ∷ []) i ≡ new_cell chain
      right i e = ap (cell_of (cells ++ new_cell chain ∷ [])) e ∙ get_or-append_seam cells (new_cell chain) [] no_cell

abbrev pub dead : Cell → Cell
dead c = record { chain = c.chain; holds = false }

pub chain-changed : (object : ℕ) (c : Cell) → (changed_cell object c).chain ≡ c.chain
chain-changed object c = elim (includes object c.chain) as (λ b. (cond b (dead c) c).chain ≡ c.chain) [ true ↦ refl | false ↦ refl ]

-- a cell that still holds after a change is as before, and the object is not on its chain
pub unchanged : (object : ℕ) (c : Cell) → (changed_cell object c).holds ≡ true → (c.holds ≡ true) × (includes object c.chain ≡ false)
unchanged object c h =
    elim (cases_Bool (includes object c.chain)) [
      | inl e ↦ let x : false ≡ true = sym (ap (λ b. (cond b (dead c) c).holds) e) ∙ h in absurd (true≢false (sym x))
      | inr e ↦ (sym (ap (λ b. (cond b (dead c) c).holds) e) ∙ h, e)
    ]

pub cell_after : (cells : List Cell) (object i : ℕ) → i < length cells → cell_of (after_change cells object) i ≡ changed_cell object (cell_of cells i)
cell_after cells object i lt = get_or-map (changed_cell object) cells i no_cell no_cell lt

pub sound_changed : (newest : List ℕ → Option ℕ) (registry now : Registry) (cells : List Cell) (object : ObjectId) → IsSoundRegistry newest registry cells
    → ((o : ObjectId) (i : ℕ) → o ≢ object → IsListed registry o i → IsListed now o i) → IsSoundRegistry newest now (after_change cells object.0)
sound_changed newest registry now cells object sound keeps = record {
  room = omega (arith, length-map cells (changed_cell object.0), sound.room);
  kept = λ i lt h.
      let l : i < length cells = omega (arith, length-map cells (changed_cell object.0)) in
      let e = cell_after cells object.0 i l in
      let u = unchanged object.0 (cell_of cells i) (sym (ap (λ (c : Cell). c.holds) e) ∙ h) in
      ap newest (ap (λ (c : Cell). c.chain) e ∙ chain-changed object.0 (cell_of cells i)) ∙ sound.kept i l u.0;
  listed = λ i o lt h inc.
      let l : i < length cells = omega (arith, length-map cells (changed_cell object.0)) in
      let e = cell_after cells object.0 i l in
      let u = unchanged object.0 (cell_of cells i) (sym (ap (λ (c : Cell). c.holds) e) ∙ h) in
      let inc' : includes o.0 (cell_of cells i).chain ≡ true = sym (ap (includes o.0) (ap (λ (c : Cell). c.chain) e ∙ chain-changed object.0 (cell_of cells i))) ∙ inc in
      keeps o i (λ same. true≢false (sym inc' ∙ ap (λ (p : ObjectId). includes p.0 (cell_of cells i).chain) same ∙ u.1)) (sound.listed i o l u.0 inc');
}

-- what the loop of a change has done: each cell is as before or changed, and those of the places so far are changed
pub record Dropped (registry : Registry) (old new : List Cell) (object : ObjectId) (count : ℕ) : Type 0 where
  pub size : length new ≡ length old
  pub each : (i : ℕ) → i < length old → (cell_of new i ≡ cell_of old i) ⊎ (cell_of new i ≡ changed_cell object.0 (cell_of old i))
  pub done : (n i : ℕ) → n < count → i < length old → cell_at registry object n ≡ Some i → cell_of new i ≡ changed_cell object.0 (cell_of old i)

pub dropped_none : (registry : Registry) (cells : List Cell) (object : ObjectId) → Dropped registry cells cells object 0
dropped_none registry cells object = record { size = refl; each = λ i lt. inl refl; done = λ n i lt. absurd (omega arith) }

changed_twice : (object : ℕ) (c : Cell) → changed_cell object (changed_cell object c) ≡ changed_cell object c
changed_twice object c =
    elim (cases_Bool (includes object c.chain)) [
      | inl e ↦ ap (changed_cell object) (ap (λ b. cond b (dead c) c) e) ∙ ap (λ b. cond b (dead c) (dead c)) e ∙ sym (ap (λ b. cond b (dead c) c) e)
      | inr e ↦ ap (changed_cell object) (ap (λ b. cond b (dead c) c) e)
    ]

pub dropped_more : (registry : Registry) (old mid new : List Cell) (object : ObjectId) (count number : ℕ) → Dropped registry old mid object count
    → cell_at registry object count ≡ Some number → Drops mid new object.0 number → Dropped registry old new object (count + 1)
dropped_more registry old mid new object count number before at drops = record {
  size = drops.count ∙ before.size;
  each = λ i lt. elim (cases_lt i number) [
    | inl a ↦ subst (λ c. (c ≡ cell_of old i) ⊎ (c ≡ changed_cell object.0 (cell_of old i))) (sym (drops.others i (omega arith))) (before.each i lt)
    | inr a ↦ elim (cases_lt number i) [
      | inl b ↦ subst (λ c. (c ≡ cell_of old i) ⊎ (c ≡ changed_cell object.0 (cell_of old i))) (sym (drops.others i (omega arith))) (before.each i lt)
      | inr b ↦ let e : i ≡ number = omega arith in inr (here i lt e)
    ]
  ];
  done = λ n i lt inside stands. elim (cases_lt i number) [
    | inl a ↦ drops.others i (omega arith) ∙ before.done n i (earlier n i lt stands (omega arith)) inside stands
    | inr a ↦ elim (cases_lt number i) [
      | inl b ↦ drops.others i (omega arith) ∙ before.done n i (earlier n i lt stands (omega arith)) inside stands
      | inr b ↦ let e : i ≡ number = omega arith in here i inside e
    ]
  ];
}
  where
    here : (i : ℕ) → i < length old → i ≡ number → cell_of new i ≡ changed_cell object.0 (cell_of old i)
    here i lt e =
        ap (cell_of new) e ∙ drops.here (omega (arith, before.size)) ∙ ap (λ k. changed_cell object.0 (cell_of mid k)) (sym e)
        ∙ elim (before.each i lt) [ inl same ↦ ap (changed_cell object.0) same | inr changed ↦ ap (changed_cell object.0) changed ∙ changed_twice object.0 (cell_of old i) ]

    earlier : (n i : ℕ) → n < count + 1 → cell_at registry object n ≡ Some i → i ≢ number → n < count
    earlier n i lt stands ne =
        elim (cases_lt n count) [
          | inl a ↦ a
          | inr a ↦ let e : n ≡ count = omega arith in let x : Some i ≡ Some number = sym stands ∙ ap (cell_at registry object) e ∙ at in let y : i ≡ number = cc in absurd (ne y)
        ]

pub dropped_nothing : (registry : Registry) (old new : List Cell) (object : ObjectId) (count : ℕ) → Dropped registry old new object count
    → cell_at registry object count ≡ None → Dropped registry old new object (count + 1)
dropped_nothing registry old new object count before none = record {
  size = before.size;
  each = before.each;
  done = λ n i lt inside stands. elim (cases_lt n count) [
    | inl a ↦ before.done n i a inside stands
    | inr a ↦ let e : n ≡ count = omega arith in let x : Some i ≡ None = sym stands ∙ ap (cell_at registry object) e ∙ none in absurd (cc)
  ];
}

-- once all places are gone over, every cell is as the change leaves it
pub dropped_all : (newest : List ℕ → Option ℕ) (registry : Registry) (old new : List Cell) (object : ObjectId) → IsSoundRegistry newest registry old
    → Dropped registry old new object (count_of registry object) → new ≡ after_change old object.0
dropped_all newest registry old new object sound dropped =
    ext_get_or no_cell new (after_change old object.0) (dropped.size ∙ sym (length-map old (changed_cell object.0)))
    (λ i lt. let l : i < length old = omega (arith, dropped.size) in each i l ∙ sym (cell_after old object.0 i l))
  where
    each : (i : ℕ) → i < length old → cell_of new i ≡ changed_cell object.0 (cell_of old i)
    each i l =
        elim (dropped.each i l) [
          | inr changed ↦ changed
          | inl same ↦ elim (cases_Bool (includes object.0 (cell_of old i).chain)) [
            | inr out ↦ same ∙ sym (ap (λ b. cond b (dead (cell_of old i)) (cell_of old i)) out)
            | inl on ↦ elim (cases_Bool (cell_of old i).holds) [
              | inl h ↦ let listed = sound.listed i object l h on in dropped.done listed.number i listed.below l listed.stands
              | inr f ↦ same ∙ gone (cell_of old i) f ∙ sym (ap (λ b. cond b (dead (cell_of old i)) (cell_of old i)) on)
            ]
          ]
        ]
      where
        gone : (c : Cell) → c.holds ≡ false → c ≡ record { chain = c.chain; holds = false }
        gone c f = ap (λ (b : Bool). let x : Cell = record { chain = c.chain; holds = b } in x) f

-- what a look into the lists tells hangs on what stands in them alone
pub dropped_same : (registry now : Registry) (old new : List Cell) (object : ObjectId) (count : ℕ) → now.cells ≡ registry.cells
    → Dropped now old new object count → Dropped registry old new object count
dropped_same registry now old new object count same dropped = record {
  size = dropped.size;
  each = dropped.each;
  done = λ n i lt inside stands. dropped.done n i lt inside (ap (λ cells. cell_at (record registry { cells = cells }) object n) same ∙ stands);
}

pub none_from_not : (r : Option ℕ) → ((x : ℕ) → r ≡ Some x → ⊥) → r ≡ None
none_from_not None not = refl
none_from_not (Some x) not = absurd (not x refl)
