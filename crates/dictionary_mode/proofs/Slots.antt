-- Lemmas on the slots of a dictionary.
use Rattle.std.proofs.Common.{◌≡◌, ◌≢◌, ◌<◌, ◌≤◌, ◌+◌, ◌++◌, ◌∷◌, [], ℕ, Bool, true, cond, List, Option, Some, None, length, length-append, set, length-set, refl, sym, ap, ◌∙◌, subst, inl, inr, arith, true≢false}
use Rattle.std.specs.Prelude.{remove, slice_index, IsSome, OnSome}
use Rattle.std.specs.Cmp.{unsigned_Decides}
use Rattle.std.proofs.lemmas.Bool.{cases_Bool, cases_lt}
use Rattle.std.proofs.lemmas.List.{length-map, get_or-map, ext_get_or, get_or-set_same, get_or-set_other}
use Rattle.std.proofs.lemmas.List.Edits.{length-remove, get_or-remove_below, get_or-remove_above}
use Rattle.std.proofs.Math.ListN.{get_or-append}
use Rattle.std.proofs.Math.Seq.{get_or-append_seam}
use Rattle.property_keys.specs.declared.keys.PropKey.{PropKey}
use Rattle.property_keys.specs.declared.keys.PropKey.TheVariants.{Index, Name, Sym}
use Rattle.property_keys.specs.contracts.keys.PropKeyPartialEq.TheImpl.{eq-value}
use Rattle.descriptors.specs.declared.property.Complete.{Complete}
use Rattle.dictionary_mode.specs.Counts.{Lacks}
use Rattle.dictionary_mode.specs.Entries.{no_entry, entry_at, key_at, IsPlaceOf, LacksKey, HasOneEach, with_property}
use Rattle.dictionary_mode.specs.Places.{in_use, IsSoundDictionary}

abbrev pub key_eq : PropKey → PropKey → Bool
key_eq = eq-value.it

pub equal_from_eq : (a b : PropKey) → key_eq a b ≡ true → a ≡ b
equal_from_eq (Index i) (Index j) e = ap Index ((unsigned_Decides i j).0 e)
equal_from_eq (Name i) (Name j) e = ap (λ (n : ℕ). Name (record { 0 = n })) ((unsigned_Decides i.0 j.0).0 e)
equal_from_eq (Sym i) (Sym j) e = ap (λ (n : ℕ). Sym (record { 0 = n })) ((unsigned_Decides i.0 j.0).0 e)
equal_from_eq a b e = cc

pub eq_itself : (a : PropKey) → key_eq a a ≡ true
eq_itself (Index i) = (unsigned_Decides i i).1 refl
eq_itself (Name i) = (unsigned_Decides i.0 i.0).1 refl
eq_itself (Sym i) = (unsigned_Decides i.0 i.0).1 refl

abbrev pub Slots : Type 0
Slots = List (PropKey × Complete)

pub length-in_use : (slots : Slots) (order : List ℕ) → length (in_use slots order) ≡ length order
length-in_use slots order = length-map order (entry_at slots)

pub entry_in_use : (slots : Slots) (order : List ℕ) (i : ℕ) → i < length order → entry_at (in_use slots order) i ≡ entry_at slots (slice_index order i)
entry_in_use slots order i lt = get_or-map (entry_at slots) order i 0 no_entry lt

pub key_in_use : (slots : Slots) (order : List ℕ) (i : ℕ) → i < length order → key_at (in_use slots order) i ≡ key_at slots (slice_index order i)
key_in_use slots order i lt = ap (λ (e : PropKey × Complete). e.0) (entry_in_use slots order i lt)

pub known_in_use : (slots : Slots) (order : List ℕ) (i : ℕ) → i < length (in_use slots order) → i < length order
known_in_use slots order i lt = omega (arith, length-in_use slots order)

pub sound_none : (index : PropKey → Option ℕ) (most : ℕ) → ((q : PropKey) → index q ≡ None) → IsSoundDictionary index [] [] most
sound_none index most none = record {
  rising = λ i j l lt. absurd (omega arith);
  within = λ i lt. absurd (omega arith);
  indexed = λ i lt. absurd (omega arith);
  filled = λ q s h. let x = sym h ∙ none q in cc;
  named = λ q s h. let x = sym h ∙ none q in cc;
  room = omega arith;
  fits = omega arith;
}

pub on_some : {X : Type 0} (r : Option X) (P : Type 0) → IsSome r → OnSome r P → P
on_some (Some x) P h p = p
on_some None P h p = absurd (true≢false (sym h))

-- an index that gives the same
pub sound_same : (index now : PropKey → Option ℕ) (slots : Slots) (order : List ℕ) (most : ℕ) → ((q : PropKey) → now q ≡ index q) → IsSoundDictionary index slots order most → IsSoundDictionary now slots order most
sound_same index now slots order most same sound = record {
  rising = sound.rising;
  within = sound.within;
  indexed = λ i lt. same _ ∙ sound.indexed i lt;
  filled = λ q s h. sound.filled q s (sym (same q) ∙ h);
  named = λ q s h. sound.named q s (sym (same q) ∙ h);
  room = sound.room;
  fits = sound.fits;
}

module _ (index : PropKey → Option ℕ) (slots : Slots) (order : List ℕ) (most : ℕ) (sound : IsSoundDictionary index slots order most) where
  pub one_each : HasOneEach (in_use slots order)
  one_each i j a b same =
      let li : i < length order = known_in_use slots order i a in
      let lj : j < length order = known_in_use slots order j b in
      let e : key_at slots (slice_index order i) ≡ key_at slots (slice_index order j) = sym (key_in_use slots order i li) ∙ same ∙ key_in_use slots order j lj in
      let x : Some (slice_index order i) ≡ Some (slice_index order j) = sym (sound.indexed i li) ∙ ap index e ∙ sound.indexed j lj in
      let y : slice_index order i ≡ slice_index order j = cc in
      let below : i < j → ⊥ = λ lt. omega (arith, sound.rising i j lt lj) in
      let above : j < i → ⊥ = λ lt. omega (arith, sound.rising j i lt li) in
      omega arith

  pub found : (key : PropKey) (slot place : ℕ) → index key ≡ Some slot → place < length order → slice_index order place ≡ slot → IsPlaceOf (in_use slots order) key place
  found key slot place h lt is = record {
    known = omega (arith, length-in_use slots order);
    names = key_in_use slots order place lt ∙ ap (key_at slots) is ∙ sound.named key slot h;
  }

  pub lacks_from_index : (key : PropKey) → index key ≡ None → LacksKey (in_use slots order) key
  lacks_from_index key none place known names =
      let l : place < length order = known_in_use slots order place known in
      let k : key_at slots (slice_index order place) ≡ key = sym (key_in_use slots order place l) ∙ names in
      let x : Some (slice_index order place) ≡ None = sym (sound.indexed place l) ∙ ap index k ∙ none in
      cc

  pub lacks_from_order : (key : PropKey) (slot : ℕ) → index key ≡ Some slot → Lacks order slot → LacksKey (in_use slots order) key
  lacks_from_order key slot h lacks place known names =
      let l : place < length order = known_in_use slots order place known in
      let k : key_at slots (slice_index order place) ≡ key = sym (key_in_use slots order place l) ∙ names in
      let x : Some (slice_index order place) ≡ Some slot = sym (sound.indexed place l) ∙ ap index k ∙ h in
      let y : slice_index order place ≡ slot = cc in
      lacks place l y

  -- a slot more, out of use
  pub sound_pushed : (e : PropKey × Complete) → length slots + 1 ≤ most → IsSoundDictionary index (slots ++ e ∷ []) order most
  sound_pushed e room = record {
    rising = sound.rising;
    within = λ i lt. omega (arith, sound.within i lt, length-append slots (e ∷ []));
    indexed = λ i lt. ap index (ap (λ (x : PropKey × Complete). x.0) (get_or-append slots (e ∷ []) no_entry (slice_index order i) (sound.within i lt))) ∙ sound.indexed i lt;
    filled = λ q s h. omega (arith, sound.filled q s h, length-append slots (e ∷ []));
    named = λ q s h. ap (λ (x : PropKey × Complete). x.0) (get_or-append slots (e ∷ []) no_entry s (sound.filled q s h)) ∙ sound.named q s h;
    room = omega (arith, length-append slots (e ∷ []));
    fits = omega (arith, length-append slots (e ∷ []), sound.fits);
  }

  pub in_use-pushed : (e : PropKey × Complete) → in_use (slots ++ e ∷ []) order ≡ in_use slots order
  in_use-pushed e =
      ext_get_or no_entry (in_use (slots ++ e ∷ []) order) (in_use slots order) (length-in_use (slots ++ e ∷ []) order ∙ sym (length-in_use slots order))
      (λ i lt. let l : i < length order = known_in_use (slots ++ e ∷ []) order i lt in
      entry_in_use (slots ++ e ∷ []) order i l ∙ get_or-append slots (e ∷ []) no_entry (slice_index order i) (sound.within i l) ∙ sym (entry_in_use slots order i l))

  -- the index has a slot for a key that is not in use
  pub sound_indexed : (key : PropKey) (s : ℕ) (now : PropKey → Option ℕ) → LacksKey (in_use slots order) key → s < length slots → key_at slots s ≡ key
      → ((q : PropKey) → now q ≡ cond (key_eq key q) (Some s) (index q)) → IsSoundDictionary now slots order most
  sound_indexed key s now lacks inside names update = record {
    rising = sound.rising;
    within = sound.within;
    indexed = λ i lt. let k = key_at slots (slice_index order i) in
        elim (cases_Bool (key_eq key k)) [
          | inl t ↦ absurd (lacks i (omega (arith, length-in_use slots order)) (key_in_use slots order i lt ∙ sym (equal_from_eq key k t)))
          | inr f ↦ update k ∙ ap (λ b. cond b (Some s) (index k)) f ∙ sound.indexed i lt
        ];
    filled = λ q t h. elim (cases_Bool (key_eq key q)) [
      | inl y ↦ let x : Some s ≡ Some t = sym (ap (λ b. cond b (Some s) (index q)) y) ∙ sym (update q) ∙ h in let z : s ≡ t = cc in omega arith
      | inr n ↦ sound.filled q t (sym (ap (λ b. cond b (Some s) (index q)) n) ∙ sym (update q) ∙ h)
    ];
    named = λ q t h. elim (cases_Bool (key_eq key q)) [
      | inl y ↦ let x : Some s ≡ Some t = sym (ap (λ b. cond b (Some s) (index q)) y) ∙ sym (update q) ∙ h in let z : s ≡ t = cc in ap (key_at slots) (sym z) ∙ names ∙ equal_from_eq key q y
      | inr n ↦ sound.named q t (sym (ap (λ b. cond b (Some s) (index q)) n) ∙ sym (update q) ∙ h)
    ];
    room = sound.room;
    fits = sound.fits;
  }

  -- a slot comes into use, behind all others
  pub sound_listed : (s : ℕ) → ((i : ℕ) → i < length order → slice_index order i < s) → s < length slots → length order < length slots → index (key_at slots s) ≡ Some s
      → IsSoundDictionary index slots (order ++ s ∷ []) most
  sound_listed s below inside fits h = record {
    rising = λ i j l lt. elim (cases_lt j (length order)) [
      | inl lj ↦ omega (arith, left i (omega arith), left j lj, sound.rising i j l lj)
      | inr ge ↦ let e : j ≡ length order = omega (arith, length-append order (s ∷ [])) in omega (arith, left i (omega arith), right j e, below i (omega arith))
    ];
    within = λ i lt. elim (cases_lt i (length order)) [
      | inl l ↦ omega (arith, left i l, sound.within i l)
      | inr ge ↦ omega (arith, right i (omega (arith, length-append order (s ∷ []))))
    ];
    indexed = λ i lt. elim (cases_lt i (length order)) [
      | inl l ↦ let P : ℕ → Type 0 = λ k. index (key_at slots k) ≡ Some k in subst P (sym (left i l)) (sound.indexed i l)
      | inr ge ↦ let P : ℕ → Type 0 = λ k. index (key_at slots k) ≡ Some k in subst P (sym (right i (omega (arith, length-append order (s ∷ []))))) h
    ];
    filled = sound.filled;
    named = sound.named;
    room = sound.room;
    fits = omega (arith, length-append order (s ∷ []));
  }
    where
      left : (i : ℕ) → i < length order → slice_index (order ++ s ∷ []) i ≡ slice_index order i
      left i l = get_or-append order (s ∷ []) 0 i l

      right : (i : ℕ) → i ≡ length order → slice_index (order ++ s ∷ []) i ≡ s
      right i e = ap (slice_index (order ++ s ∷ [])) e ∙ get_or-append_seam order s [] 0

  module _ (place : ℕ) (inside : place < length order) where
    -- a slot goes out of use
    pub sound_removed : IsSoundDictionary index slots (remove order place) most
    sound_removed = record {
      rising = λ i j l lt. elim (cases_lt i place) [
        | inl a ↦ elim (cases_lt j place) [
          | inl b ↦ omega (arith, low i a, low j b, sound.rising i j l (omega arith))
          | inr b ↦ omega (arith, low i a, high j b, sound.rising i (j + 1) (omega arith) (omega (arith, shorter)))
        ]
        | inr a ↦ omega (arith, high i a, high j (omega arith), sound.rising (i + 1) (j + 1) (omega arith) (omega (arith, shorter)))
      ];
      within = λ i lt. elim (cases_lt i place) [
        | inl a ↦ omega (arith, low i a, sound.within i (omega arith))
        | inr a ↦ omega (arith, high i a, sound.within (i + 1) (omega (arith, shorter)))
      ];
      indexed = λ i lt. let P : ℕ → Type 0 = λ k. index (key_at slots k) ≡ Some k in elim (cases_lt i place) [
        | inl a ↦ subst P (sym (low i a)) (sound.indexed i (omega arith))
        | inr a ↦ subst P (sym (high i a)) (sound.indexed (i + 1) (omega (arith, shorter)))
      ];
      filled = sound.filled;
      named = sound.named;
      room = sound.room;
      fits = omega (arith, shorter, sound.fits);
    }
      where
        shorter : length (remove order place) + 1 ≡ length order
        shorter = length-remove order place inside

        low : (i : ℕ) → i < place → slice_index (remove order place) i ≡ slice_index order i
        low i a = get_or-remove_below order place 0 i a inside

        high : (i : ℕ) → place ≤ i → slice_index (remove order place) i ≡ slice_index order (i + 1)
        high i a = get_or-remove_above order place 0 i a inside

    pub in_use-removed : in_use slots (remove order place) ≡ remove (in_use slots order) place
    in_use-removed =
        let shorter : length (remove order place) + 1 ≡ length order = length-remove order place inside in
        let there : place < length (in_use slots order) = omega (arith, length-in_use slots order) in
        let same : length (in_use slots (remove order place)) ≡ length (remove (in_use slots order) place) = omega (arith, length-in_use slots order, length-in_use slots (remove order place), length-remove (in_use slots order) place there) in
        ext_get_or no_entry (in_use slots (remove order place)) (remove (in_use slots order) place) same
        (λ i lt. let l : i < length (remove order place) = known_in_use slots (remove order place) i lt in
        entry_in_use slots (remove order place) i l ∙ elim (cases_lt i place) as (λ w. entry_at slots (slice_index (remove order place) i) ≡ entry_at (remove (in_use slots order) place) i) [
          | inl a ↦ ap (entry_at slots) (get_or-remove_below order place 0 i a inside) ∙ sym (entry_in_use slots order i (omega arith)) ∙ sym (get_or-remove_below (in_use slots order) place no_entry i a there)
          | inr a ↦ ap (entry_at slots) (get_or-remove_above order place 0 i a inside) ∙ sym (entry_in_use slots order (i + 1) (omega arith)) ∙ sym (get_or-remove_above (in_use slots order) place no_entry i a there)
        ])

    -- another property in the slot of a place
    module _ (property : Complete) where
      abbrev slot : ℕ
      slot = slice_index order place

      abbrev written : Slots
      written = set slots slot (key_at slots slot, property)

      key_at-written : (s : ℕ) → key_at written s ≡ key_at slots s
      key_at-written s =
          elim (cases_lt s slot) [
            | inl a ↦ let ne : s ≢ slot = omega arith in ap (λ (x : PropKey × Complete). x.0) (get_or-set_other slots slot s (key_at slots slot, property) no_entry ne)
            | inr a ↦ elim (cases_lt slot s) [
              | inl b ↦ let ne : s ≢ slot = omega arith in ap (λ (x : PropKey × Complete). x.0) (get_or-set_other slots slot s (key_at slots slot, property) no_entry ne)
              | inr b ↦ let e : s ≡ slot = omega arith in
                  ap (key_at written) e ∙ ap (λ (x : PropKey × Complete). x.0) (get_or-set_same slots slot (key_at slots slot, property) no_entry (sound.within place inside)) ∙ ap (key_at slots) (sym e)
            ]
          ]

      pub sound_written : IsSoundDictionary index written order most
      sound_written = record {
        rising = sound.rising;
        within = λ i lt. omega (arith, sound.within i lt, length-set slots slot (key_at slots slot, property));
        indexed = λ i lt. ap index (key_at-written (slice_index order i)) ∙ sound.indexed i lt;
        filled = λ q s h. omega (arith, sound.filled q s h, length-set slots slot (key_at slots slot, property));
        named = λ q s h. key_at-written s ∙ sound.named q s h;
        room = omega (arith, sound.room, length-set slots slot (key_at slots slot, property));
        fits = omega (arith, sound.fits, length-set slots slot (key_at slots slot, property));
      }

      pub in_use-written : in_use written order ≡ with_property (in_use slots order) place property
      in_use-written =
          let there : place < length (in_use slots order) = omega (arith, length-in_use slots order) in
          let new : PropKey × Complete = (key_at (in_use slots order) place, property) in
          let same : length (in_use written order) ≡ length (set (in_use slots order) place new) = length-in_use written order ∙ sym (length-in_use slots order) ∙ sym (length-set (in_use slots order) place new) in
          ext_get_or no_entry (in_use written order) (set (in_use slots order) place new) same
          (λ i lt. let l : i < length order = known_in_use written order i lt in
          entry_in_use written order i l ∙ elim (cases_lt i place) as (λ w. entry_at written (slice_index order i) ≡ entry_at (set (in_use slots order) place new) i) [
            | inl a ↦ other i l (omega arith) (omega (arith, sound.rising i place a inside))
            | inr a ↦ elim (cases_lt place i) as (λ w. entry_at written (slice_index order i) ≡ entry_at (set (in_use slots order) place new) i) [
              | inl b ↦ other i l (omega arith) (omega (arith, sound.rising place i b l))
              | inr b ↦ let e : i ≡ place = omega arith in
                  ap (λ k. entry_at written (slice_index order k)) e
                  ∙ get_or-set_same slots slot (key_at slots slot, property) no_entry (sound.within place inside)
                  ∙ ap (λ (k : PropKey). let pair : PropKey × Complete = (k, property) in pair) (sym (key_in_use slots order place inside))
                  ∙ sym (get_or-set_same (in_use slots order) place new no_entry there)
                  ∙ ap (entry_at (set (in_use slots order) place new)) (sym e)
            ]
          ])
        where
          other : (i : ℕ) → i < length order → i ≢ place → slice_index order i ≢ slot → entry_at written (slice_index order i) ≡ entry_at (set (in_use slots order) place (key_at (in_use slots order) place, property)) i
          other i l ne apart =
              get_or-set_other slots slot (slice_index order i) (key_at slots slot, property) no_entry apart
              ∙ sym (entry_in_use slots order i l)
              ∙ sym (get_or-set_other (in_use slots order) place i (key_at (in_use slots order) place, property) no_entry ne)
