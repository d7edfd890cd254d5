-- Lemmas on the lists of cells, one for each object.
use Rattle.std.proofs.Common.{◌≡◌, ◌≢◌, ◌<◌, ◌+◌, ℕ, Bool, true, false, cond, Some, None, refl, sym, ap, ◌∙◌, arith, true≢false, inl, inr}
use Rattle.std.specs.Prelude.{unwrap_or, nat_eq, ◌&&◌}
use Rattle.std.specs.Cmp.{unsigned_Decides}
use Rattle.std.specs.HashMap.{get}
use Rattle.std.proofs.lemmas.Bool.{cases_Bool}
use Rattle.property_keys.specs.declared.identifiers.ObjectId.{ObjectId}
use Rattle.property_keys.specs.contracts.identifiers.ObjectIdPartialEq.TheImpl.{eq-value as object_eq}
use Rattle.prototype_validity.specs.declared.registry.Registry.{Registry}
use Rattle.prototype_validity.specs.declared.registry.ListPlace.{ListPlace}
use Rattle.prototype_validity.specs.contracts.registry.ListPlacePartialEq.TheImpl.{eq-value as place_eq}
use Rattle.prototype_validity.specs.Registered.{count_of, cell_at, IsListed}

abbrev pub place_of : ObjectId → ℕ → ListPlace
place_of o n = record { object = o; number = n }

pub object_equal : (a b : ObjectId) → object_eq.it a b ≡ true → a ≡ b
object_equal a b e = ap (λ (n : ℕ). let x : ObjectId = record { 0 = n } in x) ((unsigned_Decides a.0 b.0).0 e)

pub object_itself : (a : ObjectId) → object_eq.it a a ≡ true
object_itself a = (unsigned_Decides a.0 a.0).1 refl

pub and_parts : (a b : Bool) → (a && b) ≡ true → (a ≡ true) × (b ≡ true)
and_parts true b e = (refl, e)
and_parts false b e = absurd (true≢false (sym e))

-- another number of the same list is another place
pub place_apart : (o o' : ObjectId) (n n' : ℕ) → n ≢ n' → place_eq.it (place_of o n) (place_of o' n') ≡ false
place_apart o o' n n' ne =
    elim (cases_Bool (place_eq.it (place_of o n) (place_of o' n'))) [
      | inl e ↦ absurd (ne ((unsigned_Decides n n').0 (and_parts (object_eq.it o o') (nat_eq n n') e).1))
      | inr e ↦ e
    ]

pub place_object_apart : (o o' : ObjectId) (n n' : ℕ) → object_eq.it o o' ≡ false → place_eq.it (place_of o n) (place_of o' n') ≡ false
place_object_apart o o' n n' ne = ap (λ b. b && nat_eq n n') ne

pub place_itself : (o : ObjectId) (n : ℕ) → place_eq.it (place_of o n) (place_of o n) ≡ true
place_itself o n = ap (λ b. b && nat_eq n n) (object_itself o) ∙ (unsigned_Decides n n).1 refl

module _ (old new : Registry) (object : ObjectId) (cell : ℕ) where
  -- the cell was written past the end of the list, and nothing else
  pub kept_by_write : ((q : ListPlace) → get place_eq.it new.cells q ≡ cond (place_eq.it (place_of object (count_of old object)) q) (Some cell) (get place_eq.it old.cells q))
      → ((o : ObjectId) → count_of new o ≡ count_of old o)
      → (o : ObjectId) (i : ℕ) → IsListed old o i → IsListed new o i
  kept_by_write write counts o i listed = record {
    number = listed.number;
    below = omega (arith, counts o, listed.below);
    stands =
        write (place_of o listed.number)
        ∙ ap (λ b. cond b (Some cell) (get place_eq.it old.cells (place_of o listed.number))) (elsewhere o listed.number listed.below)
        ∙ listed.stands;
  }
    where
      elsewhere : (o : ObjectId) (n : ℕ) → n < count_of old o → place_eq.it (place_of object (count_of old object)) (place_of o n) ≡ false
      elsewhere o n below =
          elim (cases_Bool (object_eq.it object o)) [
            | inl e ↦ let same : count_of old object ≡ count_of old o = ap (count_of old) (object_equal object o e) in place_apart object o (count_of old object) n (omega arith)
            | inr e ↦ place_object_apart object o (count_of old object) n e
          ]

-- the list of an object is longer
pub kept_by_count : (old new : Registry) (object : ObjectId) (count : ℕ) → count_of old object ≡ count
    → ((q : ObjectId) → get object_eq.it new.counts q ≡ cond (object_eq.it object q) (Some (count + 1)) (get object_eq.it old.counts q))
    → ((o : ObjectId) (n : ℕ) → cell_at new o n ≡ cell_at old o n)
    → (o : ObjectId) (i : ℕ) → IsListed old o i → IsListed new o i
kept_by_count old new object count was update cells o i listed = record {
  number = listed.number;
  below = elim (cases_Bool (object_eq.it object o)) [
    | inl e ↦
        let here : count_of new o ≡ count + 1 = ap (λ x. unwrap_or x 0) (update o ∙ ap (λ b. cond b (Some (count + 1)) (get object_eq.it old.counts o)) e) in
        let same : count_of old object ≡ count_of old o = ap (count_of old) (object_equal object o e) in
        omega (arith, listed.below)
    | inr e ↦
        let here : count_of new o ≡ count_of old o = ap (λ x. unwrap_or x 0) (update o ∙ ap (λ b. cond b (Some (count + 1)) (get object_eq.it old.counts o)) e) in
        omega (arith, listed.below)
  ];
  stands = cells o listed.number ∙ listed.stands;
}

-- the list of one object is emptied, and the others stay
pub kept_by_forget : (old new : Registry) (object : ObjectId)
    → ((q : ObjectId) → get object_eq.it new.counts q ≡ cond (object_eq.it object q) None (get object_eq.it old.counts q))
    → ((o : ObjectId) (n : ℕ) → cell_at new o n ≡ cell_at old o n)
    → (o : ObjectId) (i : ℕ) → o ≢ object → IsListed old o i → IsListed new o i
kept_by_forget old new object update cells o i apart listed = record {
  number = listed.number;
  below = elim (cases_Bool (object_eq.it object o)) [
    | inl e ↦ absurd (apart (sym (object_equal object o e)))
    | inr e ↦
        let here : count_of new o ≡ count_of old o = ap (λ x. unwrap_or x 0) (update o ∙ ap (λ b. cond b None (get object_eq.it old.counts o)) e) in
        omega (arith, listed.below)
  ];
  stands = cells o listed.number ∙ listed.stands;
}
