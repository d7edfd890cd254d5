use Rattle.std.proofs.Common.{◌≡◌, ◌≤◌, ◌+◌, ◌++◌, ◌∷◌, [], ℕ, cond, List, Option, Some, length, length-append, subst, sym, ◌∙◌, ap, arith}
use Rattle.std.specs.Map.{lookup}
use Rattle.std.proofs.lemmas.List.{map-append}
use Rattle.std.proofs.Math.Seq.{get_or-append_seam}
use Rattle.property_keys.specs.declared.keys.PropKey.{PropKey}
use Rattle.descriptors.specs.declared.property.Complete.{Complete}
use Rattle.indexmap.specs.IndexMap.{get}
use Rattle.dictionary_mode.proofs.Slots.{Slots, key_eq, eq_itself, sound_same, sound_pushed, sound_indexed, sound_listed, in_use-pushed}
use Rattle.dictionary_mode.specs.Entries.{LacksKey, key_at, entry_at, no_entry}
use Rattle.dictionary_mode.specs.Places.{IsSoundDictionary, in_use}
use Rattle.dictionary_mode.proofs.dictionary.Dictionary.append.Goals as goal

-- the slots, the index and the order before, with one more entry: what each of the three calls left
module _ (index : PropKey → Option ℕ) (slots : Slots) (order : List ℕ) (most : ℕ) (sound : IsSoundDictionary index slots order most) (key : PropKey) (property : Complete) (room : length slots + 1 ≤ most) where
  abbrev pushed : Slots
  pushed = slots ++ (key, property) ∷ []

  abbrev slot : ℕ
  slot = length slots

  slot_key : key_at pushed slot ≡ key
  slot_key = ap (λ (e : PropKey × Complete). e.0) (get_or-append_seam slots (key, property) [] no_entry)

  still_sound : (now : PropKey → Option ℕ) → LacksKey (in_use slots order) key → ((q : PropKey) → now q ≡ cond (key_eq key q) (Some slot) (index q)) → IsSoundDictionary now pushed order most
  still_sound now lacks update =
      sound_indexed index pushed order most (sound_pushed index slots order most sound (key, property) room) key slot now
      (subst (λ es. LacksKey es key) (sym (in_use-pushed index slots order most sound (key, property))) lacks)
      (omega (arith, length-append slots ((key, property) ∷ []))) slot_key update

  entered : (now : PropKey → Option ℕ) → LacksKey (in_use slots order) key → ((q : PropKey) → now q ≡ cond (key_eq key q) (Some slot) (index q)) → IsSoundDictionary now pushed (order ++ slot ∷ []) most
  entered now lacks update =
      sound_listed now pushed order most (still_sound now lacks update) slot sound.within
      (omega (arith, length-append slots ((key, property) ∷ []))) (omega (arith, length-append slots ((key, property) ∷ []), sound.fits))
      (ap now slot_key ∙ update key ∙ ap (λ b. cond b (Some slot) (index key)) (eq_itself key))

  in_use-entered : in_use pushed (order ++ slot ∷ []) ≡ in_use slots order ++ (key, property) ∷ []
  in_use-entered =
      map-append (entry_at pushed) order (slot ∷ [])
      ∙ (λ t. in_use-pushed index slots order most sound (key, property) t ++ get_or-append_seam slots (key, property) [] no_entry t ∷ [])

pub invariant_of-self : goal.invariant_of-self
invariant_of-self c =
    let P : Slots → Type 0 = λ xs. IsSoundDictionary (λ key. get key_eq c.self.inside.index key) xs c.self.inside.order.list c.self.inside.order.room in
    subst P (sym c.in_default.ensures.items) c.self.invariant

pub invariant_of-self-in_default-insert : goal.invariant_of-self-in_default-insert
invariant_of-self-in_default-insert c =
    let P : Slots → Type 0 = λ xs. IsSoundDictionary (λ key. get key_eq c.insert.new.self key) xs c.self.inside.order.list c.self.inside.order.room in
    let same : (q : PropKey) → get key_eq c.insert.new.self q ≡ get key_eq c.self.inside.index q = λ q. ap (lookup (key_eq q)) c.in_default-insert.ensures.err in
    subst P (sym c.in-Ok.ensures.items)
    (sound_same (λ key. get key_eq c.self.inside.index key) (λ key. get key_eq c.insert.new.self key) _ _ _ same (sound_pushed _ _ _ _ c.self.invariant (c.args.key, c.args.property) (omega arith)))

pub returns-in_default-insert-clause-err : goal.returns-in_default-insert-clause-err
returns-in_default-insert-clause-err c =
    ap (λ xs. in_use xs c.self.inside.order.list) c.in-Ok.ensures.items ∙ in_use-pushed _ _ _ _ c.self.invariant (c.args.key, c.args.property) ∙ c.self.view_is

pub invariant_of-self-2 : goal.invariant_of-self-2
invariant_of-self-2 c =
    let P : Slots → List ℕ → ℕ → Type 0 = λ xs o m. IsSoundDictionary (λ key. get key_eq c.insert.new.self key) xs o m in
    let l : LacksKey (in_use c.self.inside.slots.items c.self.inside.order.list) c.args.key = subst (λ es. LacksKey es c.args.key) (sym c.self.view_is) c.requires in
    let n : c.len-slot.result ≡ length c.self.inside.slots.items = omega arith in
    let u : (q : PropKey) → get key_eq c.insert.new.self q ≡ cond (key_eq c.args.key q) (Some (length c.self.inside.slots.items)) (get key_eq c.self.inside.index q) =
    λ q. c.in-Ok-insert.ensures.updates.0 q ∙ ap (λ k. cond (key_eq c.args.key q) (Some k) (get key_eq c.self.inside.index q)) n in
    subst (λ m. P c.push.new.self.items c.put_last.new.self.list m) (sym c.put_last.ensures.room)
    (subst (λ o. P c.push.new.self.items o c.self.inside.order.room) (sym (c.put_last.ensures.list ∙ ap (λ k. c.self.inside.order.list ++ k ∷ []) n))
    (subst (λ xs. P xs (c.self.inside.order.list ++ length c.self.inside.slots.items ∷ []) c.self.inside.order.room) (sym c.in-Ok.ensures.items)
    (entered _ _ _ _ c.self.invariant c.args.key c.args.property (omega arith) (λ key. get key_eq c.insert.new.self key) l u)))

pub returns-clause-ok : goal.returns-clause-ok
returns-clause-ok c =
    let n : c.len-slot.result ≡ length c.self.inside.slots.items = omega arith in
    (λ t. in_use (c.in-Ok.ensures.items t) ((c.put_last.ensures.list ∙ ap (λ k. c.self.inside.order.list ++ k ∷ []) n) t))
    ∙ in_use-entered _ _ _ _ c.self.invariant c.args.key c.args.property (omega arith)
    ∙ ap (λ es. es ++ (c.args.key, c.args.property) ∷ []) c.self.view_is
