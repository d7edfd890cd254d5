use Rattle.std.proofs.Common.{ℕ, List, refl, subst, sym, ◌∙◌, ap}
use Rattle.std.specs.Prelude.{remove}
use Rattle.indexmap.specs.IndexMap.{get}
use Rattle.dictionary_mode.specs.Entries.{IsPlaceOf, LacksKey}
use Rattle.dictionary_mode.specs.Places.{IsSoundDictionary, in_use}
use Rattle.dictionary_mode.proofs.Slots.{key_eq, found, lacks_from_index, lacks_from_order, sound_removed, in_use-removed}
use Rattle.dictionary_mode.proofs.dictionary.Dictionary.remove.Goals as goal

pub returns-then-not-contains : goal.returns-then-not-contains
returns-then-not-contains c = (
  subst (λ es. LacksKey es c.args.key) c.self.view_is
      (lacks_from_order _ _ _ _ c.self.invariant c.args.key c.in-Some.slot (sym (c.in-Some.ensures ∙ c.get.ensures.value)) c.if-not-contains.ensures),
  refl,
)

pub invariant_of-self : goal.invariant_of-self
invariant_of-self c =
    let t = c.take_out.ensures.list in
    let P : List ℕ → ℕ → Type 0 = λ o m. IsSoundDictionary (λ key. get key_eq c.self.inside.index key) c.self.inside.slots.items o m in
    subst (λ m. P c.take_out.new.self.list m) (sym c.take_out.ensures.room)
    (subst (λ o. P o c.self.inside.order.room) (sym t.rest) (sound_removed _ _ _ _ c.self.invariant t.place t.within))

pub returns-else-not-contains : goal.returns-else-not-contains
returns-else-not-contains c =
    let t = c.take_out.ensures.list in (
      t.place,
      subst (λ es. IsPlaceOf es c.args.key t.place) c.self.view_is
          (found _ _ _ _ c.self.invariant c.args.key c.in-Some.slot t.place (sym (c.in-Some.ensures ∙ c.get.ensures.value)) t.within t.is),
      ap (in_use c.self.inside.slots.items) t.rest ∙ in_use-removed _ _ _ _ c.self.invariant t.place t.within ∙ ap (λ es. remove es t.place) c.self.view_is,
    )

pub returns-in-None : goal.returns-in-None
returns-in-None c = (
  subst (λ es. LacksKey es c.args.key) c.self.view_is (lacks_from_index _ _ _ _ c.self.invariant c.args.key (sym (c.in-None.ensures ∙ c.get.ensures.value))),
  refl,
)
