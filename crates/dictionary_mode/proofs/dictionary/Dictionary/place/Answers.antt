use Rattle.std.proofs.Common.{rules, refl, subst, sym, true≢false}
use Rattle.dictionary_mode.proofs.Slots.{one_each, found, lacks_from_index, lacks_from_order}
use Rattle.dictionary_mode.specs.Entries.{HasOneEach, IsPlaceOf, LacksKey}
use Rattle.dictionary_mode.proofs.dictionary.Dictionary.place.Goals as goal

pub returns-then-not-contains-clause-none : goal.returns-then-not-contains-clause-none
returns-then-not-contains-clause-none c = (
  λ e. subst (λ es. LacksKey es c.args.key) c.self.view_is (lacks_from_order _ _ _ _ c.self.invariant c.args.key c.in-Some.slot.now (sym c.in-Some.ensures.value) c.if-not-contains.ensures),
  λ lacks. refl,
)

pub returns-then-not-contains-clause-one : goal.returns-then-not-contains-clause-one
returns-then-not-contains-clause-one c = subst HasOneEach c.self.view_is (one_each _ _ _ _ c.self.invariant)

pub returns-else-not-contains-clause-found : goal.returns-else-not-contains-clause-found
returns-else-not-contains-clause-found c =
    subst (λ es. IsPlaceOf es c.args.key c.place.result) c.self.view_is
    (found _ _ _ _ c.self.invariant c.args.key c.in-Some.slot.now c.place.result (sym c.in-Some.ensures.value) c.place.ensures.within c.place.ensures.place)

pub returns-else-not-contains-clause-none : goal.returns-else-not-contains-clause-none
returns-else-not-contains-clause-none c =
    let here : IsPlaceOf c.args.self.now c.args.key c.place.result =
    subst (λ es. IsPlaceOf es c.args.key c.place.result) c.self.view_is
    (found _ _ _ _ c.self.invariant c.args.key c.in-Some.slot.now c.place.result (sym c.in-Some.ensures.value) c.place.ensures.within c.place.ensures.place) in
    (λ e. absurd (true≢false e), λ lacks. absurd (lacks c.place.result here.known here.names))

pub returns-else-not-contains-clause-one : goal.returns-else-not-contains-clause-one
returns-else-not-contains-clause-one c = subst HasOneEach c.self.view_is (one_each _ _ _ _ c.self.invariant)

pub returns-in-None-clause-none : goal.returns-in-None-clause-none
returns-in-None-clause-none c =
    (λ e. subst (λ es. LacksKey es c.args.key) c.self.view_is (lacks_from_index _ _ _ _ c.self.invariant c.args.key (sym c.in-None.ensures.value)), λ lacks. search rules)

pub returns-in-None-clause-one : goal.returns-in-None-clause-one
returns-in-None-clause-one c = subst HasOneEach c.self.view_is (one_each _ _ _ _ c.self.invariant)
