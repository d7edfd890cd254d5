use Rattle.std.proofs.Common.{◌≡◌, ◌<◌, ◌≤◌, Bool, true, false, None, is_some, length, get_or, sym, ap, ◌∙◌, arith, not}
use Rattle.property_keys.specs.Counts.{counted}
use Rattle.slot_storage.specs.Steps.{counted_times}
use Rattle.elements_kinds.specs.Rules.{removed}
use Rattle.elements_kinds.specs.Sound.{IsSoundStore}
use Rattle.elements_kinds.specs.Steps.{steps_down, steps_to_remove}
use Rattle.elements_kinds.proofs.Steps.{in_turn, twice_counted}
use Rattle.elements_kinds.proofs.Stores.{store_view, view-past, view-absent, view-last, view-inner, sound-last, steps-absent, steps-last, steps-inner}
use Rattle.elements_kinds.proofs.store.Store.remove.Goals as goal

pub returns-then-place-len-clause-view : goal.returns-then-place-len-clause-view
returns-then-place-len-clause-view g c =
    let s = c.self.inside in
    let past : length s.slots.values ≤ c.args.i = omega arith in
    sym c.self.view_is ∙ view-past s.slots.values s.end c.self.invariant s.slots.class s.holey c.args.i past ∙ ap (λ v. removed v c.args.i) c.self.view_is

absent : (o : Bool) (b : Bool) → o ≡ not b → b ≡ true → o ≡ false
absent o true e f = e
absent o false e f = cc

present : (o : Bool) (b : Bool) → o ≡ not b → b ≡ false → o ≡ true
present o true e f = cc
present o false e f = e

pub returns-then-is_none-clause-view : goal.returns-then-is_none-clause-view
returns-then-is_none-clause-view g c =
    let s = c.self.inside in
    let none : is_some (get_or s.slots.values c.args.i None) ≡ false = ap is_some (sym c.get.ensures.value) ∙ absent (is_some c.get.result) c.is_none.result c.is_none.ensures c.if-is_none.true in
    sym c.self.view_is ∙ view-absent s.slots.values s.end c.self.invariant s.slots.class s.holey c.args.i none ∙ ap (λ v. removed v c.args.i) c.self.view_is

pub returns-then-is_none-clause-steps : goal.returns-then-is_none-clause-steps
returns-then-is_none-clause-steps g c =
    let s = c.self.inside in
    let none : is_some (get_or s.slots.values c.args.i None) ≡ false = ap is_some (sym c.get.ensures.value) ∙ absent (is_some c.get.result) c.is_none.result c.is_none.ensures c.if-is_none.true in
    let inside : c.args.i < length s.slots.values = omega arith in
    c.get.ensures.steps
    ∙ ap (λ n. counted_times n (g.L.Ledger.ticks c.args.steps.now))
    (sym (steps-absent s.slots.values s.end c.self.invariant s.slots.class s.holey c.args.i inside none) ∙ ap (λ v. steps_to_remove v c.args.i) c.self.view_is)

pub returns-then-place-self-clause-view : goal.returns-then-place-self-clause-view
returns-then-place-self-clause-view g c =
    let s = c.self.inside in
    let some : is_some (get_or s.slots.values c.args.i None) ≡ true = ap is_some (sym c.get.ensures.value) ∙ present (is_some c.get.result) c.is_none.result c.is_none.ensures c.if-is_none.false in
    let inside : c.args.i < length s.slots.values = omega arith in
    ap (λ k. store_view c.clear.new.self.values k s.holey) c.clear.ensures.class
    ∙ view-last s.slots.values s.end c.self.invariant c.clear.new.self.values c.args.i c.clear.ensures.values inside some s.slots.class s.holey c.if-place-self.true
    ∙ ap (λ v. removed v c.args.i) c.self.view_is

pub returns-then-place-self-clause-steps : goal.returns-then-place-self-clause-steps
returns-then-place-self-clause-steps g c =
    let s = c.self.inside in
    let down = c.end_below-self-inside.ensures in
    let some : is_some (get_or s.slots.values c.args.i None) ≡ true = ap is_some (sym c.get.ensures.value) ∙ present (is_some c.get.result) c.is_none.result c.is_none.ensures c.if-is_none.false in
    let inside : c.args.i < length s.slots.values = omega arith in
    let below : IsSoundStore c.clear.new.self.values c.end_below-self-inside.result =
    sound-last s.slots.values s.end c.self.invariant c.clear.new.self.values c.args.i c.clear.ensures.values inside some c.end_below-self-inside.result c.if-place-self.true down.within down.holes down.last in
    down.steps ∙ ap (counted_times (steps_down c.args.i c.end_below-self-inside.result)) (c.clear.ensures.steps ∙ ap counted c.get.ensures.steps)
    ∙ twice_counted (steps_down c.args.i c.end_below-self-inside.result) (g.L.Ledger.ticks c.args.steps.now)
    ∙ ap (λ n. counted_times n (g.L.Ledger.ticks c.args.steps.now))
    (sym (steps-last s.slots.values s.end c.self.invariant c.clear.new.self.values c.args.i c.clear.ensures.values inside some s.slots.class s.holey c.end_below-self-inside.result c.if-place-self.true below)
    ∙ ap (λ v. steps_to_remove v c.args.i) c.self.view_is)

pub returns-clause-view : goal.returns-clause-view
returns-clause-view g c =
    let s = c.self.inside in
    let some : is_some (get_or s.slots.values c.args.i None) ≡ true = ap is_some (sym c.get.ensures.value) ∙ present (is_some c.get.result) c.is_none.result c.is_none.ensures c.if-is_none.false in
    let inside : c.args.i < length s.slots.values = omega arith in
    ap (λ k. store_view c.clear.new.self.values k true) c.clear.ensures.class
    ∙ view-inner s.slots.values s.end c.self.invariant c.clear.new.self.values c.args.i c.clear.ensures.values inside some s.slots.class s.holey c.if-place-self.false
    ∙ ap (λ v. removed v c.args.i) c.self.view_is

pub returns-clause-steps : goal.returns-clause-steps
returns-clause-steps g c =
    let s = c.self.inside in
    let some : is_some (get_or s.slots.values c.args.i None) ≡ true = ap is_some (sym c.get.ensures.value) ∙ present (is_some c.get.result) c.is_none.result c.is_none.ensures c.if-is_none.false in
    let inside : c.args.i < length s.slots.values = omega arith in
    c.clear.ensures.steps ∙ ap counted c.get.ensures.steps ∙ in_turn 1 1 (g.L.Ledger.ticks c.args.steps.now)
    ∙ ap (λ n. counted_times n (g.L.Ledger.ticks c.args.steps.now))
    (sym (steps-inner s.slots.values s.end c.self.invariant s.slots.class s.holey c.args.i inside some c.if-place-self.false) ∙ ap (λ v. steps_to_remove v c.args.i) c.self.view_is)
