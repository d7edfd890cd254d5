use Rattle.std.proofs.Common.{◌≤◌, None, Some, length, sym, ap, ◌∙◌, arith, option_map}
use Rattle.std.proofs.lemmas.List.{get_or_past}
use Rattle.std.specs.FinMap as map_of
use Rattle.elements_kinds.specs.Properties.{plain}
use Rattle.elements_kinds.specs.Rules.{View}
use Rattle.elements_kinds.proofs.Listed.{get-listed}
use Rattle.elements_kinds.proofs.store.Store.own.Goals as goal

pub returns-then-i-len-clause-property : goal.returns-then-i-len-clause-property
returns-then-i-len-clause-property g c =
    let past : length c.self.inside.slots.values ≤ c.args.i = omega arith in
    sym (get-listed c.self.inside.slots.values c.args.i ∙ ap (option_map plain) (get_or_past c.self.inside.slots.values c.args.i None past))
    ∙ ap (λ (v : View). map_of.get v.properties c.args.i) c.self.view_is

pub returns-in-Some-clause-property : goal.returns-in-Some-clause-property
returns-in-Some-clause-property g c =
    ap Some c.plain.ensures ∙ ap (option_map plain) (sym c.in-Some.is ∙ c.get.ensures.value) ∙ sym (get-listed c.self.inside.slots.values c.args.i)
    ∙ ap (λ (v : View). map_of.get v.properties c.args.i) c.self.view_is

pub returns-in-None-clause-property : goal.returns-in-None-clause-property
returns-in-None-clause-property g c =
    ap (option_map plain) (sym c.in-None.is ∙ c.get.ensures.value) ∙ sym (get-listed c.self.inside.slots.values c.args.i)
    ∙ ap (λ (v : View). map_of.get v.properties c.args.i) c.self.view_is
