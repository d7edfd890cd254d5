use Rattle.std.proofs.Common.{◌≡◌, ◌+◌, ◌-◌, sym, ap, ◌∙◌, arith}
use Rattle.elements_kinds.specs.Properties.{properties_of}
use Rattle.elements_kinds.specs.Rules.{View, end_of, greatest_of}
use Rattle.elements_kinds.proofs.FiniteMaps.{greatest_is, greatest_none}
use Rattle.elements_kinds.proofs.Listed.{end_sound}
use Rattle.elements_kinds.proofs.store.Store.greatest.Goals as goal

pub returns-then-self-eq0 : goal.returns-then-self-eq0
returns-then-self-eq0 c =
    let vs = c.self.inside.slots.values in
    let none : end_of (properties_of vs) ≡ 0 = end_sound vs c.self.inside.end c.self.invariant ∙ c.if-self-eq0.true in
    sym (greatest_none (properties_of vs) none) ∙ ap (λ (v : View). greatest_of v.properties) c.self.view_is

pub returns : goal.returns
returns c =
    let vs = c.self.inside.slots.values in
    let e : end_of (properties_of vs) ≡ c.self.inside.end = end_sound vs c.self.inside.end c.self.invariant in
    let last : end_of (properties_of vs) ≡ (c.self.inside.end - 1) + 1 = omega arith in
    sym (greatest_is (properties_of vs) (c.self.inside.end - 1) last) ∙ ap (λ (v : View). greatest_of v.properties) c.self.view_is
