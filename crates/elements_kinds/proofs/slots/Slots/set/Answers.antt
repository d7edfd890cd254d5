use Rattle.std.proofs.Common.{Some, map, set, ap, ◌∙◌}
use Rattle.std.proofs.lemmas.List.{map-set}
use Rattle.elements_kinds.specs.Properties.{Held}
use Rattle.elements_kinds.specs.Words.{decoded}
use Rattle.elements_kinds.proofs.slots.Slots.set.Goals as goal

pub returns-clause-values : goal.returns-clause-values
returns-clause-values g c =
    ap (map (decoded c.self.inside.class)) c.set.ensures.words
    ∙ map-set (decoded c.self.inside.class) c.self.inside.block c.args.i c.encode-word.result
    ∙ ap (set (map (decoded c.self.inside.class) c.self.inside.block) c.args.i) c.encode-word.ensures
    ∙ ap (λ (h : Held). set h.values c.args.i (Some c.args.value)) c.self.view_is
