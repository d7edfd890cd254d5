use Rattle.std.proofs.Common.{None, map, set, ap, ◌∙◌}
use Rattle.std.proofs.lemmas.List.{map-set}
use Rattle.elements_kinds.specs.Properties.{Held}
use Rattle.elements_kinds.specs.Words.{decoded}
use Rattle.elements_kinds.proofs.Holes.{decoded-hole}
use Rattle.elements_kinds.proofs.slots.Slots.clear.Goals as goal

pub returns-clause-values : goal.returns-clause-values
returns-clause-values g c =
    ap (map (decoded c.self.inside.class)) c.set.ensures.words
    ∙ map-set (decoded c.self.inside.class) c.self.inside.block c.args.i c.hole-word.result
    ∙ ap (set (map (decoded c.self.inside.class) c.self.inside.block) c.args.i) (ap (decoded c.self.inside.class) c.hole-word.ensures ∙ decoded-hole c.self.inside.class)
    ∙ ap (λ (h : Held). set h.values c.args.i None) c.self.view_is
