use Rattle.std.proofs.Common.{ap, ◌∙◌}
use Rattle.map_store.specs.Views.{marked_dead}
use Rattle.map_store.proofs.Changes.{dead-is, known-row}
use Rattle.map_store.proofs.Kept.{keeps_dead}
use Rattle.map_store.proofs.maps.Maps.mark_dead.Goals as goal

pub returns-clause-dead : goal.returns-clause-dead
returns-clause-dead c =
    dead-is _ c.self.inside.maps.items c.args.map c.index_mut.result.now (known-row _ _ _ _ c.self.view_is c.requires) c.index_mut.ensures.value
    ∙ ap (λ ms. marked_dead ms c.args.map) c.self.view_is

pub returns-clause-entries : goal.returns-clause-entries
returns-clause-entries c = keeps_dead _ _ c.args.map (returns-clause-dead c)
