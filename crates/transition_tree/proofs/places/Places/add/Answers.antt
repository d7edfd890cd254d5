use Rattle.std.proofs.Common.{List, ap, subst, sym, ◌∙◌, ◌++◌, ◌∷◌, []}
use Rattle.transition_tree.specs.declared.edges.Edge.{Edge}
use Rattle.transition_tree.specs.Edges.{HasNoPlace}
use Rattle.transition_tree.proofs.Lookups.{appended}
use Rattle.transition_tree.proofs.places.Places.add.Goals as goal

pub returns-clause-ok : goal.returns-clause-ok
returns-clause-ok c =
    appended c.self.inside.edges.keys _ c.args.edge (subst (λ (es : List Edge). HasNoPlace es c.args.edge) (sym c.self.view_is) c.requires) c.in-Ok.ensures.keys
    ∙ ap (λ (es : List Edge). es ++ c.args.edge ∷ []) c.self.view_is
