use Rattle.std.proofs.Common.{ap, sym, ◌∙◌}
use Rattle.object_heap.specs.Origins.{origin_place}
use Rattle.object_heap.proofs.OriginNumbers.{found-place, none-found}
use Rattle.object_heap.proofs.origins.Origins.place_of.Goals as goal

pub returns-in-Some : goal.returns-in-Some
returns-in-Some c =
    found-place c.self.inside.kinds.keys c.args.kind c.in-Some.place (sym c.in-Some.ensures.index) ∙ ap (λ ks. origin_place ks c.args.kind) c.self.view_is

pub returns-in-None : goal.returns-in-None
returns-in-None c =
    c.len.ensures.len ∙ none-found c.self.inside.kinds.keys c.args.kind (sym c.in-None.ensures.found) ∙ ap (λ ks. origin_place ks c.args.kind) c.self.view_is
