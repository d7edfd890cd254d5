use Rattle.std.proofs.Common.{◌++◌, sym, ap, ◌∙◌, append-nil}
use Rattle.elements_kinds.proofs.Trees.{keys-in}
use Rattle.elements_kinds.proofs.maps.indices_in.Goals as goal

pub returns : goal.returns
returns c =
    sym (append-nil c.loop-index.list) ∙ ap (λ is. c.loop-index.list ++ is) (sym c.in-None.ensures.steps.0) ∙ c.loop-index.invariant
    ∙ sym (keys-in c.args.map.now c.keys-index-items.ensures.ordered)
