use Rattle.std.proofs.Common.{sym, ◌∙◌}
use Rattle.elements_kinds.proofs.Trees.{get-in}
use Rattle.elements_kinds.proofs.maps.property_at.Goals as goal

pub returns : goal.returns
returns c = c.copied.ensures ∙ c.get.ensures.value ∙ sym (get-in c.args.map.now c.args.index)
