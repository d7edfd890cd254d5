use Rattle.elements_kinds.proofs.Trees.{in-remove}
use Rattle.elements_kinds.proofs.maps.take_out.Goals as goal

pub returns : goal.returns
returns c = in-remove c.args.map.now c.remove-property.new.self c.args.index c.remove-property.ensures.updates.0
