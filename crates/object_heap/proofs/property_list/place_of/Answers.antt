use Rattle.object_heap.proofs.KeyPlaces.{find-none}
use Rattle.std.proofs.Common.{arith}
use Rattle.object_heap.proofs.property_list.place_of.Goals as goal

pub returns : goal.returns
returns c = find-none c.args.properties.now c.args.key (λ j b. c.loop-i.invariant j (omega arith))
