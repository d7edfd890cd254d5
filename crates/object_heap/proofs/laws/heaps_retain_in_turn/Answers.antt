use Rattle.object_heap.proofs.Retaining.{retains_none, retains_then}
use Rattle.object_heap.proofs.laws.heaps_retain_in_turn.Goals as goal

pub returns : goal.returns
returns c = (retains_none, retains_then)
