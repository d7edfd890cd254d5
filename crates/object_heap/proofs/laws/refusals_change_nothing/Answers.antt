use Rattle.object_heap.proofs.Refusals.{defined-refused, deleted-refused}
use Rattle.object_heap.proofs.laws.refusals_change_nothing.Goals as goal

pub returns : goal.returns
returns c = (defined-refused, deleted-refused)
