use Rattle.object_heap.proofs.Retaining.{retains_none}
use Rattle.object_heap.proofs.heap.Heap.word.Goals as goal

pub returns-in_err-units-clause-retains : goal.returns-in_err-units-clause-retains
returns-in_err-units-clause-retains c = retains_none _
