use Rattle.object_heap.specs.Stands.{goes_printed}
use Rattle.heap_callers.proofs.prints_change_no_heap.Goals as goal

pub returns : goal.returns
returns c = goes_printed
