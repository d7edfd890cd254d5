use Rattle.object_heap.proofs.Change.{goes-accessed}
use Rattle.object_heap.proofs.heap.Heap.touch.Goals as goal

pub returns-clause-ok : goal.returns-clause-ok
returns-clause-ok g c = λ w site way key h. goes-accessed c.args.self.now w site way c.args.object key h
