use Rattle.std.proofs.Common.{refl}
use Rattle.object_heap.specs.Origins.{origin_at}
use Rattle.object_heap.proofs.Change.{goes-constructed}
use Rattle.object_heap.proofs.Retaining.{retains_none}
use Rattle.object_heap.proofs.heap.Heap.constructed.Goals as goal

pub returns-clause-goes : goal.returns-clause-goes
returns-clause-goes c = goes-constructed _ _ (origin_at c.args.self.now c.args.origin) refl

pub returns-clause-retains : goal.returns-clause-retains
returns-clause-retains c = retains_none _
