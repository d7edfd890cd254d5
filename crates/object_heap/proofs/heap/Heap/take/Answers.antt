use Rattle.object_heap.specs.Seen.{put_seen, seen_at, seen_removed}
use Rattle.object_heap.proofs.Change.{goes-removed}
use Rattle.object_heap.proofs.Retaining.{retains-removed}
use Rattle.object_heap.proofs.Views.{by_objects}
use Rattle.object_heap.proofs.heap.Heap.take.Goals as goal

pub returns-clause-ok : goal.returns-clause-ok
returns-clause-ok c = goes-removed _ _ c.args.object c.args.key (by_objects (λ ss. put_seen ss c.args.object (seen_removed (seen_at ss c.args.object) c.args.key)) c.self.view_is c.remove.ensures)

pub returns-clause-retains : goal.returns-clause-retains
returns-clause-retains c = retains-removed _ _ c.args.object c.args.key (by_objects (λ ss. put_seen ss c.args.object (seen_removed (seen_at ss c.args.object) c.args.key)) c.self.view_is c.remove.ensures)
