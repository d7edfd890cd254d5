use Rattle.std.proofs.Common.{refl, false}
use Rattle.object_heap.specs.Seen.{put_seen, seen_at}
use Rattle.object_heap.proofs.Change.{goes-closed}
use Rattle.object_heap.proofs.Retaining.{retains-put}
use Rattle.object_heap.proofs.Views.{by_objects}
use Rattle.object_heap.proofs.heap.Heap.close.Goals as goal

pub returns-clause-ok : goal.returns-clause-ok
returns-clause-ok c = goes-closed _ _ c.args.object (by_objects (λ ss. put_seen ss c.args.object (record (seen_at ss c.args.object) { extensible = false })) c.self.view_is c.close.ensures)

pub returns-clause-retains : goal.returns-clause-retains
returns-clause-retains c = retains-put c.args.self.now _ c.args.object (record (seen_at (c.args.self.now).objects c.args.object) { extensible = false }) refl (by_objects (λ ss. put_seen ss c.args.object (record (seen_at ss c.args.object) { extensible = false })) c.self.view_is c.close.ensures)
