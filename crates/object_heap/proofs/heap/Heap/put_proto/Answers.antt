use Rattle.std.proofs.Common.{refl}
use Rattle.object_heap.specs.Seen.{put_seen, seen_at}
use Rattle.object_heap.proofs.Change.{goes-proto}
use Rattle.object_heap.proofs.Retaining.{retains-put}
use Rattle.object_heap.proofs.Views.{by_objects}
use Rattle.object_heap.proofs.heap.Heap.put_proto.Goals as goal

pub returns-clause-ok : goal.returns-clause-ok
returns-clause-ok c = goes-proto _ _ c.args.object c.args.proto (by_objects (λ ss. put_seen ss c.args.object (record (seen_at ss c.args.object) { proto = c.args.proto })) c.self.view_is c.set_proto.ensures)

pub returns-clause-retains : goal.returns-clause-retains
returns-clause-retains c = retains-put c.args.self.now _ c.args.object (record (seen_at (c.args.self.now).objects c.args.object) { proto = c.args.proto }) refl (by_objects (λ ss. put_seen ss c.args.object (record (seen_at ss c.args.object) { proto = c.args.proto })) c.self.view_is c.set_proto.ensures)
