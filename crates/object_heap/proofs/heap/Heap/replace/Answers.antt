use Rattle.object_heap.specs.Seen.{put_seen, seen_at, seen_replaced}
use Rattle.object_heap.proofs.Change.{goes-replaced}
use Rattle.object_heap.proofs.Retaining.{retains-replaced}
use Rattle.object_heap.proofs.Views.{by_objects}
use Rattle.object_heap.proofs.heap.Heap.replace.Goals as goal

pub returns-clause-ok : goal.returns-clause-ok
returns-clause-ok c = goes-replaced _ _ c.args.object c.args.key c.args.before c.args.complete c.requires (by_objects (λ ss. put_seen ss c.args.object (seen_replaced (seen_at ss c.args.object) c.args.key c.args.complete)) c.self.view_is c.replace.ensures)

pub returns-clause-retains : goal.returns-clause-retains
returns-clause-retains c = retains-replaced _ _ c.args.object c.args.key c.args.complete (by_objects (λ ss. put_seen ss c.args.object (seen_replaced (seen_at ss c.args.object) c.args.key c.args.complete)) c.self.view_is c.replace.ensures)
