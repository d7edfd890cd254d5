use Rattle.object_heap.specs.Seen.{put_seen, seen_at, seen_added}
use Rattle.object_heap.proofs.Change.{goes-added}
use Rattle.object_heap.proofs.Retaining.{retains-added, retains-same}
use Rattle.object_heap.proofs.Views.{by_objects}
use Rattle.object_heap.proofs.heap.Heap.add.Goals as goal

pub returns-clause-ok : goal.returns-clause-ok
returns-clause-ok c = goes-added _ _ c.args.object c.args.key c.args.complete c.requires (by_objects (λ ss. put_seen ss c.args.object (seen_added (seen_at ss c.args.object) c.args.key c.args.complete)) c.self.view_is c.in_ok-add.ensures.ok)

pub returns-clause-retains : goal.returns-clause-retains
returns-clause-retains c = retains-added _ _ c.args.object c.args.key c.args.complete (by_objects (λ ss. put_seen ss c.args.object (seen_added (seen_at ss c.args.object) c.args.key c.args.complete)) c.self.view_is c.in_ok-add.ensures.ok)

pub returns-in_err-add-clause-retains : goal.returns-in_err-add-clause-retains
returns-in_err-add-clause-retains c = retains-same _ _ (by_objects (λ ss. ss) c.self.view_is c.in_err-add.ensures.err)
