use Rattle.object_heap.specs.Seen.{put_seen, seen_at}
use Rattle.object_heap.proofs.Change.{goes-revoked}
use Rattle.object_heap.proofs.Retaining.{retains-put}
use Rattle.object_heap.proofs.Views.{by_objects}
use Rattle.es_model.specs.Objects.{revoked_kind}
use Rattle.es_model.proofs.Growing.{fixed-revoked}
use Rattle.object_heap.proofs.heap.Heap.revoke.Goals as goal

pub returns-clause-goes : goal.returns-clause-goes
returns-clause-goes c = goes-revoked _ _ c.args.object (by_objects (λ ss. put_seen ss c.args.object (record (seen_at ss c.args.object) { kind = revoked_kind (seen_at ss c.args.object).kind })) c.self.view_is c.revoke.ensures)

pub returns-clause-retains : goal.returns-clause-retains
returns-clause-retains c = retains-put c.args.self.now _ c.args.object (record (seen_at (c.args.self.now).objects c.args.object) { kind = revoked_kind (seen_at (c.args.self.now).objects c.args.object).kind }) (fixed-revoked (seen_at (c.args.self.now).objects c.args.object).kind) (by_objects (λ ss. put_seen ss c.args.object (record (seen_at ss c.args.object) { kind = revoked_kind (seen_at ss c.args.object).kind })) c.self.view_is c.revoke.ensures)
