use Rattle.std.proofs.Common.{ap, ◌∙◌}
use Rattle.object_heap.specs.Origins.{origin_place, with_origin}
use Rattle.object_heap.specs.Stands.{HeapView, beside}
use Rattle.object_heap.proofs.Change.{goes-same}
use Rattle.object_heap.proofs.OriginNumbers.{number-is, origin-there}
use Rattle.object_heap.proofs.Retaining.{retains-origin, retains-same}
use Rattle.object_heap.proofs.Views.{by_origins}
use Rattle.object_heap.proofs.heap.Heap.origin_for.Goals as goal

pub returns-in_err-id-clause-retains : goal.returns-in_err-id-clause-retains
returns-in_err-id-clause-retains c = retains-same _ _ (by_origins (λ ks. ks) c.self.view_is c.in_err-id.ensures.err)

pub returns-clause-number : goal.returns-clause-number
returns-clause-number c = number-is c.args.self.now c.args.kind c.in_ok-id.id (c.in_ok-id.ensures.number ∙ ap (λ (v : HeapView). record { 0 = origin_place v.origins c.args.kind }) c.self.view_is)

pub returns-clause-kind : goal.returns-clause-kind
returns-clause-kind c = origin-there c.self.inside.origins c.number.new.self c.args.kind c.in_ok-id.id c.in_ok-id.ensures.number c.in_ok-id.ensures.ok

pub returns-clause-ok : goal.returns-clause-ok
returns-clause-ok c = λ w h places. goes-same _ _ (ap (λ (v : HeapView). v.objects) c.self.view_is) (ap beside c.self.view_is) w h

pub returns-clause-retains : goal.returns-clause-retains
returns-clause-retains c = retains-origin _ _ c.args.kind (by_origins (λ ks. with_origin ks c.args.kind) c.self.view_is c.in_ok-id.ensures.ok)
