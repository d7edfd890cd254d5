use Rattle.std.proofs.Common.{◌&&◌, ap, length, ◌∙◌}
use Rattle.std.specs.Prelude.{nat_lt, not}
use Rattle.es_model.specs.Changes.{same_proto}
use Rattle.es_model.specs.Objects.{is_proxy}
use Rattle.object_heap.specs.Seen.{seen_at}
use Rattle.object_heap.specs.Stands.{HeapView}
use Rattle.object_heap.proofs.Standing.{seen-stands, count-stands}
use Rattle.object_heap.proofs.heap.Heap.is_other_proto.Goals as goal

pub returns : goal.returns
returns c = λ w h.
    let o = c.args.object in
    c.is_other_proto.ensures
    ∙ ap (λ (v : HeapView). nat_lt o.0 (length v.objects) && not (is_proxy (seen_at v.objects o).kind) && not (same_proto (seen_at v.objects o).proto c.args.proto)) c.self.view_is
    ∙ (λ t. let s = seen-stands _ w o h t in nat_lt o.0 (count-stands _ w h t) && not (is_proxy s.kind) && not (same_proto s.proto c.args.proto))
