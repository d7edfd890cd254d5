use Rattle.std.proofs.Common.{ap, ◌∙◌}
use Rattle.object_heap.specs.Stands.{HeapView}
use Rattle.object_heap.specs.Seen.{seen_at}
use Rattle.object_heap.proofs.Standing.{proto-stands}
use Rattle.object_heap.proofs.heap.Heap.proto.Goals as goal

pub returns : goal.returns
returns c = λ w h. c.proto.ensures ∙ ap (λ (v : HeapView). (seen_at v.objects c.args.object).proto) c.self.view_is ∙ proto-stands _ w c.args.object h
