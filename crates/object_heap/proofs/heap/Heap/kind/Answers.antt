use Rattle.std.proofs.Common.{ap, ◌∙◌}
use Rattle.object_heap.specs.Stands.{HeapView}
use Rattle.object_heap.specs.Seen.{seen_at}
use Rattle.object_heap.proofs.Standing.{kind-stands}
use Rattle.object_heap.proofs.heap.Heap.kind.Goals as goal

pub returns : goal.returns
returns c = λ w h. c.kind.ensures ∙ ap (λ (v : HeapView). (seen_at v.objects c.args.object).kind) c.self.view_is ∙ kind-stands _ w c.args.object h
