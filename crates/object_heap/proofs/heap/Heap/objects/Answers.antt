use Rattle.std.proofs.Common.{ap, ◌∙◌, length}
use Rattle.object_heap.specs.Stands.{HeapView}
use Rattle.object_heap.proofs.Standing.{count-stands}
use Rattle.object_heap.proofs.heap.Heap.objects.Goals as goal

pub returns : goal.returns
returns c = λ w h. c.count.ensures ∙ ap (λ (v : HeapView). length v.objects) c.self.view_is ∙ count-stands _ w h
