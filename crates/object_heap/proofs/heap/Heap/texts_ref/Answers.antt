use Rattle.std.proofs.Common.{ap, ◌∙◌}
use Rattle.object_heap.specs.Stands.{HeapView}
use Rattle.object_heap.proofs.Standing.{texts-stand}
use Rattle.object_heap.proofs.heap.Heap.texts_ref.Goals as goal

pub returns : goal.returns
returns c = λ w h. ap (λ (v : HeapView). v.texts) c.self.view_is ∙ texts-stand _ w h
