use Rattle.std.proofs.Common.{ap, ◌∙◌}
use Rattle.object_heap.specs.Stands.{HeapView}
use Rattle.object_heap.proofs.Standing.{turns-stand}
use Rattle.object_heap.proofs.heap.Heap.turns_ref.Goals as goal

pub returns : goal.returns
returns c = λ w h. ap (λ (v : HeapView). v.turns) c.self.view_is ∙ turns-stand _ w h
