use Rattle.std.proofs.Common.{ap, ◌∙◌}
use Rattle.object_heap.specs.Stands.{HeapView}
use Rattle.object_heap.proofs.Standing.{symbols-stand}
use Rattle.object_heap.proofs.heap.Heap.symbols_ref.Goals as goal

pub returns : goal.returns
returns c = λ w h. ap (λ (v : HeapView). v.symbols) c.self.view_is ∙ symbols-stand _ w h
