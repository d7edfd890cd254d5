use Rattle.std.proofs.Common.{ap, ◌∙◌, slice_get}
use Rattle.es_model.specs.World.{cell_in}
use Rattle.object_heap.specs.Stands.{HeapView}
use Rattle.object_heap.proofs.Standing.{cells-stand}
use Rattle.object_heap.proofs.heap.Heap.cell.Goals as goal

pub returns : goal.returns
returns c = λ w h. c.get.ensures ∙ ap (λ (v : HeapView). cell_in (slice_get v.cells c.args.cell.0)) c.self.view_is ∙ ap (λ xs. cell_in (slice_get xs c.args.cell.0)) (cells-stand _ w h)
