use Rattle.es_model.specs.World.{World}
use Rattle.object_heap.specs.Retains.{Retains}
use Rattle.object_heap.specs.Stands.{StandsFor}
use Rattle.evaluator.proofs.Entering.{Made, HasFront}
use Rattle.evaluator.proofs.cells.make_cells.Given as goal

abbrev pub invariant-cells : goal.invariant-cells
invariant-cells l = record {
  made : (w : World) → StandsFor l.fn.heap w → Made l.fn.heap l.heap w l.n l.left l.fn.cells l.cells;
  front : HasFront l.fn.cells l.cells;
  retains : Retains l.fn.heap l.heap;
}

abbrev pub decreases-cells : goal.decreases-cells
decreases-cells l = l.left
