use Rattle.std.proofs.Common.{◌-◌}
use Rattle.es_model.specs.World.{World}
use Rattle.object_heap.specs.Retains.{Retains}
use Rattle.object_heap.specs.Stands.{StandsFor}
use Rattle.evaluator.proofs.Entered.{Bound}
use Rattle.evaluator.proofs.bodies.bind_parameters.Given as goal

abbrev pub invariant-parameters : goal.invariant-parameters
invariant-parameters l = record {
  bound : (w : World) → StandsFor l.fn.heap w → Bound l.fn.heap l.heap w l.parameters l.arguments l.fn.cells l.next l.cells;
  retains : Retains l.fn.heap l.heap;
}

abbrev pub decreases-parameters : goal.decreases-parameters
decreases-parameters l = l.parameters - l.next
