use Rattle.std.proofs.Common.{◌-◌}
use Rattle.es_model.specs.World.{World}
use Rattle.object_heap.specs.Retains.{Retains}
use Rattle.object_heap.specs.Stands.{StandsFor}
use Rattle.evaluator.specs.Contexts.{context}
use Rattle.evaluator.proofs.Declared.{Declared}
use Rattle.evaluator.proofs.functions.declare_functions.Given as goal

abbrev pub invariant-functions : goal.invariant-functions
invariant-functions g l = record {
  declared : (w : World) → StandsFor l.fn.heap w → Declared (context l.script l.body l.cells) l.code.declared l.fn.heap l.heap w l.next;
  retains : Retains l.fn.heap l.heap;
}

abbrev pub decreases-functions : goal.decreases-functions
decreases-functions g l = l.count - l.next
