use Rattle.std.proofs.Common.{◌-◌}
use Rattle.es_model.specs.World.{World}
use Rattle.object_heap.specs.Retains.{Retains}
use Rattle.object_heap.specs.Stands.{StandsFor}
use Rattle.evaluator.specs.Contexts.{context}
use Rattle.evaluator.proofs.ElementsDefined.{Filled}
use Rattle.evaluator.proofs.elements.elements_from.Given as goal

abbrev pub invariant-elements : goal.invariant-elements
invariant-elements g l = record {
  filled : (w : World) → StandsFor l.fn.heap w → Filled (context l.script l.body l.cells) l.node l.array l.fn.heap l.heap w l.first l.next;
  retains : Retains l.fn.heap l.heap;
}

abbrev pub decreases-elements : goal.decreases-elements
decreases-elements g l = l.count - l.next
