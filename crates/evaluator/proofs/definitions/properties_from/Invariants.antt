use Rattle.std.proofs.Common.{◌-◌}
use Rattle.es_model.specs.World.{World}
use Rattle.object_heap.specs.Retains.{Retains}
use Rattle.object_heap.specs.Stands.{StandsFor}
use Rattle.evaluator.specs.Contexts.{context}
use Rattle.evaluator.proofs.Defining.{Defined}
use Rattle.evaluator.proofs.definitions.properties_from.Given as goal

abbrev pub invariant-definitions : goal.invariant-definitions
invariant-definitions g l = record {
  defined : (w : World) → StandsFor l.fn.heap w → Defined (context l.script l.body l.cells) l.node l.object l.fn.heap l.heap w l.first l.next;
  retains : Retains l.fn.heap l.heap;
}

abbrev pub decreases-definitions : goal.decreases-definitions
decreases-definitions g l = l.count - l.next
