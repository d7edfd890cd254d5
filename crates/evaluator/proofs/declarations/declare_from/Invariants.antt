use Rattle.std.proofs.Common.{◌-◌}
use Rattle.es_model.specs.World.{World}
use Rattle.object_heap.specs.Retains.{Retains}
use Rattle.object_heap.specs.Stands.{StandsFor}
use Rattle.evaluator.specs.Contexts.{context}
use Rattle.evaluator.specs.Statements.{declared_at}
use Rattle.evaluator.proofs.Declaring.{Declaring}
use Rattle.evaluator.proofs.declarations.declare_from.Given as goal

abbrev pub invariant-names : goal.invariant-names
invariant-names g l = record {
  declaring : let here = context l.script l.fn.body l.cells in
      (w : World) → StandsFor l.fn.heap w → Declaring here (declared_at here l.node) l.fn.heap l.heap w l.first l.next;
  retains : Retains l.fn.heap l.heap;
}

abbrev pub decreases-names : goal.decreases-names
decreases-names g l = l.count - l.next
