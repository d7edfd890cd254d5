use Rattle.std.proofs.Common.{◌-◌, length}
use Rattle.es_model.specs.World.{World}
use Rattle.object_heap.specs.Retains.{Retains}
use Rattle.object_heap.specs.Stands.{StandsFor}
use Rattle.arguments_exotic.proofs.Defined.{Defined}
use Rattle.arguments_exotic.proofs.creating.define_arguments.Given as goal

abbrev pub invariant-arguments : goal.invariant-arguments
invariant-arguments g l = record {
  defined : (w : World) → StandsFor l.fn.heap w → Defined l.fn.heap l.heap w l.object l.arguments l.next;
  retains : Retains l.fn.heap l.heap;
}

abbrev pub decreases-arguments : goal.decreases-arguments
decreases-arguments g l = length l.arguments - l.next
