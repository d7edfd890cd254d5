use Rattle.std.proofs.Common.{◌≡◌, suc, length}
use Rattle.es_model.specs.World.{World}
use Rattle.es_model.specs.Stages.{stage_of}
use Rattle.ordinary_object.specs.Ordinary.{set_prototype_round}
use Rattle.object_heap.specs.Retains.{Retains}
use Rattle.object_heap.specs.Stands.{StandsFor, Goes}
use Rattle.ordinary_object.proofs.rounds.set_prototype_rounds.Given as goal

abbrev pub invariant-loop-stop : goal.invariant-loop-stop
invariant-loop-stop g l = ((w : World) → StandsFor l.fn.heap w → (v : World) × Goes l.fn.heap l.heap w v
    × (stage_of (set_prototype_round (suc (length w.lists.objects)) l.object l.wanted l.wanted) w ≡ stage_of (set_prototype_round (suc l.left) l.object l.wanted l.at) v))
    × Retains l.fn.heap l.heap

abbrev pub decreases-loop-stop : goal.decreases-loop-stop
decreases-loop-stop g l = l.left
