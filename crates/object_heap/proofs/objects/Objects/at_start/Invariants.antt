use Rattle.std.proofs.Common.{◌≡◌, ◌-◌, length, map, take}
use Rattle.es_model.specs.StartWorld.{all_intrinsics, start_lists}
use Rattle.object_heap.specs.Seen.{seen}
use Rattle.object_heap.proofs.objects.Objects.at_start.Given as goal

abbrev pub invariant-loop-intrinsic : goal.invariant-loop-intrinsic
invariant-loop-intrinsic l = l.all.items ≡ take (length l.all.items) (map seen start_lists.objects)

abbrev pub decreases-loop-intrinsic : goal.decreases-loop-intrinsic
decreases-loop-intrinsic l = length all_intrinsics - length l.all.items
