use Rattle.std.proofs.Common.{◌≡◌, ◌-◌, length, take}
use Rattle.es_model.specs.StartTable.{start_properties}
use Rattle.object_heap.proofs.held.start_properties.Given as goal

abbrev pub invariant-loop-property : goal.invariant-loop-property
invariant-loop-property l = l.properties.items ≡ take (length l.properties.items) (start_properties l.intrinsic)

abbrev pub decreases-loop-property : goal.decreases-loop-property
decreases-loop-property l = length (start_properties l.intrinsic) - length l.properties.items
