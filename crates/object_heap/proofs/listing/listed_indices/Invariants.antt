use Rattle.std.proofs.Common.{◌≡◌, take}
use Rattle.es_model.specs.OwnKeys.{indices_in}
use Rattle.object_heap.proofs.listing.listed_indices.Given as goal

abbrev pub invariant-loop-property : goal.invariant-loop-property
invariant-loop-property l = l.indices.keys ≡ indices_in (take l.property-index l.properties)
