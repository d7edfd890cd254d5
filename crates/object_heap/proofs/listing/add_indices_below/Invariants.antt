use Rattle.std.proofs.Common.{◌≡◌}
use Rattle.es_model.specs.OwnKeys.{with_indices_below}
use Rattle.object_heap.proofs.listing.add_indices_below.Given as goal

abbrev pub invariant-loop-index : goal.invariant-loop-index
invariant-loop-index l = l.indices.keys ≡ with_indices_below l.index l.fn.indices.keys
