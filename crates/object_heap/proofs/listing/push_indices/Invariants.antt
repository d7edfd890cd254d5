use Rattle.std.proofs.Common.{◌≡◌, ◌++◌, map}
use Rattle.property_keys.specs.declared.keys.PropKey.TheVariants.{Index}
use Rattle.object_heap.proofs.listing.push_indices.Given as goal

abbrev pub invariant-loop-index : goal.invariant-loop-index
invariant-loop-index l = l.keys ++ map Index l.index-iterator ≡ l.initial.keys ++ map Index l.fn.indices.keys
