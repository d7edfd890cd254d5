use Rattle.std.proofs.Common.{◌≡◌, ◌++◌, take}
use Rattle.std.specs.Prelude.{filter}
use Rattle.es_model.specs.OwnKeys.{is_name, keys_in}
use Rattle.object_heap.proofs.listing.push_names.Given as goal

abbrev pub invariant-loop-property : goal.invariant-loop-property
invariant-loop-property l = l.keys ≡ l.initial.keys ++ filter is_name (keys_in (take l.property-index l.properties))
