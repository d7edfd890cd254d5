use Rattle.std.proofs.Common.{◌≡◌, ◌<◌, ℕ, false}
use Rattle.es_model.specs.Objects.{same_key}
use Rattle.object_heap.specs.Places.{property_at}
use Rattle.object_heap.proofs.property_list.place_of.Given as goal

abbrev pub invariant-loop-i : goal.invariant-loop-i
invariant-loop-i l = (j : ℕ) → j < l.i → same_key (property_at l.properties j).key l.key ≡ false
