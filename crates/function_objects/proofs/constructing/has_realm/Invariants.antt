use Rattle.std.proofs.Common.{◌≡◌}
use Rattle.es_model.specs.World.{World}
use Rattle.object_heap.specs.Stands.{StandsFor}
use Rattle.function_objects.specs.Constructing.{has_realm, has_realm_within}
use Rattle.function_objects.proofs.constructing.has_realm.Given as goal

abbrev pub invariant-targets : goal.invariant-targets
invariant-targets l = (w : World) → StandsFor l.heap w → has_realm w.lists l.fn.target ≡ has_realm_within l.left w.lists l.object

abbrev pub decreases-targets : goal.decreases-targets
decreases-targets l = l.left
