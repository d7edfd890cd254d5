use Rattle.std.proofs.Common.{◌≡◌}
use Rattle.es_model.specs.World.{World}
use Rattle.object_heap.specs.Stands.{StandsFor}
use Rattle.script_host.specs.Uncaught.{look_at}
use Rattle.script_host.proofs.Looks.{looked}
use Rattle.script_host.proofs.uncaught.plain_look.Given as goal

abbrev pub invariant-links : goal.invariant-links
invariant-links g l = (w : World) → StandsFor l.heap w → looked l.left w.lists l.key l.at ≡ look_at w.lists l.fn.object l.key

abbrev pub decreases-links : goal.decreases-links
decreases-links g l = l.left
