use Rattle.std.proofs.Common.{◌≡◌, None, drop}
use Rattle.script_host.specs.Unbuilt.{earliest, is_array, places_where}
use Rattle.script_host.proofs.unfinished.first_array.Given as goal

abbrev pub invariant-loop-n : goal.invariant-loop-n
invariant-loop-n l =
    earliest l.found (places_where is_array (drop l.n l.script.nodes) (drop l.n l.script.places)) ≡ earliest None (places_where is_array l.script.nodes l.script.places)
