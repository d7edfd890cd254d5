use Rattle.std.proofs.Common.{◌≡◌, drop}
use Rattle.script_host.specs.Unbuilt.{earliest, function_places, places_where, uses_arguments}
use Rattle.script_host.proofs.unfinished.first_function.Given as goal

abbrev pub invariant-loop-f : goal.invariant-loop-f
invariant-loop-f l =
    earliest l.found (places_where uses_arguments (drop l.f l.script.bodies) (drop l.f (function_places l.script.functions)))
    ≡ earliest l.fn.before (places_where uses_arguments l.script.bodies (function_places l.script.functions))
