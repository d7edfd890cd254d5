use Rattle.std.proofs.Common.{◌≡◌, drop}
use Rattle.script_rules.specs.Bounds.{with_names}
use Rattle.script_rules.specs.Scopes.{bounds_where}
use Rattle.script_rules.specs.Wanted.{takes}
use Rattle.script_rules.proofs.scope_makers.add_wanted.Given as goal

abbrev pub invariant-loop-d : goal.invariant-loop-d
invariant-loop-d l =
    with_names l.names (bounds_where (takes l.wanted) l.script.leaves (drop l.d-index l.declared)) ≡ with_names l.initial.names (bounds_where (takes l.wanted) l.script.leaves l.declared)
