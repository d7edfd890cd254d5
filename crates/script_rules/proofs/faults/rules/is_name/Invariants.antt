use Rattle.std.proofs.Common.{◌≡◌}
use Rattle.script_rules.specs.Arena.{IsPart, tree_at}
use Rattle.script_rules.specs.Faults.{is_name}
use Rattle.script_rules.proofs.faults.rules.is_name.Given as goal

abbrev pub invariant-inwards : goal.invariant-inwards
invariant-inwards l = IsPart l.script.nodes l.inner × (is_name (tree_at l.script.nodes l.inner) ≡ is_name (tree_at l.script.nodes l.n))

abbrev pub decreases-inwards : goal.decreases-inwards
decreases-inwards l = l.inner
