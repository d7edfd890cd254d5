use Rattle.std.proofs.Common.{◌≡◌}
use Rattle.script_rules.specs.Arena.{IsPart, tree_at}
use Rattle.script_checker.specs.Own.{is_this}
use Rattle.script_checker.proofs.own.is_this.Given as goal

abbrev pub invariant-inwards : goal.invariant-inwards
invariant-inwards l = IsPart l.script.nodes l.at × (is_this (tree_at l.script.nodes l.n) ≡ is_this (tree_at l.script.nodes l.at))

abbrev pub decreases-inwards : goal.decreases-inwards
decreases-inwards l = l.at
