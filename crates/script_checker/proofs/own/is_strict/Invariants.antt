use Rattle.std.proofs.Common.{◌≡◌, drop}
use Rattle.script_rules.specs.Arena.{ArePart, trees_at}
use Rattle.script_checker.specs.Own.{has_strict}
use Rattle.script_checker.proofs.own.is_strict.Given as goal

abbrev pub invariant-loop-n : goal.invariant-loop-n
invariant-loop-n l =
    ArePart l.script.nodes (drop l.n-index l.n-items)
    × (has_strict l.script.leaves (trees_at l.script.nodes (drop l.n-index l.n-items)) ≡ has_strict l.script.leaves (trees_at l.script.nodes l.n-items))
