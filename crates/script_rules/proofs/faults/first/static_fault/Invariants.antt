use Rattle.script_rules.specs.Walks.{StartsAt, weight}
use Rattle.script_rules.proofs.faults.first.static_fault.Given as goal

abbrev pub invariant-parts : goal.invariant-parts
invariant-parts l = StartsAt l.script.leaves l.script.nodes l.script.root l.walk

abbrev pub decreases-parts : goal.decreases-parts
decreases-parts l = weight l.script.nodes l.walk
