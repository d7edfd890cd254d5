use Rattle.script_rules.specs.Arena.{trees_at}
use Rattle.script_checker.specs.OwnWalk.{GoesOver, sizes}
use Rattle.script_checker.proofs.own.own_facts.Given as goal

abbrev pub invariant-code : goal.invariant-code
invariant-code l = GoesOver l.script.leaves l.script.nodes l.body l.rest l.names l.arguments

abbrev pub decreases-code : goal.decreases-code
decreases-code l = sizes (trees_at l.script.nodes l.rest)
