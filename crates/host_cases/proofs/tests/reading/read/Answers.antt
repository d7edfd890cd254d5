use Rattle.script_rules.specs.Arena.{IsPart, tree_at}
use Rattle.host_cases.proofs.tests.reading.read.Goals as goal

pub check-requires : goal.check-requires
unfolding IsPart
check-requires c = let s = c.in_ok-script.script in (tree_at s.nodes s.root, c.in_ok-script.ensures)
