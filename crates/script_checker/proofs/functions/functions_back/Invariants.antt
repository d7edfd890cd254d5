use Rattle.std.proofs.Common.{length}
use Rattle.script_checker.proofs.LastOnes.{GoesBack}
use Rattle.script_checker.proofs.functions.functions_back.Given as goal

abbrev pub invariant-back : goal.invariant-back
invariant-back l = GoesBack l.fn.items l.rest.items l.names l.functions

abbrev pub decreases-back : goal.decreases-back
decreases-back l = length l.rest.items
