use Rattle.std.proofs.Common.{◌≡◌, ◌++◌, length}
use Rattle.script_checker.specs.Values.{functions_in}
use Rattle.script_checker.proofs.functions.functions_in.Given as goal

abbrev pub invariant-forth : goal.invariant-forth
invariant-forth l = l.functions ++ l.back ≡ functions_in l.fn.items

abbrev pub decreases-forth : goal.decreases-forth
decreases-forth l = length l.back
