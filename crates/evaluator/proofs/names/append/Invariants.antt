use Rattle.std.proofs.Common.{◌≡◌, ◌++◌, take}
use Rattle.evaluator.proofs.names.append.Given as goal

abbrev pub invariant-loop-i : goal.invariant-loop-i
invariant-loop-i l = l.units ≡ l.fn.units ++ take l.i l.more
