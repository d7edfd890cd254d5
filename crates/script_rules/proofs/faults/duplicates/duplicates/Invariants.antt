use Rattle.std.proofs.Common.{drop, take}
use Rattle.script_rules.specs.Seen.{GoesOver}
use Rattle.script_rules.proofs.faults.duplicates.duplicates.Given as goal

abbrev pub invariant-loop-d : goal.invariant-loop-d
invariant-loop-d l = GoesOver l.script.leaves l.declared (take l.d-index l.declared) (drop l.d-index l.declared) l.seen.entries l.found
