use Rattle.std.proofs.Common.{drop, [], ℕ}
use Rattle.script_rules.specs.Faults.{prototype_key}
use Rattle.script_rules.proofs.Lists.{GoesOn}
use Rattle.script_rules.proofs.faults.duplicates.prototype_keys.Given as goal

abbrev pub invariant-loop-n : goal.invariant-loop-n
invariant-loop-n l = GoesOn ℕ l.script.nodes (prototype_key l.script.leaves) l.n-items (drop l.n-index l.n-items) [] l.keys.items
