use Rattle.std.proofs.Common.{◌≡◌, ◌≤◌, ◌-◌, length, take}
use Rattle.core_builtins.specs.Answers.{rest_of}
use Rattle.core_builtins.proofs.functions.rest_of.Given as goal

abbrev pub invariant-copied : goal.invariant-copied
invariant-copied l = (1 ≤ l.n) × (l.rest ≡ take (l.n - 1) (rest_of l.arguments))

abbrev pub decreases-copied : goal.decreases-copied
decreases-copied l = length l.arguments - l.n
