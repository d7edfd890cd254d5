use Rattle.std.proofs.Common.{◌≡◌, ◌≤◌, ◌-◌, length, take}
use Rattle.plain_builtins.proofs.arguments.Arguments.of.Given as goal

abbrev pub invariant-copied : goal.invariant-copied
invariant-copied l = (l.n ≤ length l.values) × (l.left.items ≡ take l.n l.values)

abbrev pub decreases-copied : goal.decreases-copied
decreases-copied l = length l.values - l.n
