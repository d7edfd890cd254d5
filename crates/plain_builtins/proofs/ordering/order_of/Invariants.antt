use Rattle.std.proofs.Common.{◌≤◌, ◌-◌, length}
use Rattle.plain_builtins.proofs.Orders.{IsSame}
use Rattle.plain_builtins.proofs.ordering.order_of.Given as goal

abbrev pub invariant-places : goal.invariant-places
invariant-places l = (l.i ≤ length l.left) × IsSame l.left l.right l.i

abbrev pub decreases-places : goal.decreases-places
decreases-places l = length l.left - l.i
