use Rattle.map_deprecation.proofs.Givers.{IsOnTheWay}
use Rattle.map_deprecation.proofs.generalising.giver_of.Given as goal

abbrev pub invariant-loop-parent : goal.invariant-loop-parent
invariant-loop-parent g l = IsOnTheWay l.tree l.maps l.fn.map l.fn.i l.at

abbrev pub decreases-loop-parent : goal.decreases-loop-parent
decreases-loop-parent g l = l.at.0
