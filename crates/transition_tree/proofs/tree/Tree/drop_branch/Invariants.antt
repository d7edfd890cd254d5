use Rattle.transition_tree.proofs.Dropping.{IsDroppedTo}
use Rattle.transition_tree.proofs.tree.Tree.drop_branch.Given as goal

abbrev pub invariant-loop-number : goal.invariant-loop-number
invariant-loop-number l = IsDroppedTo l.self l.fn.maps l.maps l.fn.map l.number
