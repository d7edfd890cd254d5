use Rattle.std.proofs.Common.{◌≡◌, ◌++◌, reverse}
use Rattle.transition_tree.specs.Rows.{IsIn, row_of}
use Rattle.transition_tree.proofs.tree.Tree.path.Given as goal

abbrev pub invariant-loop-parent : goal.invariant-loop-parent
invariant-loop-parent l = record {
  known : IsIn l.self l.at;
  rest : (row_of l.self l.fn.map).path ≡ (row_of l.self l.at).path ++ reverse l.path;
}

abbrev pub decreases-loop-parent : goal.decreases-loop-parent
decreases-loop-parent l = l.at.0
