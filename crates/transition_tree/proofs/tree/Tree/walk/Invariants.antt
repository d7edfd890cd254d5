use Rattle.std.proofs.Common.{◌+◌, ◌≤◌, take}
use Rattle.transition_tree.specs.Rows.{onward, row_of}
use Rattle.transition_tree.specs.Together.{IsLiveAt}
use Rattle.transition_tree.proofs.tree.Tree.walk.Given as goal

abbrev pub invariant-loop-i : goal.invariant-loop-i
invariant-loop-i g l = record {
  here : IsLiveAt l.self l.maps (onward (row_of l.self l.fn.root) (take l.i l.path)) l.at;
  later : g.L.Ledger.ticks l.fn.steps ≤ g.L.Ledger.ticks l.steps;
  bound : g.L.Ledger.ticks l.steps ≤ g.L.Ledger.ticks l.fn.steps + (l.i + 1);
}
