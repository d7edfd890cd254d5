use Rattle.std.proofs.Common.{◌+◌, ◌*◌, ◌≤◌, length, take}
use Rattle.transition_tree.specs.Rows.{onward, row_of}
use Rattle.transition_tree.specs.Together.{BelongTogether, IsLiveAt}
use Rattle.map_deprecation.specs.Updating.{Grows, root_of}
use Rattle.map_deprecation.proofs.updating.made_along.Given as goal

abbrev pub invariant-loop-i : goal.invariant-loop-i
invariant-loop-i g l = record {
  together : BelongTogether l.tree l.maps;
  grows : Grows l.fn.tree l.tree l.fn.maps l.maps (row_of l.fn.tree l.fn.map);
  here : IsLiveAt l.tree l.maps (onward (root_of (row_of l.fn.tree l.fn.map)) (take l.i l.path)) l.at;
  later : g.L.Ledger.ticks l.fn.steps ≤ g.L.Ledger.ticks l.steps;
  bound : g.L.Ledger.ticks l.steps ≤ g.L.Ledger.ticks l.fn.steps + l.i * (length l.path + 2);
}
