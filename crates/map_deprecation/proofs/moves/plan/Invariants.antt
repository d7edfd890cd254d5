use Rattle.std.proofs.Common.{◌≡◌, ◌*◌, take}
use Rattle.map_store.specs.Views.{map_at}
use Rattle.map_store.specs.Keys.{steps_on}
use Rattle.map_deprecation.specs.Moves.{moves_of}
use Rattle.map_deprecation.proofs.moves.plan.Given as goal

abbrev pub invariant-loop-i : goal.invariant-loop-i
invariant-loop-i g l = record {
  changes : l.moves ≡ moves_of (take l.i (map_at l.maps l.from).entries) (take l.i (map_at l.maps l.to).entries);
  counted : g.L.Ledger.ticks l.steps ≡ steps_on (2 * l.i) (g.L.Ledger.ticks l.initial.steps);
}
