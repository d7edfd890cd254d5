use Rattle.std.proofs.Common.{◌≡◌, ◌<◌, ℕ}
use Rattle.map_store.specs.Views.{entry_at}
use Rattle.map_store.specs.Keys.{steps_on}
use Rattle.map_store.proofs.finding.place_in.Given as goal

abbrev pub invariant-loop-i : goal.invariant-loop-i
invariant-loop-i g l = record {
  before : (j : ℕ) → j < l.i → (entry_at l.entries j).key ≡ l.key → ⊥;
  counted : g.L.Ledger.ticks l.steps ≡ steps_on l.i (g.L.Ledger.ticks l.initial.steps);
}
