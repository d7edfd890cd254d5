use Rattle.std.proofs.Common.{◌≡◌, take}
use Rattle.slot_storage.specs.Steps.{counted_times}
use Rattle.std.specs.FinMap as map_of
use Rattle.elements_kinds.specs.Properties.{properties_of}
use Rattle.elements_kinds.proofs.store.Store.indices.Given as goal

abbrev pub invariant-loop-i : goal.invariant-loop-i
invariant-loop-i g l = record {
  list : l.list ≡ map_of.keys (properties_of (take l.i l.self-inside.slots.values));
  steps : g.L.Ledger.ticks l.steps ≡ counted_times l.i (g.L.Ledger.ticks l.fn.steps);
}
