use Rattle.std.proofs.Common.{◌≡◌, ◌++◌, ◌-◌, drop, replicate, take}
use Rattle.slot_storage.specs.Steps.{counted_times}
use Rattle.elements_kinds.proofs.slots.fill.Given as goal

abbrev pub invariant-loop-i : goal.invariant-loop-i
invariant-loop-i g l = record {
  words : l.block ≡ take l.fn.from l.fn.block ++ replicate (l.i - l.fn.from) l.fn.word ++ drop l.i l.fn.block;
  steps : g.L.Ledger.ticks l.steps ≡ counted_times (l.i - l.fn.from) (g.L.Ledger.ticks l.fn.steps);
}
