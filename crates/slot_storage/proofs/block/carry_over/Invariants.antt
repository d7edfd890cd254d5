use Rattle.std.proofs.Common.{◌≡◌, ◌++◌, ◌-◌, length, replicate, take}
use Rattle.slot_storage.specs.Steps.{counted_times}
use Rattle.slot_storage.proofs.block.carry_over.Given as goal

abbrev pub invariant-loop-i : goal.invariant-loop-i
invariant-loop-i g l = record {
  words : l.to ≡ take l.i l.from ++ replicate (length l.fn.to - l.i) 0;
  steps : g.L.Ledger.ticks l.steps ≡ counted_times l.i (g.L.Ledger.ticks l.fn.steps);
}
