use Rattle.std.proofs.Common.{◌≡◌, ◌*◌, ◌<◌, ◌≤◌, ℕ, get_or, length}
use Rattle.slot_storage.specs.Steps.{counted_times}
use Rattle.elements_kinds.specs.Words.{decoded}
use Rattle.elements_kinds.proofs.slots.recode.Given as goal

abbrev pub invariant-loop-i : goal.invariant-loop-i
invariant-loop-i g l = record {
  len : length l.block ≡ length l.fn.block;
  done : (j : ℕ) → j < l.i → decoded l.fn.to (get_or l.block j 0) ≡ decoded l.fn.from (get_or l.fn.block j 0);
  rest : (j : ℕ) → l.i ≤ j → get_or l.block j 0 ≡ get_or l.fn.block j 0;
  steps : g.L.Ledger.ticks l.steps ≡ counted_times (2 * l.i) (g.L.Ledger.ticks l.fn.steps);
}
