use Rattle.std.proofs.Common.{◌≡◌, ◌<◌, ◌≤◌, ◌-◌, ℕ, None, get_or}
use Rattle.slot_storage.specs.Steps.{counted_times}
use Rattle.elements_kinds.proofs.store.end_below.Given as goal

abbrev pub invariant-loop-end : goal.invariant-loop-end
invariant-loop-end g l = record {
  within : l.end ≤ l.from;
  holes : (i : ℕ) → l.end ≤ i → i < l.from → get_or l.slots.values i None ≡ None;
  steps : g.L.Ledger.ticks l.steps ≡ counted_times (l.from - l.end) (g.L.Ledger.ticks l.fn.steps);
}

abbrev pub decreases-loop-end : goal.decreases-loop-end
decreases-loop-end g l = l.end
