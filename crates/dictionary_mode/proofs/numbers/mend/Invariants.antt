use Rattle.std.proofs.Common.{◌≡◌, ◌≢◌, ◌<◌, ◌≤◌, ◌*◌, ℕ, get_or, length}
use Rattle.dictionary_mode.specs.Counts.{IsSum, room_of}
use Rattle.dictionary_mode.proofs.numbers.mend.Given as goal

abbrev pub invariant-loop-node : goal.invariant-loop-node
invariant-loop-node l = record {
  size : length l.counts ≡ length l.fn.counts;
  inner : l.node < room_of l.fn.counts;
  sums : (i : ℕ) → 1 ≤ i → i < room_of l.fn.counts → i ≢ l.node → IsSum l.counts i;
  small : (i : ℕ) → i ≢ l.node → get_or l.counts i 0 * i ≤ length l.fn.counts;
  leaves : (i : ℕ) → room_of l.fn.counts ≤ i → get_or l.counts i 0 ≡ get_or l.fn.counts i 0;
}

abbrev pub decreases-loop-node : goal.decreases-loop-node
decreases-loop-node l = l.node
