use Rattle.std.proofs.Common.{◌≡◌, List, ℕ, ◌++◌, length}
use Rattle.std.specs.Io.KnownBytes.{Appends}
use Rattle.hc_outside.proofs.std_sink.StdSinkSink.write.Given as goal

abbrev pub invariant-loop-rest : goal.invariant-loop-rest
invariant-loop-rest g l = record {
  sent : (part : List ℕ) × (l.bytes ≡ part ++ l.rest) × Appends l.fn.self.bytes (g.W.Write.contents l.self-inside.inner) part;
  count : l.self-inside.count ≡ l.fn.self.count;
  writes : l.self-inside.writes ≡ l.fn.self.writes;
  flushes : l.self-inside.flushes ≡ l.fn.self.flushes;
}

abbrev pub decreases-loop-rest : goal.decreases-loop-rest
decreases-loop-rest g l = length l.rest
