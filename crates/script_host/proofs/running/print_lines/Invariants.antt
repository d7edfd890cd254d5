use Rattle.std.proofs.Common.{ℕ}
use Rattle.dispatcher.specs.Dispatching.{steps_left}
use Rattle.script_host.specs.Running.{IsAtStart}
use Rattle.script_host.specs.Sinks.{change, sink_view}
use Rattle.script_host.proofs.Runs.{StandsRun}
use Rattle.script_host.proofs.running.print_lines.Given as goal

abbrev pub invariant-lines : goal.invariant-lines
invariant-lines g l =
    (budget : ℕ) → IsAtStart l.fn.script budget l.fn.heap l.fn.dispatcher →
    StandsRun l.fn.script budget l.heap l.dispatcher (change (sink_view (g.O.Sink.held l.fn.out) (g.O.Sink.writes l.fn.out) (g.O.Sink.flushes l.fn.out) (g.O.Sink.faults l.fn.out))
    (sink_view (g.O.Sink.held l.out) (g.O.Sink.writes l.out) (g.O.Sink.flushes l.out) (g.O.Sink.faults l.out)))

-- each line takes steps
abbrev pub decreases-lines : goal.decreases-lines
decreases-lines g l = steps_left l.dispatcher
