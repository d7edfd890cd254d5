use Rattle.script_host.specs.Sinks.{change, sink_view}
use Rattle.script_host.proofs.Settled.{flush_fails}
use Rattle.script_host.proofs.outcome.flush_run.Goals as goal

pub returns-in-Err : goal.returns-in-Err
returns-in-Err g c =
    flush_fails c.args.ran (change (sink_view (g.O.Sink.held c.args.out.now) (g.O.Sink.writes c.args.out.now) (g.O.Sink.flushes c.args.out.now) (g.O.Sink.faults c.args.out.now)) (sink_view (g.O.Sink.held c.flush.new.out) (g.O.Sink.writes c.flush.new.out) (g.O.Sink.flushes c.flush.new.out) (g.O.Sink.faults c.flush.new.out)))
    c.in-Err.stop c.in-Err.ensures.bytes c.in-Err.ensures.cause
