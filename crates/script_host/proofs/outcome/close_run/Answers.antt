use Rattle.command_words.specs.Orders.{source_in}
use Rattle.script_host.specs.Expected.{summary_of}
use Rattle.script_host.specs.Sinks.{sink_view}
use Rattle.script_host.proofs.Settled.{run_closed}
use Rattle.script_host.proofs.outcome.close_run.Goals as goal

pub returns-in-Ok : goal.returns-in-Ok
returns-in-Ok g c =
    run_closed c.args.ran (summary_of (source_in c.args.source) c.args.bytes.now) (sink_view (g.O.Sink.held c.args.out.now) (g.O.Sink.writes c.args.out.now) (g.O.Sink.flushes c.args.out.now) (g.O.Sink.faults c.args.out.now)) (sink_view (g.O.Sink.held c.write_summary.new.out) (g.O.Sink.writes c.write_summary.new.out) (g.O.Sink.flushes c.write_summary.new.out) (g.O.Sink.faults c.write_summary.new.out)) (sink_view (g.O.Sink.held c.flush_run.new.out) (g.O.Sink.writes c.flush_run.new.out) (g.O.Sink.flushes c.flush_run.new.out) (g.O.Sink.faults c.flush_run.new.out)) c.flush_run.result c.in-Ok.ensures c.flush_run.ensures
