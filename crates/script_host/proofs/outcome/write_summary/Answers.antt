use Rattle.std.proofs.Common.{length, subst, sym}
use Rattle.command_words.specs.Orders.{source_in}
use Rattle.script_host.specs.Expected.{summary_of}
use Rattle.script_host.specs.Settling.{TakesSummary}
use Rattle.script_host.specs.Sinks.{change, sink_view}
use Rattle.script_host.proofs.Settled.{length_taken}
use Rattle.script_host.proofs.outcome.write_summary.Goals as goal

pub returns-in-Generated : goal.returns-in-Generated
returns-in-Generated g c =
    subst (λ from. TakesSummary (summary_of (source_in from) c.args.bytes.now) (change (sink_view (g.O.Sink.held c.args.out.now) (g.O.Sink.writes c.args.out.now) (g.O.Sink.flushes c.args.out.now) (g.O.Sink.faults c.args.out.now)) (sink_view (g.O.Sink.held c.write_length.new.out) (g.O.Sink.writes c.write_length.new.out) (g.O.Sink.flushes c.write_length.new.out) (g.O.Sink.faults c.write_length.new.out))) c.write_length.result) (sym c.in-Generated.is)
    (length_taken (length c.args.bytes.now) (change (sink_view (g.O.Sink.held c.args.out.now) (g.O.Sink.writes c.args.out.now) (g.O.Sink.flushes c.args.out.now) (g.O.Sink.faults c.args.out.now)) (sink_view (g.O.Sink.held c.write_length.new.out) (g.O.Sink.writes c.write_length.new.out) (g.O.Sink.flushes c.write_length.new.out) (g.O.Sink.faults c.write_length.new.out))) c.write_length.result c.write_length.ensures)
