use Rattle.std.proofs.Common.{Some, subst, sym}
use Rattle.command_words.specs.Orders.{ordered_from, source_in}
use Rattle.script_host.specs.Answers.{files_change}
use Rattle.script_host.specs.Settling.{Settles}
use Rattle.script_host.specs.Sinks.{change, sink_view}
use Rattle.script_host.proofs.outcome.settle_order.Goals as goal

pub returns-in-Generated-clause-settles : goal.returns-in-Generated-clause-settles
returns-in-Generated-clause-settles g c =
    subst (λ from. Settles (Some (ordered_from c.args.order.budget (source_in from))) (files_change (g.F.Files.held c.args.files.now) (g.F.Files.faults c.args.files.now) (g.F.Files.faults c.args.files.now)) (change (sink_view (g.O.Sink.held c.args.out.now) (g.O.Sink.writes c.args.out.now) (g.O.Sink.flushes c.args.out.now) (g.O.Sink.faults c.args.out.now)) (sink_view (g.O.Sink.held c.settle_generated.new.out) (g.O.Sink.writes c.settle_generated.new.out) (g.O.Sink.flushes c.settle_generated.new.out) (g.O.Sink.faults c.settle_generated.new.out))) c.settle_generated.result)
    (sym c.in-Generated.is) (c.settle_generated.ensures (g.F.Files.held c.args.files.now) (g.F.Files.faults c.args.files.now))
