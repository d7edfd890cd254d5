use Rattle.std.proofs.Common.{Some, refl, ◌∙◌}
use Rattle.command_words.specs.Orders.{Generated, ordered_from}
use Rattle.script_host.specs.Answers.{files_change}
use Rattle.script_host.specs.Sinks.{change, sink_view}
use Rattle.script_host.proofs.Settled.{of_script, script_ends}
use Rattle.script_host.proofs.outcome.settle_generated.Goals as goal

pub returns-in-Ok-settle_script : goal.returns-in-Ok-settle_script
returns-in-Ok-settle_script g c = λ held faults.
    script_ends (Some (ordered_from c.args.budget (Generated c.args.count))) (files_change held faults faults) (ordered_from c.args.budget (Generated c.args.count)) c.deref.result.now (change (sink_view (g.O.Sink.held c.args.out.now) (g.O.Sink.writes c.args.out.now) (g.O.Sink.flushes c.args.out.now) (g.O.Sink.faults c.args.out.now)) (sink_view (g.O.Sink.held c.settle_script.new.out) (g.O.Sink.writes c.settle_script.new.out) (g.O.Sink.flushes c.settle_script.new.out) (g.O.Sink.faults c.settle_script.new.out))) _
    (of_script (ordered_from c.args.budget (Generated c.args.count)) (files_change held faults faults) c.deref.result.now refl (c.deref.ensures.value ∙ c.in-Ok.ensures))
    c.in-Ok-settle_script.ensures
