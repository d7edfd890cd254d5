use Rattle.std.proofs.Common.{◌∙◌, refl, subst}
use Rattle.es_serve.specs.Lines.{line_bytes}
use Rattle.script_host.specs.Running.{TakesLine}
use Rattle.script_host.specs.Sinks.{change, sink_view}
use Rattle.script_host.proofs.Settled.{front_of_none}
use Rattle.script_host.proofs.running.print_line.Goals as goal

pub returns-in-Ok : goal.returns-in-Ok
returns-in-Ok g c = λ w h.
    subst (λ line. TakesLine line (change (sink_view (g.O.Sink.held c.args.out.now) (g.O.Sink.writes c.args.out.now) (g.O.Sink.flushes c.args.out.now) (g.O.Sink.faults c.args.out.now)) (sink_view (g.O.Sink.held c.write_line.new.out) (g.O.Sink.writes c.write_line.new.out) (g.O.Sink.flushes c.write_line.new.out) (g.O.Sink.faults c.write_line.new.out))) c.write_line.result)
    (c.deref.ensures.value ∙ c.in-Ok.ensures w h) c.write_line.ensures

pub returns-in-Err : goal.returns-in-Err
returns-in-Err g c = λ w h. (refl, front_of_none (g.O.Sink.held c.args.out.now) (line_bytes w.lists c.args.line.now))
