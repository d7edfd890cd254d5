use Rattle.std.proofs.Common.{◌∙◌, inl, inr, subst}
use Rattle.script_host.specs.declared.status.Status.TheVariants as status
use Rattle.script_host.specs.Settling.{EndsNoted}
use Rattle.script_host.specs.Sinks.{change, sink_view}
use Rattle.script_host.proofs.top_call.ended_uncaught.Goals as goal

pub returns-in-Ok : goal.returns-in-Ok
returns-in-Ok g c = λ w h.
    inl (subst (λ note. EndsNoted (change (sink_view (g.E.Sink.held c.args.err.now) (g.E.Sink.writes c.args.err.now) (g.E.Sink.flushes c.args.err.now) (g.E.Sink.faults c.args.err.now)) (sink_view (g.E.Sink.held c.ended.new.err) (g.E.Sink.writes c.ended.new.err) (g.E.Sink.flushes c.ended.new.err) (g.E.Sink.faults c.ended.new.err))) note status.Thrown c.ended.result)
    (c.deref.ensures.value ∙ c.in-Ok.ensures w h) c.ended.ensures)

pub returns-in-Err : goal.returns-in-Err
returns-in-Err g c = λ w h. inr (c.out_of_memory.ensures.status, c.out_of_memory.ensures.note)
