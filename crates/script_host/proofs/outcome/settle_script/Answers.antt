use Rattle.command_words.specs.Orders.{order_in}
use Rattle.std.proofs.Common.{refl, sym}
use Rattle.std.proofs.lemmas.Result.{err_from_is_err_and}
use Rattle.script_host.specs.Answers.{Faults, Unbuilt}
use Rattle.script_host.specs.Sinks.{change, sink_view}
use Rattle.script_host.proofs.Settled.{script_stops, run_stops}
use Rattle.script_host.proofs.outcome.settle_script.Goals as goal

pub returns-in_err-flush-in-Some : goal.returns-in_err-flush-in-Some
returns-in_err-flush-in-Some g c =
    let p = err_from_is_err_and c.from_residual.result c.from_residual.ensures.1 in
    rw (p.1, p.2) (script_stops (order_in c.args.order) c.args.bytes.now (change (sink_view (g.O.Sink.held c.args.out.now) (g.O.Sink.writes c.args.out.now) (g.O.Sink.flushes c.args.out.now) (g.O.Sink.faults c.args.out.now)) (sink_view (g.O.Sink.held c.flush.new.out) (g.O.Sink.writes c.flush.new.out) (g.O.Sink.flushes c.flush.new.out) (g.O.Sink.faults c.flush.new.out))) (Unbuilt c.in-Some.place) _
    (c.in-Ok.script, c.in-Ok.ensures, sym c.in-Some.ensures) refl c.in_err-flush-in-Some.ensures.bytes c.in_err-flush-in-Some.ensures.cause)

pub returns-in_err-ran-in-None : goal.returns-in_err-ran-in-None
returns-in_err-ran-in-None g c =
    let p = err_from_is_err_and c.from_residual-in_err-ran-in-None.result c.from_residual-in_err-ran-in-None.ensures.1 in
    rw (p.1, p.2) (run_stops (order_in c.args.order) c.args.bytes.now (change (sink_view (g.O.Sink.held c.args.out.now) (g.O.Sink.writes c.args.out.now) (g.O.Sink.flushes c.args.out.now) (g.O.Sink.faults c.args.out.now)) (sink_view (g.O.Sink.held c.run_to_end.new.out) (g.O.Sink.writes c.run_to_end.new.out) (g.O.Sink.flushes c.run_to_end.new.out) (g.O.Sink.faults c.run_to_end.new.out))) c.in-Ok.script _
    c.in-Ok.ensures (sym c.in-None.ensures) c.in_err-ran-in-None.ensures)

pub returns-in_err-flush-in-Err-Fault : goal.returns-in_err-flush-in-Err-Fault
returns-in_err-flush-in-Err-Fault g c =
    let p = err_from_is_err_and c.from_residual-in_err-flush-in-Err-Fault.result c.from_residual-in_err-flush-in-Err-Fault.ensures.1 in
    let given = rw c.in-Err-Fault.field-0-is at c.in-Err-Fault.ensures in
    rw (p.1, p.2) (script_stops (order_in c.args.order) c.args.bytes.now (change (sink_view (g.O.Sink.held c.args.out.now) (g.O.Sink.writes c.args.out.now) (g.O.Sink.flushes c.args.out.now) (g.O.Sink.faults c.args.out.now)) (sink_view (g.O.Sink.held c.flush-in-Err-Fault.new.out) (g.O.Sink.writes c.flush-in-Err-Fault.new.out) (g.O.Sink.flushes c.flush-in-Err-Fault.new.out) (g.O.Sink.faults c.flush-in-Err-Fault.new.out))) (Faults c.in-Err-Fault.fault) _
    given refl c.in_err-flush-in-Err-Fault.ensures.bytes c.in_err-flush-in-Err-Fault.ensures.cause)
