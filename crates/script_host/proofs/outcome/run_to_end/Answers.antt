use Rattle.command_words.specs.Orders.{order_in}
use Rattle.script_host.specs.Sinks.{change, sink_view}
use Rattle.script_host.proofs.Settled.{run_ended, run_fails, run_lacks}
use Rattle.script_host.proofs.outcome.run_to_end.Goals as goal

pub returns-in-Ok : goal.returns-in-Ok
returns-in-Ok g c =
    run_ended (order_in c.args.order) c.args.bytes.now c.args.script.now c.in-Ok.ran (sink_view (g.O.Sink.held c.args.out.now) (g.O.Sink.writes c.args.out.now) (g.O.Sink.flushes c.args.out.now) (g.O.Sink.faults c.args.out.now)) (sink_view (g.O.Sink.held c.run.new.out) (g.O.Sink.writes c.run.new.out) (g.O.Sink.flushes c.run.new.out) (g.O.Sink.faults c.run.new.out)) (sink_view (g.O.Sink.held c.close_run.new.out) (g.O.Sink.writes c.close_run.new.out) (g.O.Sink.flushes c.close_run.new.out) (g.O.Sink.faults c.close_run.new.out)) c.close_run.result c.in-Ok.ensures c.close_run.ensures

pub returns-in-Err-WriteFault : goal.returns-in-Err-WriteFault
returns-in-Err-WriteFault g c =
    let failed = rw c.in-Err-WriteFault.field-0-is at c.in-Err-WriteFault.ensures in
    run_fails (order_in c.args.order) c.args.bytes.now c.args.script.now (change (sink_view (g.O.Sink.held c.args.out.now) (g.O.Sink.writes c.args.out.now) (g.O.Sink.flushes c.args.out.now) (g.O.Sink.faults c.args.out.now)) (sink_view (g.O.Sink.held c.run.new.out) (g.O.Sink.writes c.run.new.out) (g.O.Sink.flushes c.run.new.out) (g.O.Sink.faults c.run.new.out))) failed

pub returns-in-Err-NoMemory : goal.returns-in-Err-NoMemory
returns-in-Err-NoMemory g c =
    let left = rw c.in-Err-NoMemory.field-0-is at c.in-Err-NoMemory.ensures in
    rw c.flush_without_memory.ensures.stop
    (run_lacks (order_in c.args.order) c.args.bytes.now c.args.script.now (sink_view (g.O.Sink.held c.args.out.now) (g.O.Sink.writes c.args.out.now) (g.O.Sink.flushes c.args.out.now) (g.O.Sink.faults c.args.out.now)) (sink_view (g.O.Sink.held c.run.new.out) (g.O.Sink.writes c.run.new.out) (g.O.Sink.flushes c.run.new.out) (g.O.Sink.faults c.run.new.out)) (sink_view (g.O.Sink.held c.flush_without_memory.new.out) (g.O.Sink.writes c.flush_without_memory.new.out) (g.O.Sink.flushes c.flush_without_memory.new.out) (g.O.Sink.faults c.flush_without_memory.new.out)) left
    c.flush_without_memory.ensures.bytes)
