use Rattle.script_host.specs.Sinks.{change, sink_view}
use Rattle.script_host.proofs.Runs.{run_ends, run_front, run_goes_on, run_halts, run_line_stops, run_starts}
use Rattle.script_host.proofs.running.print_lines.Goals as goal

pub lines-init : goal.lines-init
lines-init g c = λ budget start. run_starts c.args.script.now budget c.args.heap c.args.dispatcher (sink_view (g.O.Sink.held c.args.out.now) (g.O.Sink.writes c.args.out.now) (g.O.Sink.flushes c.args.out.now) (g.O.Sink.faults c.args.out.now)) start

pub lines-smaller : goal.lines-smaller
lines-smaller g c = rw c.in-Ok-Prints.field-0-is at c.in-Ok-Prints.ensures.fewer

pub lines-preserved : goal.lines-preserved
lines-preserved g c = λ budget start.
    let point = c.lines.invariant budget start in
    let comes = rw c.in-Ok-Prints.field-0-is at (c.in-Ok-Prints.ensures.comes point.world point.same point.stands point.steps) in
    run_goes_on c.args.script.now budget c.lines.heap c.go_on.new.heap c.lines.dispatcher c.in-Ok-Prints.next c.in-Ok-Prints.line (sink_view (g.O.Sink.held c.args.out.now) (g.O.Sink.writes c.args.out.now) (g.O.Sink.flushes c.args.out.now) (g.O.Sink.faults c.args.out.now)) (sink_view (g.O.Sink.held c.lines.out) (g.O.Sink.writes c.lines.out) (g.O.Sink.flushes c.lines.out) (g.O.Sink.faults c.lines.out)) (sink_view (g.O.Sink.held c.print_line.new.out) (g.O.Sink.writes c.print_line.new.out) (g.O.Sink.flushes c.print_line.new.out) (g.O.Sink.faults c.print_line.new.out)) point comes (λ w h. c.in-Ok.ensures w h)

-- a line that was not written whole
pub returns-in-Err : goal.returns-in-Err
returns-in-Err g c = λ budget start.
    let point = c.lines.invariant budget start in
    let comes = rw c.in-Ok-Prints.field-0-is at (c.in-Ok-Prints.ensures.comes point.world point.same point.stands point.steps) in
    run_line_stops c.args.script.now budget c.lines.heap c.go_on.new.heap c.lines.dispatcher c.in-Ok-Prints.next c.in-Ok-Prints.line (sink_view (g.O.Sink.held c.args.out.now) (g.O.Sink.writes c.args.out.now) (g.O.Sink.flushes c.args.out.now) (g.O.Sink.faults c.args.out.now)) (sink_view (g.O.Sink.held c.lines.out) (g.O.Sink.writes c.lines.out) (g.O.Sink.flushes c.lines.out) (g.O.Sink.faults c.lines.out)) (sink_view (g.O.Sink.held c.print_line.new.out) (g.O.Sink.writes c.print_line.new.out) (g.O.Sink.flushes c.print_line.new.out) (g.O.Sink.faults c.print_line.new.out)) c.in-Err.stop point comes (λ w h. c.in-Err.ensures w h)

pub returns-in-Ok-Ends : goal.returns-in-Ok-Ends
returns-in-Ok-Ends g c = λ budget start.
    let point = c.lines.invariant budget start in
    let comes = rw c.in-Ok-Ends.field-0-is at (c.in-Ok-Ends.ensures.comes point.world point.same point.stands point.steps) in
    run_ends c.args.script.now budget c.lines.heap c.go_on.new.heap c.lines.dispatcher c.in-Ok-Ends.answer c.ending_of-ending.result (change (sink_view (g.O.Sink.held c.args.out.now) (g.O.Sink.writes c.args.out.now) (g.O.Sink.flushes c.args.out.now) (g.O.Sink.faults c.args.out.now)) (sink_view (g.O.Sink.held c.lines.out) (g.O.Sink.writes c.lines.out) (g.O.Sink.flushes c.lines.out) (g.O.Sink.faults c.lines.out))) point comes c.ending_of-ending.ensures

pub returns-in-Err-Halted : goal.returns-in-Err-Halted
returns-in-Err-Halted g c = λ budget start.
    let point = c.lines.invariant budget start in
    let comes = rw c.in-Err-Halted.field-0-is at (c.in-Err-Halted.ensures.comes point.world point.same point.stands point.steps) in
    run_halts c.args.script.now budget c.lines.heap c.go_on.new.heap c.lines.dispatcher (change (sink_view (g.O.Sink.held c.args.out.now) (g.O.Sink.writes c.args.out.now) (g.O.Sink.flushes c.args.out.now) (g.O.Sink.faults c.args.out.now)) (sink_view (g.O.Sink.held c.lines.out) (g.O.Sink.writes c.lines.out) (g.O.Sink.flushes c.lines.out) (g.O.Sink.faults c.lines.out))) point comes

pub returns-in-Err-NoMemory : goal.returns-in-Err-NoMemory
returns-in-Err-NoMemory g c = λ budget start.
    let point = c.lines.invariant budget start in
    (point.wrote.faults, run_front c.args.script.now budget c.lines.heap c.lines.dispatcher (change (sink_view (g.O.Sink.held c.args.out.now) (g.O.Sink.writes c.args.out.now) (g.O.Sink.flushes c.args.out.now) (g.O.Sink.faults c.args.out.now)) (sink_view (g.O.Sink.held c.lines.out) (g.O.Sink.writes c.lines.out) (g.O.Sink.flushes c.lines.out) (g.O.Sink.faults c.lines.out))) point)
