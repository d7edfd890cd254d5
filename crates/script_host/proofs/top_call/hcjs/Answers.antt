use Rattle.command_words.specs.Orders.{order_of}
use Rattle.script_host.specs.Answers.{Faults, Unbuilt, CannotRead, files_change, note_of}
use Rattle.script_host.specs.Sinks.{change, sink_view}
use Rattle.script_host.proofs.Settled.{run_noted, usage_ends, refused_ends, cannot_read_ends, write_fault_ends}
use Rattle.script_host.proofs.top_call.hcjs.Goals as goal

pub returns-in-Ok-Script-Ran-clause-leaves : goal.returns-in-Ok-Script-Ran-clause-leaves
returns-in-Ok-Script-Ran-clause-leaves g c =
    let settled = rw (c.in-Ok-Script-Ran.field-0-is, c.in-Ok-Script-Ran.field-0-0-is) at c.in-Ok-Script-Ran.ensures.settles in
    run_noted (order_of c.args.words.now) (files_change (g.F.Files.held c.args.files.now) (g.F.Files.faults c.args.files.now) (g.F.Files.faults c.settle.new.files)) (change (sink_view (g.O.Sink.held c.args.out.now) (g.O.Sink.writes c.args.out.now) (g.O.Sink.flushes c.args.out.now) (g.O.Sink.faults c.args.out.now)) (sink_view (g.O.Sink.held c.settle.new.out) (g.O.Sink.writes c.settle.new.out) (g.O.Sink.flushes c.settle.new.out) (g.O.Sink.faults c.settle.new.out))) (change (sink_view (g.E.Sink.held c.args.err.now) (g.E.Sink.writes c.args.err.now) (g.E.Sink.flushes c.args.err.now) (g.E.Sink.faults c.args.err.now)) (sink_view (g.E.Sink.held c.ended_run.new.err) (g.E.Sink.writes c.ended_run.new.err) (g.E.Sink.flushes c.ended_run.new.err) (g.E.Sink.faults c.ended_run.new.err))) settled.0 settled.1 settled.2 c.in-Ok-Script-Ran.ran c.ended_run.result
    settled.3 settled.4 c.ended_run.ensures

pub returns-in-Ok-Script-Faulty-clause-leaves : goal.returns-in-Ok-Script-Faulty-clause-leaves
returns-in-Ok-Script-Faulty-clause-leaves g c =
    let settled = rw (c.in-Ok-Script-Faulty.field-0-is, c.in-Ok-Script-Faulty.field-0-0-is) at c.in-Ok-Script-Faulty.ensures.settles in
    refused_ends (order_of c.args.words.now) (files_change (g.F.Files.held c.args.files.now) (g.F.Files.faults c.args.files.now) (g.F.Files.faults c.settle.new.files)) (change (sink_view (g.O.Sink.held c.args.out.now) (g.O.Sink.writes c.args.out.now) (g.O.Sink.flushes c.args.out.now) (g.O.Sink.faults c.args.out.now)) (sink_view (g.O.Sink.held c.settle.new.out) (g.O.Sink.writes c.settle.new.out) (g.O.Sink.flushes c.settle.new.out) (g.O.Sink.faults c.settle.new.out))) (change (sink_view (g.E.Sink.held c.args.err.now) (g.E.Sink.writes c.args.err.now) (g.E.Sink.flushes c.args.err.now) (g.E.Sink.faults c.args.err.now)) (sink_view (g.E.Sink.held c.ended_with.new.err) (g.E.Sink.writes c.ended_with.new.err) (g.E.Sink.flushes c.ended_with.new.err) (g.E.Sink.faults c.ended_with.new.err))) (Faults c.in-Ok-Script-Faulty.fault) c.ended_with.result tt settled.0
    settled.1 (c.ended_with.ensures (note_of (Faults c.in-Ok-Script-Faulty.fault)) c.faulty.ensures)

pub returns-in-Ok-Script-Unbuilt-clause-leaves : goal.returns-in-Ok-Script-Unbuilt-clause-leaves
returns-in-Ok-Script-Unbuilt-clause-leaves g c =
    let settled = rw (c.in-Ok-Script-Unbuilt.field-0-is, c.in-Ok-Script-Unbuilt.field-0-0-is) at c.in-Ok-Script-Unbuilt.ensures.settles in
    refused_ends (order_of c.args.words.now) (files_change (g.F.Files.held c.args.files.now) (g.F.Files.faults c.args.files.now) (g.F.Files.faults c.settle.new.files)) (change (sink_view (g.O.Sink.held c.args.out.now) (g.O.Sink.writes c.args.out.now) (g.O.Sink.flushes c.args.out.now) (g.O.Sink.faults c.args.out.now)) (sink_view (g.O.Sink.held c.settle.new.out) (g.O.Sink.writes c.settle.new.out) (g.O.Sink.flushes c.settle.new.out) (g.O.Sink.faults c.settle.new.out))) (change (sink_view (g.E.Sink.held c.args.err.now) (g.E.Sink.writes c.args.err.now) (g.E.Sink.flushes c.args.err.now) (g.E.Sink.faults c.args.err.now)) (sink_view (g.E.Sink.held c.ended_with-in-Ok-Script-Unbuilt.new.err) (g.E.Sink.writes c.ended_with-in-Ok-Script-Unbuilt.new.err) (g.E.Sink.flushes c.ended_with-in-Ok-Script-Unbuilt.new.err) (g.E.Sink.faults c.ended_with-in-Ok-Script-Unbuilt.new.err))) (Unbuilt c.in-Ok-Script-Unbuilt.place)
    c.ended_with-in-Ok-Script-Unbuilt.result tt settled.0 settled.1
    (c.ended_with-in-Ok-Script-Unbuilt.ensures (note_of (Unbuilt c.in-Ok-Script-Unbuilt.place)) c.not_built.ensures)

pub returns-in-Ok-Usage-clause-leaves : goal.returns-in-Ok-Usage-clause-leaves
returns-in-Ok-Usage-clause-leaves g c =
    let settled = rw c.in-Ok-Usage.field-0-is at c.in-Ok-Usage.ensures.settles in
    usage_ends (order_of c.args.words.now) (files_change (g.F.Files.held c.args.files.now) (g.F.Files.faults c.args.files.now) (g.F.Files.faults c.settle.new.files)) (change (sink_view (g.O.Sink.held c.args.out.now) (g.O.Sink.writes c.args.out.now) (g.O.Sink.flushes c.args.out.now) (g.O.Sink.faults c.args.out.now)) (sink_view (g.O.Sink.held c.settle.new.out) (g.O.Sink.writes c.settle.new.out) (g.O.Sink.flushes c.settle.new.out) (g.O.Sink.faults c.settle.new.out))) (change (sink_view (g.E.Sink.held c.args.err.now) (g.E.Sink.writes c.args.err.now) (g.E.Sink.flushes c.args.err.now) (g.E.Sink.faults c.args.err.now)) (sink_view (g.E.Sink.held c.ended.new.err) (g.E.Sink.writes c.ended.new.err) (g.E.Sink.flushes c.ended.new.err) (g.E.Sink.faults c.ended.new.err))) c.ended.result settled.0 settled.1 c.ended.ensures

pub returns-in-Ok-CannotRead-clause-leaves : goal.returns-in-Ok-CannotRead-clause-leaves
returns-in-Ok-CannotRead-clause-leaves g c =
    let settled = rw c.in-Ok-CannotRead.field-0-is at c.in-Ok-CannotRead.ensures.settles in
    cannot_read_ends (order_of c.args.words.now) (files_change (g.F.Files.held c.args.files.now) (g.F.Files.faults c.args.files.now) (g.F.Files.faults c.settle.new.files)) (change (sink_view (g.O.Sink.held c.args.out.now) (g.O.Sink.writes c.args.out.now) (g.O.Sink.flushes c.args.out.now) (g.O.Sink.faults c.args.out.now)) (sink_view (g.O.Sink.held c.settle.new.out) (g.O.Sink.writes c.settle.new.out) (g.O.Sink.flushes c.settle.new.out) (g.O.Sink.faults c.settle.new.out))) (change (sink_view (g.E.Sink.held c.args.err.now) (g.E.Sink.writes c.args.err.now) (g.E.Sink.flushes c.args.err.now) (g.E.Sink.faults c.args.err.now)) (sink_view (g.E.Sink.held c.ended_with-in-Ok-CannotRead.new.err) (g.E.Sink.writes c.ended_with-in-Ok-CannotRead.new.err) (g.E.Sink.flushes c.ended_with-in-Ok-CannotRead.new.err) (g.E.Sink.faults c.ended_with-in-Ok-CannotRead.new.err))) c.in-Ok-CannotRead.name
    c.ended_with-in-Ok-CannotRead.result settled.0 settled.1
    (c.ended_with-in-Ok-CannotRead.ensures (note_of (CannotRead c.in-Ok-CannotRead.name)) c.cannot_read.ensures)

pub returns-in-Err-WriteFault-clause-leaves : goal.returns-in-Err-WriteFault-clause-leaves
returns-in-Err-WriteFault-clause-leaves g c =
    let settled = rw c.in-Err-WriteFault.field-0-is at c.in-Err-WriteFault.ensures.settles in
    write_fault_ends (order_of c.args.words.now) (files_change (g.F.Files.held c.args.files.now) (g.F.Files.faults c.args.files.now) (g.F.Files.faults c.settle.new.files)) (change (sink_view (g.O.Sink.held c.args.out.now) (g.O.Sink.writes c.args.out.now) (g.O.Sink.flushes c.args.out.now) (g.O.Sink.faults c.args.out.now)) (sink_view (g.O.Sink.held c.settle.new.out) (g.O.Sink.writes c.settle.new.out) (g.O.Sink.flushes c.settle.new.out) (g.O.Sink.faults c.settle.new.out))) (change (sink_view (g.E.Sink.held c.args.err.now) (g.E.Sink.writes c.args.err.now) (g.E.Sink.flushes c.args.err.now) (g.E.Sink.faults c.args.err.now)) (sink_view (g.E.Sink.held c.ended-in-Err-WriteFault.new.err) (g.E.Sink.writes c.ended-in-Err-WriteFault.new.err) (g.E.Sink.flushes c.ended-in-Err-WriteFault.new.err) (g.E.Sink.faults c.ended-in-Err-WriteFault.new.err))) settled.0
    c.ended-in-Err-WriteFault.result settled.1 settled.2 c.ended-in-Err-WriteFault.ensures
