use Rattle.std.proofs.Common.{Some, ap, refl, subst, sym}
use Rattle.std.proofs.lemmas.Result.{err_from_is_err_and}
use Rattle.command_words.specs.Orders.{OfFile, ordered_from}
use Rattle.es_source.specs.Reading.{most_bytes}
use Rattle.script_host.specs.Answers.{CannotRead, files_change}
use Rattle.script_host.specs.FileBytes.{IsReadOf}
use Rattle.script_host.specs.Sinks.{change, sink_view}
use Rattle.script_host.proofs.Settled.{flush_stops, of_script, script_ends}
use Rattle.script_host.proofs.outcome.settle_file.Goals as goal

pub returns-in_err-flush-in-Err-Failed-clause-settles : goal.returns-in_err-flush-in-Err-Failed-clause-settles
returns-in_err-flush-in-Err-Failed-clause-settles g c =
    let p = err_from_is_err_and c.from_residual-in_err-flush-in-Err-Failed.result c.from_residual-in_err-flush-in-Err-Failed.ensures.1 in
    let rose = rw c.in-Err-Failed.field-0-is at c.in-Err-Failed.ensures.cause in
    rw (p.1, p.2) (flush_stops (Some (ordered_from c.args.budget (OfFile c.args.name.now))) (files_change (g.F.Files.held c.args.files.now) (g.F.Files.faults c.args.files.now) (g.F.Files.faults c.read_file.new.files)) (change (sink_view (g.O.Sink.held c.args.out.now) (g.O.Sink.writes c.args.out.now) (g.O.Sink.flushes c.args.out.now) (g.O.Sink.faults c.args.out.now)) (sink_view (g.O.Sink.held c.flush.new.out) (g.O.Sink.writes c.flush.new.out) (g.O.Sink.flushes c.flush.new.out) (g.O.Sink.faults c.flush.new.out))) (CannotRead c.in-Ok.file) _ (ap Some (sym c.in-Ok.ensures), rose) refl
    c.in_err-flush-in-Err-Failed.ensures.bytes c.in_err-flush-in-Err-Failed.ensures.cause)

pub returns-in_ok-outcome-in-Ok-read_file-clause-settles : goal.returns-in_ok-outcome-in-Ok-read_file-clause-settles
returns-in_ok-outcome-in-Ok-read_file-clause-settles g c =
    script_ends (Some (ordered_from c.args.budget (OfFile c.args.name.now))) (files_change (g.F.Files.held c.args.files.now) (g.F.Files.faults c.args.files.now) (g.F.Files.faults c.read_file.new.files)) (ordered_from c.args.budget (OfFile c.args.name.now)) c.deref.result.now (change (sink_view (g.O.Sink.held c.args.out.now) (g.O.Sink.writes c.args.out.now) (g.O.Sink.flushes c.args.out.now) (g.O.Sink.faults c.args.out.now)) (sink_view (g.O.Sink.held c.settle_script.new.out) (g.O.Sink.writes c.settle_script.new.out) (g.O.Sink.flushes c.settle_script.new.out) (g.O.Sink.faults c.settle_script.new.out))) _
    (of_script (ordered_from c.args.budget (OfFile c.args.name.now)) (files_change (g.F.Files.held c.args.files.now) (g.F.Files.faults c.args.files.now) (g.F.Files.faults c.read_file.new.files)) c.deref.result.now c.in-Ok-read_file.ensures.cause
    (subst (λ bytes. IsReadOf (g.F.Files.held c.args.files.now) c.args.name.now most_bytes bytes) (sym c.deref.ensures.value) (subst (λ name. IsReadOf (g.F.Files.held c.args.files.now) name most_bytes c.in-Ok-read_file.bytes.items) c.in-Ok.ensures c.in-Ok-read_file.ensures.bytes)))
    c.in_ok-outcome-in-Ok-read_file.ensures
