use Rattle.std.proofs.lemmas.Result.{err_from_is_err_and}
use Rattle.script_syntax.proofs.Tables.{punctuator_stops}
use Rattle.script_syntax.proofs.punctuators.punctuator_at.Goals as goal

pub returns-in_err-units-clause-value : goal.returns-in_err-units-clause-value
returns-in_err-units-clause-value c =
    let p = err_from_is_err_and c.from_residual.result c.from_residual.ensures.1 in
    rw (p.1, p.2) (punctuator_stops _ c.args.rest.now _ c.longest_punctuator-longest.ensures.value c.in_err-units.ensures)
