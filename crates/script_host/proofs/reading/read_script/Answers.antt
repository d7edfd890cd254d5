use Rattle.std.proofs.lemmas.Result.{err_from_is_err_and}
use Rattle.script_host.proofs.ReadPhases.{tokens_stop, grammar_stops, rules_end}
use Rattle.script_host.proofs.reading.read_script.Goals as goal

pub returns-in_err-tokens : goal.returns-in_err-tokens
returns-in_err-tokens c =
    let p = err_from_is_err_and c.from_residual.result c.from_residual.ensures.1 in
    rw (p.1, p.2) (tokens_stop c.args.bytes.now c.in_err-tokens.field-0.0 c.in_err-tokens.ensures)

pub returns-in_err-script : goal.returns-in_err-script
returns-in_err-script c =
    let p = err_from_is_err_and c.from_residual-in_err-script.result c.from_residual-in_err-script.ensures.1 in
    rw (p.1, p.2)
    (grammar_stops c.args.bytes.now c.in_ok-tokens.tokens c.in_err-script.field-0.0 c.in_ok-tokens.ensures c.in_err-script.ensures.0)

pub check-requires : goal.check-requires
check-requires c = let script = c.in_ok-script.ensures.0 in (script.1.0, script.1.1)

pub returns : goal.returns
returns c = rules_end c.args.bytes.now c.in_ok-tokens.tokens c.in_ok-script.script c.check.result c.in_ok-tokens.ensures c.in_ok-script.ensures.0 c.check.ensures
