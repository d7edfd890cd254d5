use Rattle.std.proofs.lemmas.Result.{err_from_is_err_and}
use Rattle.script_syntax.proofs.Units.{stops_within}
use Rattle.script_syntax.proofs.names.units_of.Goals as goal

pub returns-in_err-push_point : goal.returns-in_err-push_point
returns-in_err-push_point c =
    let p = err_from_is_err_and c.from_residual.result c.from_residual.ensures.1 in
    rw (p.1, p.2) (stops_within (Unit {0}) _ c.args.characters.now c.loop-character.character-index c.character-item.result _ _ c.push_point.new.units c.loop-character-test.true c.character-item.is c.from.ensures c.loop-character.invariant c.in_err-push_point.ensures)
