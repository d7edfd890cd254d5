use Rattle.std.proofs.Common.{arith, length, length-drop, ◌∙◌, sym, ap}
use Rattle.std.proofs.lemmas.Bool.{ne_eqb}
use Rattle.std.proofs.lemmas.List.{get_or_read}
use Rattle.std.proofs.lemmas.Result.{err_from_is_err_and}
use Rattle.script_syntax.proofs.Parts.{PartHere, text_goes, text_stops}
use Rattle.es_source.specs.Texts.{part_at}
use Rattle.script_syntax.proofs.texts.text_from.Goals as goal
use Rattle.script_syntax.proofs.texts.text_from.Goals.{In-Some}

part_here : (c : In-Some) → PartHere c.args.quote c.parts.passed c.in-Some.length c.in-Some.point c.args.rest.now c.parts.units
part_here c = record {
  found = c.parts.invariant.found;
  below = c.parts-test.true;
  other = ne_eqb _ _ (λ e. c.if-rest-passed.false (get_or_read c.args.rest.now c.parts.passed c.index-rest-passed.result c.parts-test.true c.index-rest-passed.is 0 ∙ e));
  part = sym (c.part_at.ensures.value ∙ ap part_at c.split_at.ensures.back) ∙ c.in-Some.is;
  positive = c.in-Some.ensures.bound.0;
  within = omega (arith, c.in-Some.ensures.bound.1, ap length c.split_at.ensures.back);
}

pub returns-in_err-push_part-clause-value : goal.returns-in_err-push_part-clause-value
returns-in_err-push_part-clause-value c =
    let p = err_from_is_err_and c.from_residual.result c.from_residual.ensures.1 in
    rw (p.1, p.2) (text_stops _ _ _ _ _ _ (part_here (goal.at.returns-in_err-push_part-clause-value c).In-Some) (Unit {0}) _ c.push_part.new.units c.in_err-push_part.ensures)

pub parts-preserved : goal.parts-preserved
parts-preserved c = record {
  within = omega (arith, (part_here (goal.at.parts-preserved c).In-Some).within, length-drop c.parts.passed c.args.rest.now);
  found = text_goes _ _ _ _ _ _ (part_here (goal.at.parts-preserved c).In-Some) c.push_part.new.units c.in_ok-push_part.ensures;
}
