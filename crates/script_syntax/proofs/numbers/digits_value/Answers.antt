use Rattle.std.proofs.Common.{arith, ◌*◌, ◌-◌, ◌^◌, min, ap, ◌∙◌}
use Rattle.script_syntax.proofs.Digits.{value_step}
use Rattle.script_syntax.proofs.numbers.digits_value.Goals as goal

pub loop-digit-preserved : goal.loop-digit-preserved
loop-digit-preserved c =
    value_step (2 ^ 64 - 1) c.args.base c.from-in-loop-digit.result c.saturating_mul.result c.saturating_add-value.result
    c.args.digits.now c.loop-digit.digit-index c.digit-item.result c.loop-digit.value
    (omega arith) c.loop-digit-test.true c.digit-item.is c.loop-digit.invariant
    (c.saturating_mul.ensures ∙ ap (λ x. min (c.loop-digit.value * x) (2 ^ 64 - 1)) c.from.ensures)
    (c.from-in-loop-digit.ensures ∙ c.digit_value.ensures)
    c.saturating_add-value.ensures
