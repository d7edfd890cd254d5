use Rattle.std.proofs.Common.{◌≡◌, ◌∙◌, Some, ap, sym, arith}
use Rattle.std.proofs.lemmas.Bool.Decides.{nat_tests}
use Rattle.std.proofs.lemmas.Int.{ints}
use Rattle.std.proofs.lemmas.Int.Digits.{digits_value_more, digits_more}
use Rattle.std.specs.Prelude.{pos}
use Rattle.property_keys.proofs.Numerals.{natural_of-past, natural_of-whole}
use Rattle.property_keys.proofs.numbers.natural.Goals as goal

pub returns-then-value-gt-MOST_WHOLE-clause-value : goal.returns-then-value-gt-MOST_WHOLE-clause-value
returns-then-value-gt-MOST_WHOLE-clause-value c =
    sym (natural_of-past c.args.radix c.args.digits.now c.loop-unit.unit-index c.loop-unit.value c.digit-digit.result
    (omega arith) (omega arith) c.loop-unit.invariant.value c.digit-digit.ensures.value (omega arith))

pub loop-unit-preserved : goal.loop-unit-preserved
loop-unit-preserved c = record {
  digits = digits_more c.args.radix c.args.digits.now c.loop-unit.unit-index (omega arith) c.loop-unit.invariant.digits (omega (arith, c.digit-digit.ensures.value));
  value = let more : _ ≡ _ = digits_value_more c.args.radix c.args.digits.now c.loop-unit.unit-index (omega arith) in cc (c.loop-unit.invariant.value, c.digit-digit.ensures.value);
  bound = omega arith;
}

pub returns-clause-value : goal.returns-clause-value
returns-clause-value c =
    ap (λ n. Some n) (let e : _ ≡ pos c.loop-unit.value = omega (arith, ints) in e)
    ∙ sym (natural_of-whole c.args.radix c.args.digits.now c.loop-unit.unit-index c.loop-unit.value
    (grind (arith, nat_tests)) (omega arith) c.loop-unit.invariant.digits c.loop-unit.invariant.value (omega arith))
