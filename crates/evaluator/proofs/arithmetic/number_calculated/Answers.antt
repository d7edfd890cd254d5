use Rattle.std.proofs.Common.{arith}
use Rattle.std.proofs.lemmas.Int.{ints}
use Rattle.property_keys.specs.Wholes.{IsWhole}
use Rattle.evaluator.proofs.Belonging.{calculated_whole}
use Rattle.evaluator.proofs.arithmetic.number_calculated.Goals as goal

pub returns-in-Some-clause-named : goal.returns-in-Some-clause-named
returns-in-Some-clause-named g c = λ l finish.
    let whole : IsWhole c.in-Some.n = calculated_whole c.args.operator _ _ c.result_of.result c.in-Some.n c.result_of.ensures c.in-Some.is in
    c.finished.ensures.named l finish (omega (arith, ints), omega (arith, ints))
