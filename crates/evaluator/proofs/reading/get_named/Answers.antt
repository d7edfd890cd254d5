use Rattle.std.proofs.Common.{pos, arith}
use Rattle.std.proofs.lemmas.Int.{ints}
use Rattle.property_keys.specs.Wholes.{IsWhole}
use Rattle.es_model.proofs.SharedKept.{whole-of}
use Rattle.evaluator.proofs.reading.get_named.Goals as goal

pub returns-then-eq-clause-named : goal.returns-then-eq-clause-named
returns-then-eq-clause-named g c = λ w v hw hv reading site.
    let whole : IsWhole (pos c.text_len-length.result) = whole-of c.text_len-length.result (omega (arith, c.text_len-length.ensures.most)) in
    c.reading_valued.ensures.named w v hw hv reading (omega (arith, ints), omega (arith, ints))
