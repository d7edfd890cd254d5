use Rattle.std.proofs.Common.{ℕ, List, ◌∷◌, []}
use Rattle.es_model.specs.Changes.{Interning, changed}
use Rattle.evaluator.proofs.Belonging.{text_there}
use Rattle.evaluator.proofs.reading.get_unit.Goals as goal

pub returns-in_ok-one-in-Some-clause-named : goal.returns-in_ok-one-in-Some-clause-named
returns-in_ok-one-in-Some-clause-named g c = λ w v hw hv reading site.
    let units : List ℕ = c.in-Some.unit ∷ [] in
    let goes = c.in_ok-one-in-Some.ensures.ok w hw in
    let known = text_there units c.args.heap.now c.unit_text.new.heap c.reading_valued.new.heap w v c.in_ok-one-in-Some.one (c.in_ok-one-in-Some.ensures.number w hw) goes c.reading_valued.ensures.retains hv in
    c.reading_valued.ensures.named (changed (Interning units) w) v goes.stands hv reading known
