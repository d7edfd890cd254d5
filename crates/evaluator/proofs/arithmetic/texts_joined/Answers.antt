use Rattle.std.proofs.Common.{◌≡◌, ◌++◌, IfSome, subst}
use Rattle.es_model.specs.World.{World, number_of, units_of}
use Rattle.object_heap.specs.Stands.{Goes, StandsFor}
use Rattle.evaluator.specs.Plans.{joined_world}
use Rattle.evaluator.proofs.Belonging.{text_there}
use Rattle.evaluator.proofs.arithmetic.texts_joined.Goals as goal

pub returns-in-Some-clause-named : goal.returns-in-Some-clause-named
returns-in-Some-clause-named g c = λ w v hw hv finish.
    let x = c.args.a in
    let y = c.args.b in
    let a = c.args.heap.now in
    let b = c.join.new.heap in
    let number = subst (λ o. IfSome o (λ id. (u : World) → StandsFor a u → id ≡ number_of u.lists (units_of u.lists x ++ units_of u.lists y))) c.in-Some.is c.in_ok-join.ensures.number in
    let goes = subst (λ o. Goes a b w (joined_world w x y o)) c.in-Some.is (c.in_ok-join.ensures.goes w hw) in
    c.finished.ensures.named v.lists finish (text_there (units_of w.lists x ++ units_of w.lists y) a b c.finished.new.heap w v c.in-Some.text (number w hw) goes c.finished.ensures.retains hv)
