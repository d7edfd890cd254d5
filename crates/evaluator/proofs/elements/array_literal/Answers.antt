use Rattle.es_model.specs.World.{World}
use Rattle.array_objects.specs.Making.{made_world}
use Rattle.evaluator.specs.Contexts.{context}
use Rattle.evaluator.specs.Elements.{array_literal, elements_after}
use Rattle.evaluator.proofs.Belonging.{array_there}
use Rattle.evaluator.proofs.Defining.{plans_same}
use Rattle.evaluator.proofs.ElementsDefined.{literal_stage}
use Rattle.evaluator.proofs.elements.array_literal.Goals as goal

pub returns-clause-plans : goal.returns-clause-plans
returns-clause-plans g c = λ w h.
    let here = context c.args.script.now c.args.body c.args.cells.now in
    let a = c.in_ok-array.array in
    let p = c.object-prototype.result in
    let u : World = made_world 0 p w in
    let one = c.in_ok-array.ensures.goes w h in
    plans_same here c.args.heap.now c.make_array.new.heap c.elements_from.new.heap w u (array_literal here c.args.node) (elements_after here c.args.node 0 a) c.elements_from.result one
    (literal_stage here c.args.node a p w (c.in_ok-array.ensures.array w h) c.object-prototype.ensures) (c.elements_from.ensures.plans u one.stands)

pub returns-clause-named : goal.returns-clause-named
returns-clause-named g c = λ w v h hv.
    let p = c.object-prototype.result in
    let one = c.in_ok-array.ensures.goes w h in
    let there = array_there c.make_array.new.heap c.elements_from.new.heap w v 0 p c.in_ok-array.array (c.in_ok-array.ensures.array w h) one.stands c.elements_from.ensures.retains hv in
    c.elements_from.ensures.named (made_world 0 p w) v one.stands hv there
