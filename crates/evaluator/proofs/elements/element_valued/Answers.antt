use Rattle.std.proofs.Common.{◌+◌}
use Rattle.es_model.specs.World.{World}
use Rattle.array_objects.specs.Making.{appended_world}
use Rattle.evaluator.specs.Contexts.{context}
use Rattle.evaluator.specs.Elements.{element_put, elements_after}
use Rattle.evaluator.proofs.Defining.{plans_same}
use Rattle.evaluator.proofs.ElementsDefined.{put_stage}
use Rattle.evaluator.proofs.elements.element_valued.Goals as goal

pub returns-in_ok-append_element-in-Some-clause-plans :
    goal.returns-in_ok-append_element-in-Some-clause-plans
returns-in_ok-append_element-in-Some-clause-plans g c = λ w h.
    let here = context c.args.script.now c.args.body c.args.cells.now in
    let rest = elements_after here c.args.node (c.args.at + 1) c.args.array in
    let u : World = appended_world c.args.array c.in-Some.index c.args.value w in
    let one = c.in_ok-append_element-in-Some.ensures.goes w h in
    plans_same here c.args.heap.now c.append_element.new.heap c.elements_from.new.heap w u (element_put c.args.array c.args.at rest c.args.value) rest c.elements_from.result one
    (put_stage c.args.array c.args.at c.in-Some.index c.args.value rest w c.in-Some.ensures.0 c.in-Some.ensures.1) (c.elements_from.ensures.plans u one.stands)
