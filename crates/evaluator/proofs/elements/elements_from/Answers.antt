use Rattle.std.proofs.Common.{◌+◌, Ok, subst}
use Rattle.std.proofs.lemmas.Result.{err_from_is_err_and}
use Rattle.object_heap.proofs.Retaining.{retains_none}
use Rattle.evaluator.specs.Contexts.{context}
use Rattle.evaluator.proofs.ElementsDefined.{FillsOne, elements_none, elements_plan, elements_stop}
use Rattle.evaluator.specs.Names.{NamesDefined}
use Rattle.evaluator.proofs.PlansNamed.{keeps_stop, plan_defined}
use Rattle.evaluator.proofs.elements.elements_from.Goals as goal

pub elements-init : goal.elements-init
elements-init g c = record {
  filled = λ w h. elements_none (context c.args.script.now c.args.body c.args.cells.now) c.args.node c.args.array c.args.heap.now w c.args.first h;
  retains = retains_none c.args.heap.now;
}

pub returns-in_err-going-clause-plans : goal.returns-in_err-going-clause-plans
returns-in_err-going-clause-plans g c = λ w h.
    let here = context c.args.script.now c.args.body c.args.cells.now in
    let p = err_from_is_err_and c.from_residual.result c.from_residual.ensures.1 in
    rw (p.1, p.2)
    (elements_stop here c.args.node c.args.array c.in-Some.found c.args.heap.now c.elements.heap c.element_then.new.heap w c.args.first c.elements.next c.in_err-going.field-0.0
    (c.elements.invariant.filled w h) c.in-Some.ensures c.in_err-going.ensures.defines)

pub returns-in-Some-2-clause-plans : goal.returns-in-Some-2-clause-plans
returns-in-Some-2-clause-plans g c = λ w h.
    let here = context c.args.script.now c.args.body c.args.cells.now in
    elements_plan here c.args.node c.args.array c.in-Some.found c.args.heap.now c.elements.heap c.element_then.new.heap w c.args.first c.elements.next c.in-Some-2.going
    (c.elements.invariant.filled w h) c.in-Some.ensures
    (subst (λ x. FillsOne here c.args.node c.args.array c.in-Some.found c.elements.next c.elements.heap c.element_then.new.heap (Ok x)) c.in-Some-2.is c.in_ok-going.ensures.defines)

pub returns-in_err-going-clause-named : goal.returns-in_err-going-clause-named
returns-in_err-going-clause-named g c = λ w v hw hv object.
    let p = err_from_is_err_and c.from_residual.result c.from_residual.ensures.1 in rw (p.1, p.2) (keeps_stop c.args.script.now v.lists _)

pub returns-in-Some-2-clause-named : goal.returns-in-Some-2-clause-named
returns-in-Some-2-clause-named g c = λ w v hw hv object.
    let (x, goes, e) = c.elements.invariant.filled w hw in
    plan_defined c.args.script.now v.lists c.in-Some-2.going
    (subst (λ y. NamesDefined c.args.script.now v.lists (Ok y)) c.in-Some-2.is (c.in_ok-going.ensures.named x v goes.stands hv object))
