use Rattle.std.proofs.Common.{◌+◌, Ok, subst}
use Rattle.std.proofs.lemmas.Result.{err_from_is_err_and}
use Rattle.object_heap.proofs.Retaining.{retains_none}
use Rattle.evaluator.specs.Contexts.{context}
use Rattle.evaluator.proofs.Defining.{DefinesOne, defined_none, defined_plan, defined_stops}
use Rattle.evaluator.specs.Names.{NamesDefined}
use Rattle.evaluator.proofs.PlansNamed.{keeps_stop, plan_defined}
use Rattle.evaluator.proofs.definitions.properties_from.Goals as goal

pub definitions-init : goal.definitions-init
definitions-init g c = record {
  defined = λ w h. defined_none (context c.args.script.now c.args.body c.args.cells.now) c.args.node c.args.object c.args.heap.now w c.args.first h;
  retains = retains_none c.args.heap.now;
}

pub returns-in_err-going-clause-plans : goal.returns-in_err-going-clause-plans
returns-in_err-going-clause-plans g c = λ w h.
    let here = context c.args.script.now c.args.body c.args.cells.now in
    let p = err_from_is_err_and c.from_residual.result c.from_residual.ensures.1 in
    rw (p.1, p.2)
    (defined_stops here c.args.node c.args.object c.in-Some.property.now c.args.heap.now c.definitions.heap c.property_then.new.heap w c.args.first c.definitions.next (c.definitions.next + 1) c.in_err-going.field-0.0
    (c.definitions.invariant.defined w h) c.in-Some.ensures c.in_err-going.ensures.defines)

pub returns-in-Some-2-clause-plans : goal.returns-in-Some-2-clause-plans
returns-in-Some-2-clause-plans g c = λ w h.
    let here = context c.args.script.now c.args.body c.args.cells.now in
    let after = c.definitions.next + 1 in
    defined_plan here c.args.node c.args.object c.in-Some.property.now c.args.heap.now c.definitions.heap c.property_then.new.heap w c.args.first c.definitions.next after c.in-Some-2.going
    (c.definitions.invariant.defined w h) c.in-Some.ensures
    (subst (λ x. DefinesOne here c.args.node c.args.object c.in-Some.property.now after c.definitions.heap c.property_then.new.heap (Ok x)) c.in-Some-2.is c.in_ok-going.ensures.defines)

pub returns-in_err-going-clause-named : goal.returns-in_err-going-clause-named
returns-in_err-going-clause-named g c = λ w v hw hv object.
    let p = err_from_is_err_and c.from_residual.result c.from_residual.ensures.1 in rw (p.1, p.2) (keeps_stop c.args.script.now v.lists _)

pub returns-in-Some-2-clause-named : goal.returns-in-Some-2-clause-named
returns-in-Some-2-clause-named g c = λ w v hw hv object.
    let (x, goes, e) = c.definitions.invariant.defined w hw in
    plan_defined c.args.script.now v.lists c.in-Some-2.going
    (subst (λ y. NamesDefined c.args.script.now v.lists (Ok y)) c.in-Some-2.is (c.in_ok-going.ensures.named x v goes.stands hv object))
