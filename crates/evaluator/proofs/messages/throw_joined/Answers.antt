use Rattle.std.proofs.Common.{◌≡◌, ◌++◌, Ok, ap, sym, subst, IfSome}
use Rattle.property_keys.specs.declared.values.Value.TheVariants as value
use Rattle.es_model.specs.Changes.{Interning, changed}
use Rattle.es_model.specs.Completions.{Throw}
use Rattle.es_model.specs.Program.{done}
use Rattle.es_model.specs.World.{World, number_of, units_of}
use Rattle.es_model.specs.programs.Errors.{make_error}
use Rattle.object_heap.specs.Stands.{Goes, StandsFor, goes_then}
use Rattle.evaluator.specs.declared.items.Ending.TheVariants.{Throws}
use Rattle.evaluator.specs.declared.items.Plan.TheVariants.{Ends}
use Rattle.evaluator.specs.Contexts.{context}
use Rattle.evaluator.specs.Plans.{Plans, joined_world}
use Rattle.evaluator.proofs.Joining.{joined_stage}
use Rattle.evaluator.proofs.messages.throw_joined.Goals as goal

pub returns-in_ok-error-in-Some-clause-plans : goal.returns-in_ok-error-in-Some-clause-plans
returns-in_ok-error-in-Some-clause-plans g c = λ w h.
    let a = c.args.first in
    let b = c.args.second in
    let here = context c.args.script.now c.args.body c.args.cells.now in
    let joined : World = changed (Interning (units_of w.lists a ++ units_of w.lists b)) w in
    let number = subst (λ o. IfSome o (λ id. (v : World) → StandsFor c.args.heap.now v → id ≡ number_of v.lists (units_of v.lists a ++ units_of v.lists b))) c.in-Some.is c.in_ok-join.ensures.number in
    let goes : Goes c.args.heap.now c.join.new.heap w joined = subst (λ o. Goes c.args.heap.now c.join.new.heap w (joined_world w a b o)) c.in-Some.is (c.in_ok-join.ensures.goes w h) in
    let made = c.in_ok-error-in-Some.ensures.ok joined goes.stands in
    let is = c.in_ok-error-in-Some.ensures.object joined goes.stands in
    subst (λ s. Plans here here c.args.heap.now c.make_error.new.self w s (Ok (Ends (Throws (value.Object c.in_ok-error-in-Some.error)))))
    (sym (joined_stage a b (λ text. make_error c.args.kind text (λ o. done (Throw (value.Object o)))) w c.in_ok-join.field-0 c.in-Some.text c.in-Some.is (c.in_ok-join.ensures.fits w h) (number w h)))
    (ap (λ o. Throw (value.Object o)) is, goes_then c.args.heap.now c.join.new.heap c.make_error.new.self w joined _ goes made)
