use Rattle.std.proofs.Common.{Ok, refl, sym, subst}
use Rattle.es_model.specs.Stages.{stage_of}
use Rattle.object_heap.specs.Stands.{goes_none}
use Rattle.evaluator.specs.declared.items.Plan.TheVariants as plan
use Rattle.evaluator.specs.Contexts.{context}
use Rattle.evaluator.specs.Plans.{Plans}
use Rattle.evaluator.proofs.statement_plans.statement_item_plan.Goals as goal

pub returns-in-LastEnded-clause-plans : goal.returns-in-LastEnded-clause-plans
returns-in-LastEnded-clause-plans g c = λ w h.
    let here = context c.args.script.now c.args.body c.args.cells.now in
    rw c.in-LastEnded.is
    (subst (λ p. Plans here here c.args.heap.now c.args.heap.now w (stage_of p w) (Ok (plan.Ends c.last_ended.result))) (sym c.last_ended.ensures) (refl, goes_none c.args.heap.now w h))
