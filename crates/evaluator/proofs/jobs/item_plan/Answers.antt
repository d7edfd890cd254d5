use Rattle.std.proofs.Common.{Ok, sym, subst}
use Rattle.es_model.specs.Stages.{stage_of}
use Rattle.evaluator.specs.declared.items.Plan.TheVariants as plan
use Rattle.evaluator.specs.Contexts.{context}
use Rattle.evaluator.specs.Plans.{Plans, ended, item_valued}
use Rattle.evaluator.proofs.Planned.{item_on, valued_ends, valued_goes}
use Rattle.evaluator.proofs.jobs.item_plan.Goals as goal

pub returns-in-Err-clause-plans : goal.returns-in-Err-clause-plans
returns-in-Err-clause-plans g c = λ w h.
    let here = context c.args.script.now c.args.body c.args.cells.now in
    subst (λ p. Plans here here c.args.heap.now c.args.heap.now w (stage_of p w) (Ok (plan.Ends c.in-Err.end))) (sym (item_on here c.args.item (ended c.args.end) c.in_default.not-Statement))
    (valued_ends here c.args.heap.now w (item_valued here c.args.item) (ended c.args.end) c.in-Err.end c.in-Err.ensures.taken h)

pub returns-in-Ok-clause-plans : goal.returns-in-Ok-clause-plans
returns-in-Ok-clause-plans g c = λ w h.
    let here = context c.args.script.now c.args.body c.args.cells.now in
    subst (λ p. Plans here here c.args.heap.now c.item_valued.new.heap w (stage_of p w) c.item_valued.result) (sym (item_on here c.args.item (ended c.args.end) c.in_default.not-Statement))
    (valued_goes here c.args.heap.now c.item_valued.new.heap w (item_valued here c.args.item) (ended c.args.end) c.in-Ok.value c.item_valued.result c.in-Ok.ensures.taken (c.item_valued.ensures.plans w h))
