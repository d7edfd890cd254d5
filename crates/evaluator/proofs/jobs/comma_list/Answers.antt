use Rattle.std.proofs.Common.{subst}
use Rattle.property_keys.specs.declared.values.Value.TheVariants as value
use Rattle.es_model.specs.Stages.{stage_of}
use Rattle.evaluator.specs.Contexts.{context}
use Rattle.evaluator.specs.Operators.{comma_from, comma_in}
use Rattle.evaluator.specs.Plans.{Plans}
use Rattle.evaluator.proofs.jobs.comma_list.Goals as goal

pub returns-clause-plans : goal.returns-clause-plans
returns-clause-plans g c = λ w h.
    let here = context c.args.script.now c.args.body c.args.cells.now in
    subst (λ o. Plans here here c.args.heap.now c.comma_from.new.heap w (stage_of (comma_from here (comma_in o) value.Undefined) w) c.comma_from.result) c.requires (c.comma_from.ensures.plans w h)
