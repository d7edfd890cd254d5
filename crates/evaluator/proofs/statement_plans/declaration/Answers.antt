use Rattle.std.proofs.Common.{subst}
use Rattle.es_model.specs.Stages.{stage_of}
use Rattle.evaluator.specs.Contexts.{context}
use Rattle.evaluator.specs.Plans.{Plans}
use Rattle.evaluator.specs.Statements.{declare_all, declared_in}
use Rattle.evaluator.proofs.statement_plans.declaration.Goals as goal

pub returns-clause-plans : goal.returns-clause-plans
returns-clause-plans g c = λ w h.
    let here = context c.args.script.now c.args.body c.args.cells.now in
    subst (λ o. Plans here here c.args.heap.now c.declare_from.new.heap w (stage_of (declare_all here (declared_in o)) w) c.declare_from.result) c.requires (c.declare_from.ensures.plans w h)
