use Rattle.evaluator.proofs.statement_plans.statement_plan.Goals as goal

pub returns-in-Try-clause-plans : goal.returns-in-Try-clause-plans
returns-in-Try-clause-plans g c = λ w h. rw c.in-Try.is (c.try_statement.ensures.plans w h)
