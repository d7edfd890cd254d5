use Rattle.evaluator.proofs.reading.get_of.Goals as goal

pub returns-in-Whole-clause-plans : goal.returns-in-Whole-clause-plans
returns-in-Whole-clause-plans g c = λ w h. rw c.in-Whole.is (rw c.in-Whole.is at (c.get_above-in-Whole.ensures.plans w h))
