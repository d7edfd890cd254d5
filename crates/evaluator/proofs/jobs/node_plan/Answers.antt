use Rattle.evaluator.proofs.jobs.node_plan.Goals as goal

pub primary_plan-requires-clause-parts : goal.primary_plan-requires-clause-parts
primary_plan-requires-clause-parts g c = rw c.in-Primary.is at c.requires.known

pub returns-in-Access-clause-named : goal.returns-in-Access-clause-named
returns-in-Access-clause-named g c = λ w v same hw sound hv running. c.access_plan.ensures.named w v hw hv (rw c.in-Access.is at c.requires.known)
