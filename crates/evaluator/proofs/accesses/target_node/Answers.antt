use Rattle.evaluator.proofs.accesses.target_node.Goals as goal

pub returns-in-Access-clause-plans : goal.returns-in-Access-clause-plans
returns-in-Access-clause-plans g c = λ w h. rw c.in-Access.is (c.access_target.ensures.plans w h)

pub returns-in-Access-clause-named : goal.returns-in-Access-clause-named
returns-in-Access-clause-named g c = λ w v hw hv known. c.access_target.ensures.named w v hw hv (rw c.in-Access.is at known)
