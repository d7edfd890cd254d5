use Rattle.evaluator.proofs.operators.delete_node.Goals as goal

pub returns-in-Access-clause-named : goal.returns-in-Access-clause-named
returns-in-Access-clause-named g c = λ w v hw hv known. c.delete_access.ensures.named w v hw hv (rw c.in-Access.is at known)
