use Rattle.script_rules.specs.Walks.{size_at}
use Rattle.script_rules.proofs.faults.visits.visit.Goals as goal

pub returns-in-Wrap : goal.returns-in-Wrap
unfolding size_at
returns-in-Wrap c = rw c.in-Wrap.ensures.is c.visit_wrap.ensures

pub returns-in-Pair : goal.returns-in-Pair
unfolding size_at
returns-in-Pair c = rw c.in-Pair.ensures.is c.visit_pair.ensures

pub returns-in-Triple : goal.returns-in-Triple
unfolding size_at
returns-in-Triple c = rw c.in-Triple.ensures.is c.visit_triple.ensures

pub returns-in-Quad : goal.returns-in-Quad
unfolding size_at
returns-in-Quad c = rw c.in-Quad.ensures.is c.visit_quad.ensures
