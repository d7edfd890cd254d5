use Rattle.es_model.specs.Changes.{charged}
use Rattle.evaluator.proofs.accesses.access_target.Goals as goal

pub returns-clause-named : goal.returns-clause-named
returns-clause-named g c = λ w v hw hv sites. let (fits, goes) = c.in_ok-charge.ensures.ok w hw in c.access_reference.ensures.named (charged w 1) v goes.stands hv sites
