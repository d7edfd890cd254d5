use Rattle.es_model.specs.Changes.{charged}
use Rattle.es_model.proofs.SoundReads.{sound-charged}
use Rattle.evaluator.proofs.operators.typeof_name.Goals as goal

pub returns-in_ok-charge-in-Name-clause-named : goal.returns-in_ok-charge-in-Name-clause-named
returns-in_ok-charge-in-Name-clause-named g c = λ w v hw sound hv running.
    let (fits, goes) = c.in_ok-charge-in-Name.ensures.ok w hw in c.resolve.ensures.named (charged w 1) v goes.stands (sound-charged w 1 sound) hv running
