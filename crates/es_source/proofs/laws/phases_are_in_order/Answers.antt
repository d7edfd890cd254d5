use Rattle.es_source.proofs.Phases.{phases_are_in_order}
use Rattle.es_source.proofs.laws.phases_are_in_order.Goals as goal

pub returns : goal.returns
returns c = phases_are_in_order
