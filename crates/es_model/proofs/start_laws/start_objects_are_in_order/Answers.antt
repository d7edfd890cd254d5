use Rattle.es_model.proofs.Starting.{objects-are-in-order}
use Rattle.es_model.proofs.start_laws.start_objects_are_in_order.Goals as goal

pub returns : goal.returns
returns c = objects-are-in-order
