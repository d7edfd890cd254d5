use Rattle.es_model.proofs.Starting.{texts-are-in-order}
use Rattle.es_model.proofs.start_laws.start_texts_are_in_order.Goals as goal

pub returns : goal.returns
returns c = texts-are-in-order
