use Rattle.es_model.proofs.Starting.{symbols-are-in-order}
use Rattle.es_model.proofs.start_laws.start_symbols_are_in_order.Goals as goal

pub returns : goal.returns
returns c = symbols-are-in-order
