use Rattle.es_model.proofs.Belonging.{names-stay, changes-keep_names}
use Rattle.es_model.proofs.model_laws.frames_go_on_belonging.Goals as goal

pub returns : goal.returns
returns c = record { later = names-stay; change = changes-keep_names }
