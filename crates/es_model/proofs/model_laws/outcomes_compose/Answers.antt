use Rattle.es_model.proofs.Composing.{after-after, after-ended}
use Rattle.es_model.proofs.model_laws.outcomes_compose.Goals as goal

pub returns : goal.returns
returns c = record { after = after-after; end = after-ended }
