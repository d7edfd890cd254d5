use Rattle.es_model.proofs.StageFacts.{outcome-stage}
use Rattle.es_model.proofs.model_laws.stages_lead_on.Goals as goal

pub returns : goal.returns
returns c = outcome-stage
