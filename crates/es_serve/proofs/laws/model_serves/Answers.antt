use Rattle.es_serve.proofs.Models.{serves}
use Rattle.es_serve.proofs.laws.model_serves.Goals as goal

pub returns : goal.returns
returns c = serves
