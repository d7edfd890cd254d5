use Rattle.es_serve.proofs.Models.{keeps-names}
use Rattle.es_serve.proofs.laws.frames_stay.Goals as goal

pub returns : goal.returns
returns c = keeps-names
