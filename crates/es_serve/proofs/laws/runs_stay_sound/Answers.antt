use Rattle.es_serve.proofs.Models.{runs-sound}
use Rattle.es_serve.proofs.laws.runs_stay_sound.Goals as goal

pub returns : goal.returns
returns c = runs-sound
