use Rattle.es_model.proofs.StartSound.{start-sound}
use Rattle.es_model.proofs.start_laws.start_world_is_sound.Goals as goal

pub returns : goal.returns
returns c = start-sound
