use Rattle.es_serve.proofs.Models.{never-raises}
use Rattle.es_serve.proofs.laws.turns_never_rise.Goals as goal

pub returns : goal.returns
returns c = never-raises
