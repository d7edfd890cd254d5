use Rattle.ordinary_object.proofs.RoundsEnd.{rounds-suffice}
use Rattle.ordinary_object.proofs.laws.rounds_suffice.Goals as goal

pub returns : goal.returns
returns c = rounds-suffice
