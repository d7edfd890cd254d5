use Rattle.plain_builtins.proofs.RoundsEnd.{rounds-suffice}
use Rattle.plain_builtins.proofs.laws.instance_rounds_suffice.Goals as goal

pub returns : goal.returns
returns c = rounds-suffice
