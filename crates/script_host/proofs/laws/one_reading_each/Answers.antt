use Rattle.script_host.proofs.Readings.{one_reading}
use Rattle.script_host.proofs.laws.one_reading_each.Goals as goal

pub returns : goal.returns
returns c = one_reading
