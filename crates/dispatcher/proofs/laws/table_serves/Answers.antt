use Rattle.dispatcher.proofs.Served.{table}
use Rattle.dispatcher.proofs.laws.table_serves.Goals as goal

pub returns : goal.returns
returns c = table
