use Rattle.script_host.proofs.Whole.{whole_file}
use Rattle.script_host.proofs.laws.speaks_of_whole_file.Goals as goal

pub returns : goal.returns
returns c = whole_file
