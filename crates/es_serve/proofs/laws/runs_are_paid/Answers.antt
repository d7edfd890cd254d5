use Rattle.es_serve.proofs.Models.{runs-paid}
use Rattle.es_serve.proofs.laws.runs_are_paid.Goals as goal

pub returns : goal.returns
returns c = runs-paid
