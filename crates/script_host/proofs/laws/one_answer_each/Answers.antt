use Rattle.script_host.proofs.Whole.{one_answer}
use Rattle.script_host.proofs.laws.one_answer_each.Goals as goal

pub returns : goal.returns
returns c = one_answer
