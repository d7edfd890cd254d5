use Rattle.script_grammar.proofs.Total.{some_answer}
use Rattle.script_grammar.proofs.laws.some_answer_each.Goals as goal

pub returns : goal.returns
returns c = some_answer
