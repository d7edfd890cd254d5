use Rattle.script_grammar.proofs.Answer.{one_answer}
use Rattle.script_grammar.proofs.laws.one_answer_each.Goals as goal

pub returns : goal.returns
returns c = λ ts a b h k. one_answer h k
