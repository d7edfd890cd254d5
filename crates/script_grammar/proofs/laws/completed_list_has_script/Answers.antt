use Rattle.script_grammar.proofs.Answer.{completed_plain}
use Rattle.script_grammar.proofs.laws.completed_list_has_script.Goals as goal

pub returns : goal.returns
returns c = λ ts full x h. completed_plain h
