use Rattle.script_grammar.proofs.Reached.{one_script}
use Rattle.script_grammar.proofs.laws.at_most_one_script.Goals as goal

pub returns : goal.returns
returns c = one_script
