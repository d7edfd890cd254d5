use Rattle.script_grammar.proofs.Reached.{one_nesting}
use Rattle.script_grammar.proofs.laws.one_nesting_each.Goals as goal

pub returns : goal.returns
returns c = one_nesting
