use Rattle.script_grammar.proofs.Firsts.{begins_with}
use Rattle.script_grammar.proofs.laws.first_token_of_each.Goals as goal

pub returns : goal.returns
returns c = begins_with
