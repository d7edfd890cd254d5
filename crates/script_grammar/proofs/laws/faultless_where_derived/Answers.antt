use Rattle.script_grammar.proofs.Faults.{faultless}
use Rattle.script_grammar.proofs.laws.faultless_where_derived.Goals as goal

pub returns : goal.returns
returns c = faultless
