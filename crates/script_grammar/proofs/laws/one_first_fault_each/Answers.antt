use Rattle.script_grammar.proofs.Faults.{first_fault}
use Rattle.script_grammar.proofs.laws.one_first_fault_each.Goals as goal

pub returns : goal.returns
returns c = first_fault
