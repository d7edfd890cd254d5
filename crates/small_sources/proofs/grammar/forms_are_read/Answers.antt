use Rattle.std.proofs.Common.{refl}
use Rattle.small_sources.specs.Forms.{call_rows, literal_rows, new_rows, statement_rows}
use Rattle.small_sources.proofs.Computing.{tables, trees_hold}
use Rattle.small_sources.proofs.grammar.forms_are_read.Goals as goal

pub returns-clause-constructions : goal.returns-clause-constructions
unfolding tables
returns-clause-constructions c = trees_hold new_rows refl

pub returns-clause-calls : goal.returns-clause-calls
unfolding tables
returns-clause-calls c = trees_hold call_rows refl

pub returns-clause-literals : goal.returns-clause-literals
unfolding tables
returns-clause-literals c = trees_hold literal_rows refl

pub returns-clause-statements : goal.returns-clause-statements
unfolding tables
returns-clause-statements c = trees_hold statement_rows refl
