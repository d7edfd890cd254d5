use Rattle.std.proofs.Common.{refl}
use Rattle.small_sources.specs.Words.{name_fault_rows, name_rows, number_fault_rows, number_rows, punctuator_fault_rows, punctuator_rows}
use Rattle.small_sources.proofs.Computing.{faults_hold, kinds_hold, tables}
use Rattle.small_sources.proofs.tokens.words_are_read.Goals as goal

pub returns-clause-names : goal.returns-clause-names
unfolding tables
returns-clause-names c = kinds_hold name_rows refl

pub returns-clause-name_faults : goal.returns-clause-name_faults
unfolding tables
returns-clause-name_faults c = faults_hold name_fault_rows refl

pub returns-clause-numbers : goal.returns-clause-numbers
unfolding tables
returns-clause-numbers c = kinds_hold number_rows refl

pub returns-clause-number_faults : goal.returns-clause-number_faults
unfolding tables
returns-clause-number_faults c = faults_hold number_fault_rows refl

pub returns-clause-punctuators : goal.returns-clause-punctuators
unfolding tables
returns-clause-punctuators c = kinds_hold punctuator_rows refl

pub returns-clause-punctuator_faults : goal.returns-clause-punctuator_faults
unfolding tables
returns-clause-punctuator_faults c = faults_hold punctuator_fault_rows refl
