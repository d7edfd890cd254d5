use Rattle.std.proofs.Common.{refl}
use Rattle.small_sources.specs.Texts.{escape_fault_rows, escape_rows, text_fault_rows, text_rows}
use Rattle.small_sources.proofs.Computing.{faults_hold, kinds_hold, tables}
use Rattle.small_sources.proofs.tokens.texts_are_read.Goals as goal

pub returns-clause-escapes : goal.returns-clause-escapes
unfolding tables
returns-clause-escapes c = kinds_hold escape_rows refl

pub returns-clause-escape_faults : goal.returns-clause-escape_faults
unfolding tables
returns-clause-escape_faults c = faults_hold escape_fault_rows refl

pub returns-clause-texts : goal.returns-clause-texts
unfolding tables
returns-clause-texts c = kinds_hold text_rows refl

pub returns-clause-text_faults : goal.returns-clause-text_faults
unfolding tables
returns-clause-text_faults c = faults_hold text_fault_rows refl
