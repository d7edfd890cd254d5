use Rattle.std.proofs.Common.{refl}
use Rattle.small_sources.specs.Parts.{expression_part_rows, function_part_rows, statement_part_rows}
use Rattle.small_sources.proofs.Computing.{faults_hold, tables}
use Rattle.small_sources.proofs.rules.each_part_is_looked_at.Goals as goal

pub returns-clause-expressions : goal.returns-clause-expressions
unfolding tables
returns-clause-expressions c = faults_hold expression_part_rows refl

pub returns-clause-statements : goal.returns-clause-statements
unfolding tables
returns-clause-statements c = faults_hold statement_part_rows refl

pub returns-clause-functions : goal.returns-clause-functions
unfolding tables
returns-clause-functions c = faults_hold function_part_rows refl
