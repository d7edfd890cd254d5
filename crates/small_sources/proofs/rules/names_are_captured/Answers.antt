use Rattle.std.proofs.Common.{refl}
use Rattle.small_sources.specs.Captures.{function_local_rows, local_name_rows, use_rows}
use Rattle.small_sources.proofs.Computing.{faults_hold, tables}
use Rattle.small_sources.proofs.rules.names_are_captured.Goals as goal

pub returns-clause-of_blocks : goal.returns-clause-of_blocks
unfolding tables
returns-clause-of_blocks c = faults_hold local_name_rows refl

pub returns-clause-of_functions : goal.returns-clause-of_functions
unfolding tables
returns-clause-of_functions c = faults_hold function_local_rows refl

pub returns-clause-uses : goal.returns-clause-uses
unfolding tables
returns-clause-uses c = faults_hold use_rows refl
