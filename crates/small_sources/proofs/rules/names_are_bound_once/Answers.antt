use Rattle.std.proofs.Common.{refl}
use Rattle.small_sources.specs.Duplicates.{block_name_rows, catch_name_rows, function_name_rows, prototype_rows, script_name_rows}
use Rattle.small_sources.proofs.Computing.{faults_hold, tables}
use Rattle.small_sources.proofs.rules.names_are_bound_once.Goals as goal

pub returns-clause-in_scripts : goal.returns-clause-in_scripts
unfolding tables
returns-clause-in_scripts c = faults_hold script_name_rows refl

pub returns-clause-in_blocks : goal.returns-clause-in_blocks
unfolding tables
returns-clause-in_blocks c = faults_hold block_name_rows refl

pub returns-clause-in_functions : goal.returns-clause-in_functions
unfolding tables
returns-clause-in_functions c = faults_hold function_name_rows refl

pub returns-clause-in_catches : goal.returns-clause-in_catches
unfolding tables
returns-clause-in_catches c = faults_hold catch_name_rows refl

pub returns-clause-in_literals : goal.returns-clause-in_literals
unfolding tables
returns-clause-in_literals c = faults_hold prototype_rows refl
