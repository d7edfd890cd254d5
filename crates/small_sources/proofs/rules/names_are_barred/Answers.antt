use Rattle.std.proofs.Common.{refl}
use Rattle.small_sources.specs.BadBindings.{bound_name_rows, written_name_rows}
use Rattle.small_sources.proofs.Computing.{faults_hold, tables}
use Rattle.small_sources.proofs.rules.names_are_barred.Goals as goal

pub returns-clause-bound : goal.returns-clause-bound
unfolding tables
returns-clause-bound c = faults_hold bound_name_rows refl

pub returns-clause-written : goal.returns-clause-written
unfolding tables
returns-clause-written c = faults_hold written_name_rows refl
