use Rattle.std.proofs.Common.{refl}
use Rattle.small_sources.specs.FaultOrder.{order_rows, phase_rows}
use Rattle.small_sources.proofs.Computing.{faults_hold, tables}
use Rattle.small_sources.proofs.rules.the_least_fault_is_first.Goals as goal

pub returns-clause-rules : goal.returns-clause-rules
unfolding tables
returns-clause-rules c = faults_hold order_rows refl

pub returns-clause-phases : goal.returns-clause-phases
unfolding tables
returns-clause-phases c = faults_hold phase_rows refl
