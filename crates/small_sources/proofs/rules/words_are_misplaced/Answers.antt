use Rattle.std.proofs.Common.{refl}
use Rattle.small_sources.specs.Misplacements.{break_in_function_rows, break_rows, delete_rows, return_rows, stray_break_rows, stray_return_rows}
use Rattle.small_sources.proofs.Computing.{faults_hold, tables}
use Rattle.small_sources.proofs.rules.words_are_misplaced.Goals as goal

pub returns-clause-breaks : goal.returns-clause-breaks
unfolding tables
returns-clause-breaks c = faults_hold break_rows refl

pub returns-clause-stray_breaks : goal.returns-clause-stray_breaks
unfolding tables
returns-clause-stray_breaks c = faults_hold stray_break_rows refl

pub returns-clause-breaks_in_functions : goal.returns-clause-breaks_in_functions
unfolding tables
returns-clause-breaks_in_functions c = faults_hold break_in_function_rows refl

pub returns-clause-returns : goal.returns-clause-returns
unfolding tables
returns-clause-returns c = faults_hold return_rows refl

pub returns-clause-stray_returns : goal.returns-clause-stray_returns
unfolding tables
returns-clause-stray_returns c = faults_hold stray_return_rows refl

pub returns-clause-deletions : goal.returns-clause-deletions
unfolding tables
returns-clause-deletions c = faults_hold delete_rows refl
