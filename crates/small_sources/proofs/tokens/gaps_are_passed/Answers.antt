use Rattle.std.proofs.Common.{refl}
use Rattle.small_sources.specs.Gaps.{comment_fault_rows, comment_rows, line_terminator_rows, no_blank_rows, white_space_rows}
use Rattle.small_sources.proofs.Computing.{faults_hold, readings_hold, tables}
use Rattle.small_sources.proofs.tokens.gaps_are_passed.Goals as goal

pub returns-clause-white_space : goal.returns-clause-white_space
unfolding tables
returns-clause-white_space c = readings_hold white_space_rows refl

pub returns-clause-line_terminators : goal.returns-clause-line_terminators
unfolding tables
returns-clause-line_terminators c = readings_hold line_terminator_rows refl

pub returns-clause-no_blanks : goal.returns-clause-no_blanks
unfolding tables
returns-clause-no_blanks c = faults_hold no_blank_rows refl

pub returns-clause-comments : goal.returns-clause-comments
unfolding tables
returns-clause-comments c = readings_hold comment_rows refl

pub returns-clause-comment_faults : goal.returns-clause-comment_faults
unfolding tables
returns-clause-comment_faults c = faults_hold comment_fault_rows refl
