use Rattle.std.proofs.Common.{refl}
use Rattle.small_sources.specs.Refusals.{refused_form_rows, refused_operator_rows, refused_statement_rows}
use Rattle.small_sources.proofs.Computing.{faults_hold, tables}
use Rattle.small_sources.proofs.grammar.other_forms_are_refused.Goals as goal

pub returns-clause-operators : goal.returns-clause-operators
unfolding tables
returns-clause-operators c = faults_hold refused_operator_rows refl

pub returns-clause-forms : goal.returns-clause-forms
unfolding tables
returns-clause-forms c = faults_hold refused_form_rows refl

pub returns-clause-statements : goal.returns-clause-statements
unfolding tables
returns-clause-statements c = faults_hold refused_statement_rows refl
