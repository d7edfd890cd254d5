use Rattle.std.proofs.Common.{refl}
use Rattle.small_sources.specs.ReservedWords.{key_rows, member_rows, plain_rows, reserved_rows, unused_rows}
use Rattle.small_sources.proofs.Computing.{faults_hold, tables, trees_hold}
use Rattle.small_sources.proofs.grammar.reserved_words_are_no_names.Goals as goal

pub returns-clause-reserved : goal.returns-clause-reserved
unfolding tables
returns-clause-reserved c = faults_hold reserved_rows refl

pub returns-clause-plain : goal.returns-clause-plain
unfolding tables
returns-clause-plain c = faults_hold plain_rows refl

pub returns-clause-unused : goal.returns-clause-unused
unfolding tables
returns-clause-unused c = faults_hold unused_rows refl

pub returns-clause-members : goal.returns-clause-members
unfolding tables
returns-clause-members c = trees_hold member_rows refl

pub returns-clause-keys : goal.returns-clause-keys
unfolding tables
returns-clause-keys c = trees_hold key_rows refl
