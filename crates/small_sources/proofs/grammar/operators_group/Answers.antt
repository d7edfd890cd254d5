use Rattle.std.proofs.Common.{refl}
use Rattle.small_sources.specs.Levels.{assignment_rows, conditional_rows, level_rows, prefix_rows, same_level_rows}
use Rattle.small_sources.proofs.Computing.{tables, trees_hold}
use Rattle.small_sources.proofs.grammar.operators_group.Goals as goal

pub returns-clause-levels : goal.returns-clause-levels
unfolding tables
returns-clause-levels c = trees_hold level_rows refl

pub returns-clause-same_levels : goal.returns-clause-same_levels
unfolding tables
returns-clause-same_levels c = trees_hold same_level_rows refl

pub returns-clause-assignments : goal.returns-clause-assignments
unfolding tables
returns-clause-assignments c = trees_hold assignment_rows refl

pub returns-clause-prefixes : goal.returns-clause-prefixes
unfolding tables
returns-clause-prefixes c = trees_hold prefix_rows refl

pub returns-clause-conditionals : goal.returns-clause-conditionals
unfolding tables
returns-clause-conditionals c = trees_hold conditional_rows refl
