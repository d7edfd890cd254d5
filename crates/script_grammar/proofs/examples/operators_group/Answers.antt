use Rattle.std.proofs.Common.{refl}
use Rattle.ucd_derived.specs.Binary.{is_xid_start, is_xid_continue}
use Rattle.ucd_derived.specs.XidStartRanges.{xid_start_ranges}
use Rattle.ucd_derived.specs.XidContinueRanges.{xid_continue_ranges}
use Rattle.ucd_table.specs.Rows.{in_ranges}
use Rattle.es_source.specs.Forms.{longest_punctuator}
use Rattle.script_grammar.specs.Kinds.{kinds_of_words, punctuators}
use Rattle.script_grammar.proofs.Decide.{accepts}
use Rattle.script_grammar.proofs.examples.operators_group.Goals as goal

pub returns-clause-from_the_left : goal.returns-clause-from_the_left
unfolding kinds_of_words punctuators is_xid_start is_xid_continue xid_start_ranges xid_continue_ranges in_ranges longest_punctuator
returns-clause-from_the_left c = accepts refl

pub returns-clause-by_their_levels : goal.returns-clause-by_their_levels
unfolding kinds_of_words punctuators is_xid_start is_xid_continue xid_start_ranges xid_continue_ranges in_ranges longest_punctuator
returns-clause-by_their_levels c = accepts refl

pub returns-clause-assignments_from_the_right : goal.returns-clause-assignments_from_the_right
unfolding kinds_of_words punctuators is_xid_start is_xid_continue xid_start_ranges xid_continue_ranges in_ranges longest_punctuator
returns-clause-assignments_from_the_right c = accepts refl

pub returns-clause-with_parentheses : goal.returns-clause-with_parentheses
unfolding kinds_of_words punctuators is_xid_start is_xid_continue xid_start_ranges xid_continue_ranges in_ranges longest_punctuator
returns-clause-with_parentheses c = accepts refl

pub returns-clause-new_with_its_callee : goal.returns-clause-new_with_its_callee
unfolding kinds_of_words punctuators is_xid_start is_xid_continue xid_start_ranges xid_continue_ranges in_ranges longest_punctuator
returns-clause-new_with_its_callee c = accepts refl
