use Rattle.std.proofs.Common.{refl}
use Rattle.ucd_derived.specs.Binary.{is_xid_start, is_xid_continue}
use Rattle.ucd_derived.specs.XidStartRanges.{xid_start_ranges}
use Rattle.ucd_derived.specs.XidContinueRanges.{xid_continue_ranges}
use Rattle.ucd_table.specs.Rows.{in_ranges}
use Rattle.es_source.specs.Forms.{longest_punctuator}
use Rattle.script_grammar.specs.Kinds.{kinds_of_words, punctuators}
use Rattle.script_grammar.proofs.Decide.{fault_stands}
use Rattle.script_grammar.proofs.examples.operators_refused.Goals as goal

pub returns-clause-or_behind_coalesce : goal.returns-clause-or_behind_coalesce
unfolding kinds_of_words punctuators is_xid_start is_xid_continue xid_start_ranges xid_continue_ranges in_ranges longest_punctuator
returns-clause-or_behind_coalesce c = fault_stands refl

pub returns-clause-coalesce_behind_and : goal.returns-clause-coalesce_behind_and
unfolding kinds_of_words punctuators is_xid_start is_xid_continue xid_start_ranges xid_continue_ranges in_ranges longest_punctuator
returns-clause-coalesce_behind_and c = fault_stands refl

pub returns-clause-target_in_parentheses : goal.returns-clause-target_in_parentheses
unfolding kinds_of_words punctuators is_xid_start is_xid_continue xid_start_ranges xid_continue_ranges in_ranges longest_punctuator
returns-clause-target_in_parentheses c = fault_stands refl

pub returns-clause-update_of_a_call : goal.returns-clause-update_of_a_call
unfolding kinds_of_words punctuators is_xid_start is_xid_continue xid_start_ranges xid_continue_ranges in_ranges longest_punctuator
returns-clause-update_of_a_call c = fault_stands refl

pub returns-clause-in_within_the_head_of_a_for : goal.returns-clause-in_within_the_head_of_a_for
unfolding kinds_of_words punctuators is_xid_start is_xid_continue xid_start_ranges xid_continue_ranges in_ranges longest_punctuator
returns-clause-in_within_the_head_of_a_for c = fault_stands refl
