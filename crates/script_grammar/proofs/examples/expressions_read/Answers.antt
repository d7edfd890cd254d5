use Rattle.std.proofs.Common.{refl}
use Rattle.ucd_derived.specs.Binary.{is_xid_start, is_xid_continue}
use Rattle.ucd_derived.specs.XidStartRanges.{xid_start_ranges}
use Rattle.ucd_derived.specs.XidContinueRanges.{xid_continue_ranges}
use Rattle.ucd_table.specs.Rows.{in_ranges}
use Rattle.es_source.specs.Forms.{longest_punctuator}
use Rattle.script_grammar.specs.Kinds.{kinds_of_words, punctuators}
use Rattle.script_grammar.proofs.Decide.{accepts}
use Rattle.script_grammar.proofs.examples.expressions_read.Goals as goal

pub returns-clause-conditional_in_a_list : goal.returns-clause-conditional_in_a_list
unfolding kinds_of_words punctuators is_xid_start is_xid_continue xid_start_ranges xid_continue_ranges in_ranges longest_punctuator
returns-clause-conditional_in_a_list c = accepts refl

pub returns-clause-prefix_operators : goal.returns-clause-prefix_operators
unfolding kinds_of_words punctuators is_xid_start is_xid_continue xid_start_ranges xid_continue_ranges in_ranges longest_punctuator
returns-clause-prefix_operators c = accepts refl

pub returns-clause-updates : goal.returns-clause-updates
unfolding kinds_of_words punctuators is_xid_start is_xid_continue xid_start_ranges xid_continue_ranges in_ranges longest_punctuator
returns-clause-updates c = accepts refl

pub returns-clause-words : goal.returns-clause-words
unfolding kinds_of_words punctuators is_xid_start is_xid_continue xid_start_ranges xid_continue_ranges in_ranges longest_punctuator
returns-clause-words c = accepts refl

pub returns-clause-function_with_a_last_comma : goal.returns-clause-function_with_a_last_comma
unfolding kinds_of_words punctuators is_xid_start is_xid_continue xid_start_ranges xid_continue_ranges in_ranges longest_punctuator
returns-clause-function_with_a_last_comma c = accepts refl
