use Rattle.std.proofs.Common.{refl}
use Rattle.ucd_derived.specs.Binary.{is_xid_start, is_xid_continue}
use Rattle.ucd_derived.specs.XidStartRanges.{xid_start_ranges}
use Rattle.ucd_derived.specs.XidContinueRanges.{xid_continue_ranges}
use Rattle.ucd_table.specs.Rows.{in_ranges}
use Rattle.es_source.specs.Forms.{longest_punctuator}
use Rattle.script_grammar.specs.Kinds.{kinds_of_words, punctuators}
use Rattle.script_grammar.proofs.Decide.{fault_stands}
use Rattle.script_grammar.proofs.examples.semicolons_left_out.Goals as goal

pub returns-clause-on_the_same_line : goal.returns-clause-on_the_same_line
unfolding kinds_of_words punctuators is_xid_start is_xid_continue xid_start_ranges xid_continue_ranges in_ranges longest_punctuator
returns-clause-on_the_same_line c = fault_stands refl

pub returns-clause-in_the_head_of_a_for : goal.returns-clause-in_the_head_of_a_for
unfolding kinds_of_words punctuators is_xid_start is_xid_continue xid_start_ranges xid_continue_ranges in_ranges longest_punctuator
returns-clause-in_the_head_of_a_for c = fault_stands refl

pub returns-clause-as_an_empty_statement : goal.returns-clause-as_an_empty_statement
unfolding kinds_of_words punctuators is_xid_start is_xid_continue xid_start_ranges xid_continue_ranges in_ranges longest_punctuator
returns-clause-as_an_empty_statement c = fault_stands refl

pub returns-clause-behind_throw : goal.returns-clause-behind_throw
unfolding kinds_of_words punctuators is_xid_start is_xid_continue xid_start_ranges xid_continue_ranges in_ranges longest_punctuator
returns-clause-behind_throw c = fault_stands refl

pub returns-clause-behind_an_operator : goal.returns-clause-behind_an_operator
unfolding kinds_of_words punctuators is_xid_start is_xid_continue xid_start_ranges xid_continue_ranges in_ranges longest_punctuator
returns-clause-behind_an_operator c = fault_stands refl

pub returns-clause-behind_an_update : goal.returns-clause-behind_an_update
unfolding kinds_of_words punctuators is_xid_start is_xid_continue xid_start_ranges xid_continue_ranges in_ranges longest_punctuator
returns-clause-behind_an_update c = fault_stands refl
