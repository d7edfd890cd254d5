use Rattle.std.proofs.Common.{refl}
use Rattle.ucd_derived.specs.Binary.{is_xid_start, is_xid_continue}
use Rattle.ucd_derived.specs.XidStartRanges.{xid_start_ranges}
use Rattle.ucd_derived.specs.XidContinueRanges.{xid_continue_ranges}
use Rattle.ucd_table.specs.Rows.{in_ranges}
use Rattle.es_source.specs.Forms.{longest_punctuator}
use Rattle.script_grammar.specs.Kinds.{kinds_of_words, punctuators}
use Rattle.script_grammar.proofs.Decide.{fault_stands}
use Rattle.script_grammar.proofs.examples.statements_refused.Goals as goal

pub returns-clause-second_else : goal.returns-clause-second_else
unfolding kinds_of_words punctuators is_xid_start is_xid_continue xid_start_ranges xid_continue_ranges in_ranges longest_punctuator
returns-clause-second_else c = fault_stands refl

pub returns-clause-try_alone : goal.returns-clause-try_alone
unfolding kinds_of_words punctuators is_xid_start is_xid_continue xid_start_ranges xid_continue_ranges in_ranges longest_punctuator
returns-clause-try_alone c = fault_stands refl

pub returns-clause-constant_without_a_value : goal.returns-clause-constant_without_a_value
unfolding kinds_of_words punctuators is_xid_start is_xid_continue xid_start_ranges xid_continue_ranges in_ranges longest_punctuator
returns-clause-constant_without_a_value c = fault_stands refl

pub returns-clause-function_as_a_statement : goal.returns-clause-function_as_a_statement
unfolding kinds_of_words punctuators is_xid_start is_xid_continue xid_start_ranges xid_continue_ranges in_ranges longest_punctuator
returns-clause-function_as_a_statement c = fault_stands refl

pub returns-clause-reserved_word_as_a_name : goal.returns-clause-reserved_word_as_a_name
unfolding kinds_of_words punctuators is_xid_start is_xid_continue xid_start_ranges xid_continue_ranges in_ranges longest_punctuator
returns-clause-reserved_word_as_a_name c = fault_stands refl
