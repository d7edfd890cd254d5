use Rattle.std.proofs.Common.{refl}
use Rattle.ucd_derived.specs.Binary.{is_xid_start, is_xid_continue}
use Rattle.ucd_derived.specs.XidStartRanges.{xid_start_ranges}
use Rattle.ucd_derived.specs.XidContinueRanges.{xid_continue_ranges}
use Rattle.ucd_table.specs.Rows.{in_ranges}
use Rattle.es_source.specs.Forms.{longest_punctuator}
use Rattle.script_grammar.specs.Kinds.{kinds_of_words, punctuators}
use Rattle.script_grammar.proofs.Decide.{accepts}
use Rattle.script_grammar.proofs.examples.statements_read.Goals as goal

pub returns-clause-else_of_the_nearest_if : goal.returns-clause-else_of_the_nearest_if
unfolding kinds_of_words punctuators is_xid_start is_xid_continue xid_start_ranges xid_continue_ranges in_ranges longest_punctuator
returns-clause-else_of_the_nearest_if c = accepts refl

pub returns-clause-in_within_brackets : goal.returns-clause-in_within_brackets
unfolding kinds_of_words punctuators is_xid_start is_xid_continue xid_start_ranges xid_continue_ranges in_ranges longest_punctuator
returns-clause-in_within_brackets c = accepts refl

pub returns-clause-for_with_expressions : goal.returns-clause-for_with_expressions
unfolding kinds_of_words punctuators is_xid_start is_xid_continue xid_start_ranges xid_continue_ranges in_ranges longest_punctuator
returns-clause-for_with_expressions c = accepts refl

pub returns-clause-while_with_a_throw : goal.returns-clause-while_with_a_throw
unfolding kinds_of_words punctuators is_xid_start is_xid_continue xid_start_ranges xid_continue_ranges in_ranges longest_punctuator
returns-clause-while_with_a_throw c = accepts refl

pub returns-clause-constants : goal.returns-clause-constants
unfolding kinds_of_words punctuators is_xid_start is_xid_continue xid_start_ranges xid_continue_ranges in_ranges longest_punctuator
returns-clause-constants c = accepts refl

pub returns-clause-names_without_values : goal.returns-clause-names_without_values
unfolding kinds_of_words punctuators is_xid_start is_xid_continue xid_start_ranges xid_continue_ranges in_ranges longest_punctuator
returns-clause-names_without_values c = accepts refl

pub returns-clause-try_without_a_catch : goal.returns-clause-try_without_a_catch
unfolding kinds_of_words punctuators is_xid_start is_xid_continue xid_start_ranges xid_continue_ranges in_ranges longest_punctuator
returns-clause-try_without_a_catch c = accepts refl

pub returns-clause-try_with_all : goal.returns-clause-try_with_all
unfolding kinds_of_words punctuators is_xid_start is_xid_continue xid_start_ranges xid_continue_ranges in_ranges longest_punctuator
returns-clause-try_with_all c = accepts refl
