use Rattle.std.proofs.Common.{refl}
use Rattle.ucd_derived.specs.Binary.{is_xid_start, is_xid_continue}
use Rattle.ucd_derived.specs.XidStartRanges.{xid_start_ranges}
use Rattle.ucd_derived.specs.XidContinueRanges.{xid_continue_ranges}
use Rattle.ucd_table.specs.Rows.{in_ranges}
use Rattle.es_source.specs.Forms.{longest_punctuator}
use Rattle.script_grammar.specs.Kinds.{kinds_of_words, punctuators}
use Rattle.script_grammar.proofs.Decide.{accepts}
use Rattle.script_grammar.proofs.examples.semicolons_put_in.Goals as goal

pub returns-clause-lines : goal.returns-clause-lines
unfolding kinds_of_words punctuators is_xid_start is_xid_continue xid_start_ranges xid_continue_ranges in_ranges longest_punctuator
returns-clause-lines c = accepts refl

pub returns-clause-before_a_brace : goal.returns-clause-before_a_brace
unfolding kinds_of_words punctuators is_xid_start is_xid_continue xid_start_ranges xid_continue_ranges in_ranges longest_punctuator
returns-clause-before_a_brace c = accepts refl

pub returns-clause-before_an_update : goal.returns-clause-before_an_update
unfolding kinds_of_words punctuators is_xid_start is_xid_continue xid_start_ranges xid_continue_ranges in_ranges longest_punctuator
returns-clause-before_an_update c = accepts refl

pub returns-clause-own_semicolon_behind_a_break : goal.returns-clause-own_semicolon_behind_a_break
unfolding kinds_of_words punctuators is_xid_start is_xid_continue xid_start_ranges xid_continue_ranges in_ranges longest_punctuator
returns-clause-own_semicolon_behind_a_break c = accepts refl

pub returns-clause-five_lines : goal.returns-clause-five_lines
unfolding kinds_of_words punctuators is_xid_start is_xid_continue xid_start_ranges xid_continue_ranges in_ranges longest_punctuator
returns-clause-five_lines c = accepts refl
