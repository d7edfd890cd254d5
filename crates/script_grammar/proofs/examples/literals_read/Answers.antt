use Rattle.std.proofs.Common.{refl}
use Rattle.ucd_derived.specs.Binary.{is_xid_start, is_xid_continue}
use Rattle.ucd_derived.specs.XidStartRanges.{xid_start_ranges}
use Rattle.ucd_derived.specs.XidContinueRanges.{xid_continue_ranges}
use Rattle.ucd_table.specs.Rows.{in_ranges}
use Rattle.es_source.specs.Forms.{longest_punctuator}
use Rattle.script_grammar.specs.Kinds.{kinds_of_words, punctuators}
use Rattle.script_grammar.proofs.Decide.{accepts}
use Rattle.script_grammar.proofs.examples.literals_read.Goals as goal

pub returns-clause-array_with_a_hole : goal.returns-clause-array_with_a_hole
unfolding kinds_of_words punctuators is_xid_start is_xid_continue xid_start_ranges xid_continue_ranges in_ranges longest_punctuator
returns-clause-array_with_a_hole c = accepts refl

pub returns-clause-object_with_a_setter : goal.returns-clause-object_with_a_setter
unfolding kinds_of_words punctuators is_xid_start is_xid_continue xid_start_ranges xid_continue_ranges in_ranges longest_punctuator
returns-clause-object_with_a_setter c = accepts refl

pub returns-clause-get_and_set_as_names : goal.returns-clause-get_and_set_as_names
unfolding kinds_of_words punctuators is_xid_start is_xid_continue xid_start_ranges xid_continue_ranges in_ranges longest_punctuator
returns-clause-get_and_set_as_names c = accepts refl

pub returns-clause-object_with_each_property : goal.returns-clause-object_with_each_property
unfolding kinds_of_words punctuators is_xid_start is_xid_continue xid_start_ranges xid_continue_ranges in_ranges longest_punctuator
returns-clause-object_with_each_property c = accepts refl
