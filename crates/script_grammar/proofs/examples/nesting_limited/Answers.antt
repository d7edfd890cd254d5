use Rattle.std.proofs.Common.{refl}
use Rattle.ucd_derived.specs.Binary.{is_xid_start, is_xid_continue}
use Rattle.ucd_derived.specs.XidStartRanges.{xid_start_ranges}
use Rattle.ucd_derived.specs.XidContinueRanges.{xid_continue_ranges}
use Rattle.ucd_table.specs.Rows.{in_ranges}
use Rattle.es_source.specs.Forms.{longest_punctuator}
use Rattle.script_grammar.specs.Kinds.{kinds_of_words, punctuators}
use Rattle.script_grammar.proofs.Decide.{accepts, fault_stands}
use Rattle.script_grammar.proofs.examples.nesting_limited.Goals as goal

pub returns-clause-within : goal.returns-clause-within
unfolding kinds_of_words punctuators is_xid_start is_xid_continue xid_start_ranges xid_continue_ranges in_ranges longest_punctuator
returns-clause-within c = accepts refl

pub returns-clause-beyond : goal.returns-clause-beyond
unfolding kinds_of_words punctuators is_xid_start is_xid_continue xid_start_ranges xid_continue_ranges in_ranges longest_punctuator
returns-clause-beyond c = fault_stands refl
