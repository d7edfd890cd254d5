use Rattle.std.proofs.Common.{drop, []}
use Rattle.script_rules.specs.declared.manner.Declared.{Declared}
use Rattle.script_rules.specs.Names.{declared_by}
use Rattle.script_rules.proofs.Lists.{GoesOn}
use Rattle.script_rules.proofs.names.declared_in.Given as goal

abbrev pub invariant-loop-item : goal.invariant-loop-item
invariant-loop-item l = GoesOn Declared l.script.nodes declared_by l.item-items (drop l.item-index l.item-items) [] l.declared.items
