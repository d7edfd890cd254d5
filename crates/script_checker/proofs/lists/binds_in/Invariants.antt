use Rattle.std.proofs.Common.{◌≡◌, ◌++◌}
use Rattle.script_checker.specs.Values.{binds_in}
use Rattle.script_checker.proofs.lists.binds_in.Given as goal

abbrev pub invariant-loop-item : goal.invariant-loop-item
invariant-loop-item l = l.binds ++ binds_in (l.item-iterator.rest.items) ≡ binds_in l.fn.items
