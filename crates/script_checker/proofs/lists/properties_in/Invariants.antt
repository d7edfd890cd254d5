use Rattle.std.proofs.Common.{◌≡◌, ◌++◌}
use Rattle.script_checker.specs.Values.{properties_in}
use Rattle.script_checker.proofs.lists.properties_in.Given as goal

abbrev pub invariant-loop-item : goal.invariant-loop-item
invariant-loop-item l = l.properties ++ properties_in (l.item-iterator.rest.items) ≡ properties_in l.fn.items
