use Rattle.std.proofs.Common.{◌≡◌, ◌++◌, drop}
use Rattle.script_checker.specs.Values.{elements_in}
use Rattle.script_checker.proofs.lists.elements_in.Given as goal

abbrev pub invariant-loop-item : goal.invariant-loop-item
invariant-loop-item l = l.elements ++ elements_in (drop l.item-index l.items) ≡ elements_in l.items
