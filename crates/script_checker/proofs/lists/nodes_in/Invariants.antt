use Rattle.std.proofs.Common.{◌≡◌, ◌++◌, drop}
use Rattle.script_checker.specs.Values.{nodes_in}
use Rattle.script_checker.proofs.lists.nodes_in.Given as goal

abbrev pub invariant-loop-item : goal.invariant-loop-item
invariant-loop-item l = l.nodes ++ nodes_in (drop l.item-index l.items) ≡ nodes_in l.items
