use Rattle.std.proofs.Common.{◌≡◌, ◌≤◌, length, drop}
use Rattle.es_tree.specs.Definitions.{most_definitions}
use Rattle.es_tree.proofs.definitions.most_definitions.Given as goal

abbrev pub invariant-loop-i : goal.invariant-loop-i
invariant-loop-i l = record {
  within : l.i ≤ length l.nodes;
  most : l.most ≡ most_definitions (drop l.i l.nodes);
}

abbrev pub decreases-loop-i : goal.decreases-loop-i
decreases-loop-i l = l.i
