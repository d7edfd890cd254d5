use Rattle.std.proofs.Common.{◌-◌}
use Rattle.dictionary_mode.specs.Counts.{IsTree}
use Rattle.dictionary_mode.proofs.Trees.{Descends}
use Rattle.dictionary_mode.proofs.numbers.Numbers.at.Given as goal

abbrev pub invariant-loop-node : goal.invariant-loop-node
invariant-loop-node l = (tree : IsTree l.self-inside.counts.items) → Descends l.self-inside.counts.items tree l.place l.node l.rest

abbrev pub decreases-loop-node : goal.decreases-loop-node
decreases-loop-node l = l.room - l.node
