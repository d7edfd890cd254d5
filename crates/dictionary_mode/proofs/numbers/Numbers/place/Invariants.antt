use Rattle.dictionary_mode.specs.Counts.{IsTree}
use Rattle.dictionary_mode.proofs.Trees.{Climbs}
use Rattle.dictionary_mode.proofs.numbers.Numbers.place.Given as goal

abbrev pub invariant-loop-node : goal.invariant-loop-node
invariant-loop-node l = (tree : IsTree l.self-inside.counts.items) → Climbs l.self-inside.counts.items tree l.number l.node l.before

abbrev pub decreases-loop-node : goal.decreases-loop-node
decreases-loop-node l = l.node
