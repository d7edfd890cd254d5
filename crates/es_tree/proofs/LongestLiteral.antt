-- No object literal has more property definitions than the longest.
use Rattle.std.proofs.Common.{◌≡◌, ◌≤◌, ℕ, zero, suc, List, [], ◌∷◌, Some, slice_get, max, length, drop, arith, get_or}
use Rattle.es_tree.specs.Definitions.{definitions_at, most_definitions}
use Rattle.es_tree.specs.declared.node.Node.{Node}

pub most-at : (ns : List Node) (i : ℕ) (n : Node) → slice_get ns i ≡ Some n → definitions_at n ≤ most_definitions ns
most-at [] i n e = absurd (cc (e))
most-at (m ∷ ns) zero n e = let same : m ≡ n = cc (e) in rw (← same) (omega arith)
most-at (m ∷ ns) (suc i) n e = let rest = most-at ns i n e in omega (arith, rest)
