use Rattle.object_heap.specs.Stands.{follows_none, follows_then}
use Rattle.object_heap.proofs.laws.heaps_follow_in_turn.Goals as goal

pub returns : goal.returns
returns c = (follows_none, follows_then)
