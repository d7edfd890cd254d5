use Rattle.object_heap.proofs.Turns.{stops_turn_of}
use Rattle.object_heap.proofs.laws.stops_are_turns.Goals as goal

pub returns : goal.returns
returns c = stops_turn_of
