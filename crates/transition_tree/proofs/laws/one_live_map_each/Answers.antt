use Rattle.transition_tree.proofs.Belonging.{live-same}
use Rattle.transition_tree.proofs.laws.one_live_map_each.Goals as goal

pub returns : goal.returns
returns c = live-same
