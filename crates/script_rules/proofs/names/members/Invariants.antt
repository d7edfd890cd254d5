use Rattle.script_rules.proofs.Lists.{GoesDown}
use Rattle.script_rules.proofs.names.members.Given as goal

abbrev pub invariant-spine : goal.invariant-spine
invariant-spine l = GoesDown l.script.nodes l.list l.rest l.found.items

abbrev pub decreases-spine : goal.decreases-spine
decreases-spine l = l.rest
