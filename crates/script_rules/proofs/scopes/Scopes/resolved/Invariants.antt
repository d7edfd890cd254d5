use Rattle.script_rules.specs.Chains.{outwards}
use Rattle.script_rules.proofs.Chains.{GoesOutwards}
use Rattle.script_rules.proofs.scopes.Scopes.resolved.Given as goal

abbrev pub invariant-outwards : goal.invariant-outwards
invariant-outwards l = GoesOutwards l.self l.fn.scope.0 l.units l.away l.next

abbrev pub decreases-outwards : goal.decreases-outwards
decreases-outwards l = outwards l.next
