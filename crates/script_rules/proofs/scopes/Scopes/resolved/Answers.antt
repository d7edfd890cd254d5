use Rattle.std.proofs.Common.{subst, rules}
use Rattle.script_rules.specs.Chains.{IsKnown}
use Rattle.script_rules.proofs.Chains.{goes_outwards}
use Rattle.script_rules.proofs.scopes.Scopes.resolved.Goals as goal

pub outwards-preserved : goal.outwards-preserved
outwards-preserved c =
    rw c.is_away-away.ensures
    (goes_outwards c.args.self.now c.args.scope.0 c.in-Some.id.0 c.args.units.now c.outwards.away c.entry-entry.result.now c.entry-entry.ensures
    c.in_default-says.ensures (subst (IsKnown c.args.self.now) c.in-Some.is c.outwards.invariant.known) (search rules))
