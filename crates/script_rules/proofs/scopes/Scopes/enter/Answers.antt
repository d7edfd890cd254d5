use Rattle.std.proofs.Common.{arith}
use Rattle.script_rules.proofs.Chains.{entered_fits, entered}
use Rattle.script_rules.proofs.scopes.Scopes.enter.Goals as goal

pub invariant_of-self-2 : goal.invariant_of-self-2
invariant_of-self-2 c = (
  entered_fits c.self.inside.all.items _ c.in_ok-entry.entry c.args.self.now c.args.outer c.args.scope c.outside-outside.result c.self.view_is c.in-Ok.ensures.items c.outside-outside.ensures
      c.in_ok-entry.ensures c.self.invariant.0 c.requires,
  omega (arith, c.in-Ok.ensures.len),
)

pub returns : goal.returns
returns c =
    entered c.self.inside.all.items _ c.in_ok-entry.entry c.args.self.now c.args.outer c.args.scope c.outside-outside.result c.self.view_is c.in-Ok.ensures.items c.outside-outside.ensures c.in_ok-entry.ensures
    c.len-id.result (omega (arith, c.len-id.ensures))
