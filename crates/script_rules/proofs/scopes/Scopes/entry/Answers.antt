use Rattle.std.proofs.Common.{arith, ap, length, sym, ◌∙◌, Some, ◌<◌}
use Rattle.std.proofs.lemmas.Option.{slice_get-get_or}
use Rattle.script_rules.proofs.Chains.{length-chains, entry_at}
use Rattle.script_rules.proofs.scopes.Scopes.entry.Goals as goal

pub index-requires : goal.index-requires
index-requires c = omega (arith, ap length c.self.view_is, length-chains c.self.inside.all.items)

pub returns : goal.returns
returns c =
    let known : c.args.scope.0 < length c.self.inside.all.items = omega (arith, ap length c.self.view_is, length-chains c.self.inside.all.items) in
    rw (← c.self.view_is) (entry_at c.self.inside.all.items _ _ c.self.invariant.0 (slice_get-get_or c.self.inside.all.items c.args.scope.0 c.index.result.now known ∙ ap Some (sym c.index.ensures)))
