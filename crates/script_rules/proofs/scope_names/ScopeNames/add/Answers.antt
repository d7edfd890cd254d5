use Rattle.std.proofs.Common.{sym, ◌∙◌}
use Rattle.script_rules.proofs.NameTables.{stays, inserted}
use Rattle.script_rules.proofs.scope_names.ScopeNames.add.Goals as goal

pub returns-then-contains_key-clause-ok : goal.returns-then-contains_key-clause-ok
returns-then-contains_key-clause-ok c = rw (← c.self.view_is) (stays c.self.inside.table.entries c.args.units c.args.constant (sym c.contains_key.ensures ∙ c.if-contains_key.true))

pub returns-clause-ok : goal.returns-clause-ok
returns-clause-ok c =
    rw (← c.self.view_is) (inserted c.self.inside.table c.args.units c.args.constant _ (sym c.contains_key.ensures ∙ c.if-contains_key.false) c.in-Ok.ensures.entries)
