use Rattle.std.proofs.Common.{◌∙◌, sym, length}
use Rattle.script_rules.proofs.NameTables.{looks_here, looks_past, looks_nowhere, nearer, none_at, within}
use Rattle.script_rules.proofs.scope_names.ScopeNames.find_in_turn.Goals as goal

pub returns-then-eq : goal.returns-then-eq
returns-then-eq c =
    looks_here c.self.inside.table.entries c.args.self.now c.args.units.now c.names.place c.in-Some.name.now c.in-Some.constant.now c.self.view_is (sym c.in-Some.ensures.entry)
    (sym c.eq.ensures ∙ c.if-eq.true) c.names.invariant

pub names-smaller : goal.names-smaller
names-smaller c =
    nearer (length c.args.self.now) c.names.place
    (within c.self.inside.table.entries c.args.self.now c.args.units.now c.names.place c.in-Some.name.now c.in-Some.constant.now c.self.view_is (sym c.in-Some.ensures.entry))

pub names-preserved : goal.names-preserved
names-preserved c =
    looks_past c.self.inside.table.entries c.args.self.now c.args.units.now c.names.place c.in-Some.name.now c.in-Some.constant.now c.self.view_is (sym c.in-Some.ensures.entry)
    (sym c.eq.ensures ∙ c.if-eq.false) c.names.invariant

pub returns : goal.returns
returns c =
    looks_nowhere c.self.inside.table.entries c.args.self.now c.args.units.now c.names.place c.self.view_is
    (none_at _ _ _ c.get_index.ensures.entry c.in_default.is) c.names.invariant
