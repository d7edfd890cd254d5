use Rattle.script_rules.proofs.NameTables.{found_place, no_place}
use Rattle.script_rules.proofs.scope_names.ScopeNames.find.Goals as goal

pub returns-in-Some : goal.returns-in-Some
returns-in-Some c = rw (← c.self.view_is) (found_place c.self.inside.table.entries c.args.units.now c.in-Some.place c.in-Some.constant.now c.in-Some.ensures.index c.in-Some.ensures.value)

pub returns-in-None : goal.returns-in-None
returns-in-None c = rw (← c.self.view_is) (no_place c.self.inside.table.entries c.args.units.now c.in-None.ensures.value)
