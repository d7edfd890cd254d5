use Rattle.std.proofs.Common.{length, ◌-◌}
use Rattle.script_rules.proofs.NameTables.{LooksOn}
use Rattle.script_rules.proofs.scope_names.ScopeNames.find_in_turn.Given as goal

abbrev pub invariant-names : goal.invariant-names
invariant-names l = LooksOn l.self l.units l.place

abbrev pub decreases-names : goal.decreases-names
decreases-names l = length l.self - l.place
