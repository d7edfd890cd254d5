use Rattle.std.proofs.Common.{◌∙◌, sym, ap, arith}
use Rattle.script_rules.specs.Scopes.{resolved_by}
use Rattle.script_rules.proofs.NamePlaces.{place_below, placed, unplaced}
use Rattle.script_rules.proofs.scope_entry.says.Goals as goal

pub overflow_add-entry : goal.overflow_add-entry
overflow_add-entry c = omega (arith, place_below c.args.entry.now.scope.names c.args.units.now c.in-Some.place c.in-Some.constant c.in-Some.ensures)

pub returns-in-Some : goal.returns-in-Some
returns-in-Some c = λ outside.
    ap (λ p. resolved_by c.args.entry.now.scope c.args.away c.args.units.now p outside)
    (placed c.args.entry.now.first c.args.entry.now.scope.names c.args.units.now c.in-Some.place c.in-Some.constant c.in-Some.ensures)
    ∙ sym c.found_in.ensures

pub returns-in-None : goal.returns-in-None
returns-in-None c = λ outside.
    ap (λ p. resolved_by c.args.entry.now.scope c.args.away c.args.units.now p outside)
    (unplaced c.args.entry.now.first c.args.entry.now.scope.names c.args.units.now c.in-None.ensures)
    ∙ c.passed_at.ensures outside
