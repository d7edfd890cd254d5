use Rattle.std.proofs.Common.{ap, ◌∙◌, ◌++◌}
use Rattle.script_rules.specs.Faults.{binding_faults, duplicates, least}
use Rattle.script_rules.proofs.Earliest.{both_least}
use Rattle.script_rules.proofs.faults.visits.own_of_code.Goals as goal

pub returns-in-Some : goal.returns-in-Some
returns-in-Some c =
    let leaves = c.args.script.now.leaves in
    rw c.in-Some.is (both_least c.binding_fault.result c.in_ok-twice.twice c.earlier.result (binding_faults leaves c.in-Some.name) (duplicates leaves (c.args.parameters.now ++ c.args.declared.now))
    c.binding_fault.ensures (c.in_ok-twice.ensures ∙ ap (λ ds. least (duplicates leaves ds)) (c.deref.ensures.value ∙ c.in_ok-names.ensures)) c.earlier.ensures)
