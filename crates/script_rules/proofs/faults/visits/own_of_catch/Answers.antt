use Rattle.std.proofs.Common.{ap, ◌∙◌, ◌∷◌}
use Rattle.script_rules.specs.Arena.{tree_at}
use Rattle.script_rules.specs.Faults.{binding_faults, catch_names, duplicates, least}
use Rattle.script_rules.proofs.Earliest.{both_least}
use Rattle.script_rules.proofs.Visits.{catch_parameter}
use Rattle.script_rules.proofs.faults.visits.own_of_catch.Goals as goal

pub returns : goal.returns
returns c =
    let leaves = c.args.script.now.leaves in
    let block = tree_at c.args.script.now.nodes c.args.block in
    both_least c.binding_fault.result c.in_ok-twice.twice c.earlier.result (binding_faults leaves c.args.parameter.name) (duplicates leaves (catch_names c.args.parameter.name block))
    c.binding_fault.ensures (c.in_ok-twice.ensures ∙ ap (λ ds. least (duplicates leaves ds))
    (c.deref-2.ensures.value ∙ c.in_ok-names.ensures ∙ ap (λ ds. c.args.parameter ∷ ds) (c.deref.ensures.value ∙ c.in_ok-declared.ensures) ∙ catch_parameter c.args.parameter _ c.requires.manner)) c.earlier.ensures
