use Rattle.std.proofs.Common.{◌∙◌}
use Rattle.script_rules.proofs.Steps.{if_ok}
use Rattle.script_rules.proofs.Visits.{code_opened}
use Rattle.script_rules.proofs.faults.visits.open_code.Goals as goal

pub returns : goal.returns
returns c =
    if_ok c.open.result (λ id o.
    code_opened c.args.script.now.leaves c.args.script.now.nodes c.args.walk.now c.open.new.walk c.args.outer c.args.code id c.in_ok-fault.fault c.in_ok-scope.scope
    _ _ _ _ c.in_ok-fault.ensures c.in_ok-scope.ensures (c.deref.ensures.value ∙ c.in_ok-parameters.ensures) (c.deref-2.ensures.value ∙ c.in_ok-declared.ensures)
    (c.deref-3.ensures.value ∙ c.in_ok-parameters.ensures) (c.deref-4.ensures.value ∙ c.in_ok-declared.ensures) o) c.open.ensures
