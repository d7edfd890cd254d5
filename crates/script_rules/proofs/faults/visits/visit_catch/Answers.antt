use Rattle.std.proofs.Common.{◌∷◌, []}
use Rattle.script_rules.specs.declared.manner.Manner.TheVariants as manner
use Rattle.script_rules.specs.Arena.{tree_at}
use Rattle.script_rules.specs.Names.{declared_as}
use Rattle.script_rules.specs.Scopes.{part_scope}
use Rattle.script_rules.specs.Visits.{own_of_catch}
use Rattle.script_rules.specs.Walks.{size_at}
use Rattle.script_rules.proofs.Steps.{on_ok}
use Rattle.script_rules.proofs.Visits.{inside}
use Rattle.script_rules.proofs.faults.visits.visit_catch.Goals as goal

pub returns : goal.returns
returns c =
    let leaves = c.args.script.now.leaves in
    let ns = c.args.script.now.nodes in
    on_ok c.put_off.result (λ v.
    inside leaves ns c.args.walk.now c.open.new.walk c.put_off.new.walk c.args.task (tree_at ns c.args.block) (size_at ns c.args.block)
    (own_of_catch leaves c.args.name (tree_at ns c.args.block)) c.in_ok-fault.fault c.in_ok-scope.scope (part_scope leaves (declared_as manner.Catch c.args.name ∷ [])) c.in_ok-inner.inner
    c.in_ok-fault.ensures c.in_ok-scope.ensures c.in_ok-inner.ensures v) c.put_off.ensures
