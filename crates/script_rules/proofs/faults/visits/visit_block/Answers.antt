use Rattle.std.proofs.Common.{ap, ◌∙◌}
use Rattle.script_rules.specs.Arena.{tree_at}
use Rattle.script_rules.specs.Faults.{duplicates, least}
use Rattle.script_rules.specs.Names.{declared_in}
use Rattle.script_rules.specs.Scopes.{part_scope}
use Rattle.script_rules.specs.Walks.{size_at}
use Rattle.script_rules.proofs.Steps.{on_ok}
use Rattle.script_rules.proofs.Visits.{inside}
use Rattle.script_rules.proofs.faults.visits.visit_block.Goals as goal

pub returns : goal.returns
returns c =
    let leaves = c.args.script.now.leaves in
    let ns = c.args.script.now.nodes in
    on_ok c.put_off.result (λ v.
    inside leaves ns c.args.walk.now c.open.new.walk c.put_off.new.walk c.args.task (tree_at ns c.args.items) (size_at ns c.args.items)
    (duplicates leaves (declared_in (tree_at ns c.args.items))) c.in_ok-fault.fault c.in_ok-scope.scope (part_scope leaves (declared_in (tree_at ns c.args.items))) c.in_ok-inner.inner
    (c.in_ok-fault.ensures ∙ ap (λ ds. least (duplicates leaves ds)) (c.deref.ensures.value ∙ c.in_ok-names.ensures))
    (c.in_ok-scope.ensures ∙ ap (part_scope leaves) (c.deref-2.ensures.value ∙ c.in_ok-names.ensures))
    c.in_ok-inner.ensures v) c.put_off.ensures
