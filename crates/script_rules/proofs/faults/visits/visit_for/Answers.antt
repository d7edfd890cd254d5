use Rattle.std.proofs.Common.{ap, ◌∙◌}
use Rattle.script_rules.specs.Arena.{tree_at}
use Rattle.script_rules.specs.Faults.{duplicates, head_names, least}
use Rattle.script_rules.specs.Scopes.{part_scope}
use Rattle.script_rules.specs.Walks.{size_at}
use Rattle.script_rules.proofs.Steps.{on_ok}
use Rattle.script_rules.proofs.Visits.{for_visited}
use Rattle.script_rules.proofs.faults.visits.visit_for.Goals as goal

pub returns : goal.returns
returns c =
    let leaves = c.args.script.now.leaves in
    let ns = c.args.script.now.nodes in
    let p = c.args.parts in
    on_ok c.put_off-4.result (λ v.
    for_visited leaves ns c.args.walk.now c.open.new.walk c.put_off.new.walk c.put_off-2.new.walk c.put_off-3.new.walk c.put_off-4.new.walk c.args.task
    (tree_at ns p.0) (tree_at ns p.1) (tree_at ns p.2) (tree_at ns p.3) (size_at ns p.0) (size_at ns p.1) (size_at ns p.2) (size_at ns p.3)
    (duplicates leaves (head_names (tree_at ns p.0))) c.in_ok-fault.fault c.in_ok-scope.scope (part_scope leaves (head_names (tree_at ns p.0))) c.in_ok-inner.inner
    (c.in_ok-fault.ensures ∙ ap (λ ds. least (duplicates leaves ds)) (c.deref.ensures.value ∙ c.in_ok-names.ensures))
    (c.in_ok-scope.ensures ∙ ap (part_scope leaves) (c.deref-2.ensures.value ∙ c.in_ok-names.ensures))
    c.in_ok-inner.ensures c.in_ok-put_off.ensures c.in_ok-put_off-2.ensures c.in_ok-put_off-3.ensures v) c.put_off-4.ensures
