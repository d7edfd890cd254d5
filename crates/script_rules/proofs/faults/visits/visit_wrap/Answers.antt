use Rattle.std.proofs.Common.{refl}
use Rattle.script_rules.specs.Arena.{tree_at}
use Rattle.script_rules.specs.Visits.{own_of_wrap}
use Rattle.script_rules.specs.Walks.{around_task, size_at}
use Rattle.script_rules.proofs.Steps.{on_ok}
use Rattle.script_rules.proofs.Visits.{beside, wrap_faults}
use Rattle.script_rules.proofs.Walks.{as_visits}
use Rattle.script_rules.proofs.faults.visits.visit_wrap.Goals as goal

pub returns-in_ok-fault-in_default : goal.returns-in_ok-fault-in_default
returns-in_ok-fault-in_default c =
    let leaves = c.args.script.now.leaves in
    let ns = c.args.script.now.nodes in
    let around = around_task c.args.walk.now.scopes c.args.task in
    let x = tree_at ns c.args.inner in
    on_ok c.put_off.result (λ v.
    as_visits leaves ns c.args.walk.now c.put_off.new.walk _ _ _ _
    (beside leaves ns c.args.walk.now c.note.new.walk c.put_off.new.walk c.args.task x (size_at ns c.args.inner) (own_of_wrap leaves around c.args.label x) c.requires.known
    (c.note.ensures.found (own_of_wrap leaves around c.args.label x) c.in_ok-fault-in_default.ensures) v)
    (wrap_faults leaves around c.args.label x c.in_default.not-Block c.in_default.not-CatchName) refl) c.put_off.ensures
