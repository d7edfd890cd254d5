use Rattle.std.proofs.Common.{refl, []}
use Rattle.script_rules.specs.Arena.{tree_at}
use Rattle.script_rules.specs.Chains.{chain_at}
use Rattle.script_rules.specs.Walks.{around_task, size_at}
use Rattle.script_rules.proofs.Steps.{here, on_ok, onto}
use Rattle.script_rules.proofs.Visits.{triple_faults}
use Rattle.script_rules.proofs.Walks.{as_visits, still}
use Rattle.script_rules.proofs.faults.visits.visit_triple.Goals as goal

pub put_off-requires : goal.put_off-requires
put_off-requires c =
    let v = c.in_ok-visit_both-in_default.ensures [] refl in
    record {
      ready = v.ready;
      part = c.requires.third;
      known = (still c.args.script.now.leaves c.args.script.now.nodes c.args.walk.now c.visit_both.new.walk _ _ v c.args.task.scope _ (here c.args.walk.now.scopes c.args.task.scope c.requires.known)).known;
    }

pub returns-in_ok-visit_both-in_default : goal.returns-in_ok-visit_both-in_default
returns-in_ok-visit_both-in_default c =
    let leaves = c.args.script.now.leaves in
    let ns = c.args.script.now.nodes in
    let p = c.args.parts in
    let v = c.in_ok-visit_both-in_default.ensures [] refl in
    let k = still leaves ns c.args.walk.now c.visit_both.new.walk _ _ v c.args.task.scope _ (here c.args.walk.now.scopes c.args.task.scope c.requires.known) in
    on_ok c.put_off.result (λ w.
    as_visits leaves ns c.args.walk.now c.put_off.new.walk _ _ _ _
    (onto leaves ns c.args.walk.now c.visit_both.new.walk c.put_off.new.walk _ _ (size_at ns p.2) c.args.task.scope (chain_at c.args.walk.now.scopes c.args.task.scope.0) c.args.task.in_loop (tree_at ns p.2) v k w)
    (triple_faults leaves (around_task c.args.walk.now.scopes c.args.task) c.args.label (tree_at ns p.0) (tree_at ns p.1) (tree_at ns p.2) c.in_default.not-Method) refl) c.put_off.ensures
