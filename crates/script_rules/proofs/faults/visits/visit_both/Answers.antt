use Rattle.script_rules.specs.Arena.{tree_at}
use Rattle.script_rules.specs.Walks.{size_at}
use Rattle.script_rules.proofs.Steps.{on_ok}
use Rattle.script_rules.proofs.Visits.{both}
use Rattle.script_rules.proofs.faults.visits.visit_both.Goals as goal

pub returns : goal.returns
returns c =
    let ns = c.args.script.now.nodes in
    on_ok c.put_off-2.result (λ u. λ own is.
    both c.args.script.now.leaves ns c.args.walk.now c.note.new.walk c.put_off.new.walk c.put_off-2.new.walk c.args.task (tree_at ns c.args.parts.0) (tree_at ns c.args.parts.1)
    (size_at ns c.args.parts.0) (size_at ns c.args.parts.1) c.args.in_loop own c.requires.known (c.note.ensures.found own is) c.in_ok-put_off.ensures u) c.put_off-2.ensures
