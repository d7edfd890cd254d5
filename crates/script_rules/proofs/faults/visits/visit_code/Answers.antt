use Rattle.script_rules.proofs.Steps.{on_ok}
use Rattle.script_rules.proofs.Visits.{code_visited}
use Rattle.script_rules.proofs.faults.visits.visit_code.Goals as goal

pub returns : goal.returns
returns c =
    on_ok c.put_off.result (λ u.
    code_visited c.args.script.now.leaves c.args.script.now.nodes c.args.walk.now c.put_off_optional.new.walk c.open_code.new.walk c.put_off_optional-2.new.walk c.put_off.new.walk c.args.task c.args.code
    c.in_ok-inner.inner c.requires.known c.in_ok-put_off_optional.ensures c.in_ok-inner.ensures (rw (← c.list_of.ensures) c.in_ok-put_off_optional-2.ensures) u) c.put_off.ensures
