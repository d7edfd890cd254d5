use Rattle.script_rules.specs.Walks.{around_task}
use Rattle.script_rules.proofs.Steps.{on_ok}
use Rattle.script_rules.proofs.Visits.{code_faults_of, code_size_of}
use Rattle.script_rules.proofs.Walks.{as_visits}
use Rattle.script_rules.proofs.faults.visits.visit_pair.Goals as goal

pub returns-in-Some : goal.returns-in-Some
returns-in-Some c =
    let leaves = c.args.script.now.leaves in
    let ns = c.args.script.now.nodes in
    let around = around_task c.args.walk.now.scopes c.args.task in
    on_ok c.visit_code.result (λ v.
    as_visits leaves ns c.args.walk.now c.visit_code.new.walk _ _ _ _ v
    (code_faults_of leaves ns around c.args.label c.args.parts.0 c.args.parts.1 c.in-Some.code c.in-Some.ensures)
    (code_size_of ns c.args.label c.args.parts.0 c.args.parts.1 c.in-Some.code c.in-Some.ensures)) c.visit_code.ensures
