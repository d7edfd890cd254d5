use Rattle.script_rules.proofs.Steps.{if_ok, opens_scope}
use Rattle.script_rules.proofs.faults.steps.open.Goals as goal

pub returns : goal.returns
returns c =
    if_ok c.enter.result (λ id o. λ found is.
    opens_scope c.args._script.now.leaves c.args._script.now.nodes c.args.walk.now c.report.new.self c.enter.new.self c.args.fault c.args.outer c.args.scope id found
    c.requires.ready c.requires.known c.report.ensures o is) c.enter.ensures
