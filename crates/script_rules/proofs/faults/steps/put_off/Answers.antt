use Rattle.script_rules.specs.Chains.{chain_at}
use Rattle.script_rules.proofs.Walks.{pushed}
use Rattle.script_rules.proofs.Steps.{on_ok, here}
use Rattle.script_rules.proofs.faults.steps.put_off.Goals as goal

pub returns : goal.returns
returns c =
    on_ok c.push.result (λ p.
    pushed c.args._script.now.leaves c.args._script.now.nodes c.args.walk.now c.push.new.self (record { node = c.args.node; scope = c.args.scope; in_loop = c.args.in_loop })
    (chain_at c.args.walk.now.scopes c.args.scope.0) p c.requires.ready c.requires.part (here c.args.walk.now.scopes c.args.scope c.requires.known)) c.push.ensures
