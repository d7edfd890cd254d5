use Rattle.es_tree.specs.Tree.{NamesKnown}
use Rattle.evaluator.proofs.Planned.{each_at}
use Rattle.evaluator.proofs.tree.node_at.Goals as goal

pub returns-then-n-nodes-clause-known : goal.returns-then-n-nodes-clause-known
returns-then-n-nodes-clause-known c = each_at (NamesKnown c.args.script.now) c.args.script.now.nodes c.args.n.0 c.node.result.now c.node.ensures.tree.known c.node.ensures.node
