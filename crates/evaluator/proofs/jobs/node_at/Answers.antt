use Rattle.std.proofs.Common.{◌≤◌, length, arith, sym, subst, refl, Ok}
use Rattle.std.proofs.lemmas.Bool.Decides.{nat_tests}
use Rattle.std.proofs.lemmas.Option.{slice_get_past}
use Rattle.property_keys.specs.declared.values.Value.TheVariants as value
use Rattle.es_tree.specs.Tree.{NamesKnown}
use Rattle.es_model.specs.Stages.{stage_of}
use Rattle.object_heap.specs.Stands.{goes_none}
use Rattle.evaluator.specs.declared.items.Ending.TheVariants as ending
use Rattle.evaluator.specs.declared.items.Plan.TheVariants as plan
use Rattle.evaluator.specs.Contexts.{context}
use Rattle.evaluator.specs.Plans.{Plans}
use Rattle.evaluator.specs.Tasks.{node_of}
use Rattle.evaluator.proofs.Planned.{each_at}
use Rattle.evaluator.proofs.jobs.node_at.Goals as goal

pub node_plan-requires-clause-known : goal.node_plan-requires-clause-known
node_plan-requires-clause-known g c =
    let tree = c.args.script.now in
    each_at (NamesKnown tree) tree.nodes c.args.node.0 c.node-found.result.now c.node-found.ensures.tree.known c.node-found.ensures.node

pub returns-else-node-nodes-clause-plans : goal.returns-else-node-nodes-clause-plans
returns-else-node-nodes-clause-plans g c = λ w same h.
    let here = context c.args.script.now c.args.body c.args.cells.now in
    let past : length c.args.script.now.nodes ≤ c.args.node.0 = grind (arith, nat_tests, c.nodes.ensures, c.if-node-nodes.false) in
    rw c.falls.ensures
    (subst (λ o. Plans here here c.args.heap.now c.args.heap.now w (stage_of (node_of here c.args.name c.args.node o) w) (Ok (plan.Ends (ending.Gives value.Undefined))))
    (sym (slice_get_past c.args.script.now.nodes c.args.node.0 past)) (refl, goes_none c.args.heap.now w h))
