use Rattle.std.proofs.Common.{◌∙◌, slice_get}
use Rattle.es_model.specs.Changes.{charged}
use Rattle.es_model.proofs.Rests.{charged-script}
use Rattle.evaluator.specs.Contexts.{context}
use Rattle.evaluator.specs.Tasks.{node_of}
use Rattle.evaluator.proofs.Planned.{charged_plan}
use Rattle.es_model.proofs.SoundReads.{sound-charged}
use Rattle.evaluator.proofs.jobs.job_plan.Goals as goal

pub returns-in_ok-charge-in-Node-clause-plans : goal.returns-in_ok-charge-in-Node-clause-plans
returns-in_ok-charge-in-Node-clause-plans g c = λ w same h.
    let outer = context c.args.script.now c.args.body c.args.cells.now in
    let inner = context c.args.script.now c.args.body c.node_at.new.cells in
    let name = c.in-Node.name in
    let node = c.in-Node.node in
    let (fits, goes) = c.in_ok-charge-in-Node.ensures.ok w h in
    rw c.in-Node.is
    (charged_plan outer inner c.args.heap.now c.charge.new.self c.node_at.new.heap w (node_of outer name node (slice_get outer.script.nodes node.0)) c.node_at.result fits goes
    (c.node_at.ensures.plans (charged w 1) (charged-script w 1 ∙ same) goes.stands))

pub returns-in_ok-charge-in-Node-clause-named : goal.returns-in_ok-charge-in-Node-clause-named
returns-in_ok-charge-in-Node-clause-named g c = λ w v same hw sound hv running.
    let (fits, goes) = c.in_ok-charge-in-Node.ensures.ok w hw in c.node_at.ensures.named (charged w 1) v (charged-script w 1 ∙ same) goes.stands (sound-charged w 1 sound) hv running

pub returns-in_ok-charge-in-Node-clause-known : goal.returns-in_ok-charge-in-Node-clause-known
returns-in_ok-charge-in-Node-clause-known g c = λ w v hw hv cells.
    let (fits, goes) = c.in_ok-charge-in-Node.ensures.ok w hw in c.node_at.ensures.known (charged w 1) v goes.stands hv cells
