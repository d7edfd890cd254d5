use Rattle.es_model.specs.Changes.{Defining, changed}
use Rattle.es_model.specs.World.{World}
use Rattle.evaluator.specs.Contexts.{context}
use Rattle.evaluator.specs.Plans.{made_by}
use Rattle.evaluator.proofs.Planned.{plans_then}
use Rattle.evaluator.proofs.definitions.property_valued.Goals as goal

pub returns-clause-plans : goal.returns-clause-plans
returns-clause-plans g c = λ w h.
    let here = context c.args.script.now c.args.body c.args.cells.now in
    let u : World = changed (Defining c.args.object c.args.key (made_by c.args.made c.args.value)) w in
    let one = c.in_ok-define.ensures.goes w h in
    plans_then here here c.args.heap.now c.define.new.heap c.properties_from.new.heap w u _ c.properties_from.result one (c.properties_from.ensures.plans u one.stands)

pub returns-clause-named : goal.returns-clause-named
returns-clause-named g c = λ w v hw hv object.
    let one = c.in_ok-define.ensures.goes w hw in c.properties_from.ensures.named (changed (Defining c.args.object c.args.key (made_by c.args.made c.args.value)) w) v one.stands hv object
