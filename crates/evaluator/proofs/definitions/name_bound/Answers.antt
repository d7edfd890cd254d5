use Rattle.evaluator.specs.Contexts.{context}
use Rattle.evaluator.specs.Plans.{definitions_from}
use Rattle.evaluator.proofs.PlansNamed.{defines_plan}
use Rattle.evaluator.proofs.definitions.name_bound.Goals as goal

pub returns-in-Global-clause-defines : goal.returns-in-Global-clause-defines
returns-in-Global-clause-defines g c = λ w h. rw c.in-Global.is (c.look_up.ensures.plans (context c.args.script.now c.args.body c.args.cells.now) w h)

pub returns-in-Arguments-clause-defines : goal.returns-in-Arguments-clause-defines
returns-in-Arguments-clause-defines g c = λ w h.
    let here = context c.args.script.now c.args.body c.args.cells.now in
    let rest = definitions_from here c.args.place.node c.args.place.next c.args.place.object in
    rw c.in-Arguments.is (rw c.object_or_undefined-value.ensures at (c.name_valued.ensures.defines here rest w h))

pub returns-in-Callee-clause-defines : goal.returns-in-Callee-clause-defines
returns-in-Callee-clause-defines g c = λ w h.
    let here = context c.args.script.now c.args.body c.args.cells.now in
    let rest = definitions_from here c.args.place.node c.args.place.next c.args.place.object in
    rw c.in-Callee.is (rw c.object_or_undefined-value-in-Callee.ensures at (c.name_valued-in-Callee.ensures.defines here rest w h))

pub returns-in-Global-clause-named : goal.returns-in-Global-clause-named
returns-in-Global-clause-named g c = λ w v hw hv object key name. defines_plan c.args.script.now v.lists _ (c.look_up.ensures.named c.args.script.now v hv object key name)
