use Rattle.evaluator.specs.Contexts.{context}
use Rattle.evaluator.proofs.Entered.{entered}
use Rattle.evaluator.proofs.bodies.enter_function.Goals as goal

pub returns-clause-enters : goal.returns-clause-enters
returns-clause-enters g c = λ w h.
    entered (context c.args.script.now c.args.body c.args.cells.now) c.args.facts c.args.code.now c.args.arguments.now c.args.heap.now c.bind_parameters.new.heap c.make_cells.new.heap c.declare_functions.new.heap w c.bind_parameters.new.cells c.make_cells.new.cells c.declare_functions.result
    (c.in_ok-bind_parameters.ensures.brings w h) (λ v k. rw c.saturating_sub-others.ensures at (c.in_ok-make_cells.ensures.goes v k)) (λ v k. rw c.saturating_sub-others.ensures at (c.in_ok-make_cells.ensures.cells v k)) (λ v k. c.declare_functions.ensures.declares v k)
