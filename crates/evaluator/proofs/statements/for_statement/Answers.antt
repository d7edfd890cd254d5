use Rattle.std.proofs.Common.{refl, None, Some, Ok}
use Rattle.object_heap.specs.Stands.{goes_none}
use Rattle.evaluator.specs.declared.items.Item.TheVariants.{Statement}
use Rattle.evaluator.specs.declared.items.StatementItem.TheVariants.{ForBegun}
use Rattle.evaluator.specs.declared.items.Job.TheVariants as job
use Rattle.evaluator.specs.declared.items.Plan.TheVariants as plan
use Rattle.evaluator.specs.Contexts.{context, with_cells}
use Rattle.evaluator.specs.Scopes.{world_with}
use Rattle.evaluator.specs.Statements.{for_first}
use Rattle.evaluator.proofs.Planned.{cells_plan}
use Rattle.evaluator.proofs.statements.for_statement.Goals as goal

pub returns-in-None-clause-plans : goal.returns-in-None-clause-plans
returns-in-None-clause-plans g c = λ w h.
    let goes = c.in_ok-make_cells.ensures.goes w h in
    let outer = context c.args.script.now c.args.body c.args.cells.now in
    rw c.in-None.is
    (cells_plan outer (context c.args.script.now c.args.body c.make_cells.new.cells) c.args.heap.now c.make_cells.new.heap w
    c.args.names c.args.cells.now c.make_cells.new.cells (λ cells. for_first (with_cells outer cells) c.args.node None) (Ok (plan.Last (job.Round c.args.node)))
    goes (c.in_ok-make_cells.ensures.cells w h) (refl, refl, goes_none c.make_cells.new.heap (world_with c.args.names w) goes.stands))

pub returns-in-Some-clause-plans : goal.returns-in-Some-clause-plans
returns-in-Some-clause-plans g c = λ w h.
    let goes = c.in_ok-make_cells.ensures.goes w h in
    let outer = context c.args.script.now c.args.body c.args.cells.now in
    rw (c.in-Some.is, c.wait_for.ensures)
    (cells_plan outer (context c.args.script.now c.args.body c.make_cells.new.cells) c.args.heap.now c.make_cells.new.heap w
    c.args.names c.args.cells.now c.make_cells.new.cells (λ cells. for_first (with_cells outer cells) c.args.node (Some c.in-Some.first))
    (Ok (plan.Wait (job.Node None c.in-Some.first) (Statement (ForBegun c.args.node))))
    goes (c.in_ok-make_cells.ensures.cells w h) (refl, refl, goes_none c.make_cells.new.heap (world_with c.args.names w) goes.stands))
