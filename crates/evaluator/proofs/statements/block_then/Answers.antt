use Rattle.std.proofs.Common.{refl, Ok}
use Rattle.es_model.specs.Program.{Statements, part}
use Rattle.object_heap.specs.Stands.{goes_none}
use Rattle.evaluator.specs.declared.items.Job.TheVariants as job
use Rattle.evaluator.specs.declared.items.Plan.TheVariants as plan
use Rattle.evaluator.specs.Contexts.{context}
use Rattle.evaluator.specs.Plans.{statement_item}
use Rattle.evaluator.specs.Scopes.{world_with}
use Rattle.evaluator.proofs.Planned.{cells_plan}
use Rattle.evaluator.proofs.statements.block_then.Goals as goal

pub returns-clause-plans : goal.returns-clause-plans
returns-clause-plans g c = λ w h.
    let goes = c.in_ok-make_cells.ensures.goes w h in
    let outer = context c.args.script.now c.args.body c.args.cells.now in
    cells_plan outer (context c.args.script.now c.args.body c.make_cells.new.cells) c.args.heap.now c.make_cells.new.heap w
    c.args.names c.args.cells.now c.make_cells.new.cells (λ cells. part (Statements c.args.body cells c.args.list 0) (statement_item outer c.args.item))
    (Ok (plan.Enter (job.Statements c.args.list 0) c.args.item c.len-depth.result))
    goes (c.in_ok-make_cells.ensures.cells w h) (refl, refl, c.len-depth.ensures, goes_none c.make_cells.new.heap (world_with c.args.names w) goes.stands)
