use Rattle.std.proofs.Common.{◌∙◌, ◌++◌, ◌∷◌, [], List, Some, Result, Ok, refl, ap}
use Rattle.es_model.specs.declared.answers.Stop.{Stop}
use Rattle.es_model.specs.declared.kinds.CellNo.{CellNo}
use Rattle.es_model.specs.declared.running.Part.TheVariants.{Caught}
use Rattle.es_model.specs.Changes.{MakingCell, changed}
use Rattle.es_model.specs.Program.{Program, Statements, part}
use Rattle.es_model.specs.Stages.{stage_of}
use Rattle.es_model.specs.World.{World, new_cell}
use Rattle.object_heap.specs.Stands.{goes_none}
use Rattle.evaluator.specs.declared.items.Job.TheVariants as job
use Rattle.evaluator.specs.declared.items.Plan.{Plan}
use Rattle.evaluator.specs.declared.items.Plan.TheVariants as plan
use Rattle.evaluator.specs.declared.items.StatementItem.TheVariants.{CaughtEnded}
use Rattle.evaluator.specs.Contexts.{context}
use Rattle.evaluator.specs.Scopes.{fresh_cells, make_cells, world_with}
use Rattle.evaluator.specs.Statements.{finish_try}
use Rattle.evaluator.proofs.Entering.{front_more}
use Rattle.evaluator.proofs.Planned.{cells_plan, plans_then}
use Rattle.evaluator.proofs.Belonging.{new_cell_there, pushed_there}
use Rattle.evaluator.proofs.trying.enter_caught.Goals as goal

pub returns-clause-front : goal.returns-clause-front
returns-clause-front g c = front_more c.args.cells.now c.push.new.self c.make_cells.new.cells c.in_ok-cell.cell c.in_ok-push.ensures.ok c.in_ok-make_cells.ensures.front

pub returns-clause-plans : goal.returns-clause-plans
returns-clause-plans g c = λ w h.
    let outer = context c.args.script.now c.args.body c.args.cells.now in
    let inner = context c.args.script.now c.args.body c.make_cells.new.cells in
    let u : World = changed (MakingCell (Some c.args.thrown)) w in
    let one = c.in_ok-cell.ensures.ok w h in
    let goes = c.in_ok-make_cells.ensures.goes u one.stands in
    let made = c.in_ok-make_cells.ensures.cells u one.stands
    ∙ ap (λ l. l ++ fresh_cells c.args.names u) (c.in_ok-push.ensures.ok ∙ ap (λ n. c.args.cells.now ++ n ∷ []) (c.in_ok-cell.ensures.cell w h)) in
    let next : List CellNo → Program = (λ cells. part (Statements c.args.body cells (Caught c.args.node) 0) (finish_try outer c.args.node)) in
    let pushed : List CellNo = c.args.cells.now ++ new_cell w.lists ∷ [] in
    let entered : Result Plan Stop = Ok (plan.Enter (job.Statements (Caught c.args.node) 0) (CaughtEnded c.args.node) c.len-depth.result) in
    plans_then outer inner c.args.heap.now c.new_cell.new.self c.make_cells.new.heap w u (stage_of (make_cells c.args.names pushed next) u) entered one
    (cells_plan outer inner c.new_cell.new.self c.make_cells.new.heap u c.args.names pushed c.make_cells.new.cells next entered
    goes made (refl, refl, c.len-depth.ensures, goes_none c.make_cells.new.heap (world_with c.args.names u) goes.stands))

pub returns-clause-known : goal.returns-clause-known
returns-clause-known g c = λ w v h k known.
    let u : World = changed (MakingCell (Some c.args.thrown)) w in
    let one = c.in_ok-cell.ensures.ok w h in
    let there = new_cell_there c.new_cell.new.self c.make_cells.new.heap w v (Some c.args.thrown) c.in_ok-cell.cell (c.in_ok-cell.ensures.cell w h) one.stands c.make_cells.ensures.retains k in
    c.in_ok-make_cells.ensures.known u v one.stands k (pushed_there v.lists c.args.cells.now c.push.new.self c.in_ok-cell.cell c.in_ok-push.ensures.ok there known)
