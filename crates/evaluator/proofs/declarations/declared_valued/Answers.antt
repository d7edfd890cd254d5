use Rattle.std.proofs.Common.{◌≤◌, ◌+◌, length, refl, arith}
use Rattle.std.proofs.lemmas.Bool.Decides.{nat_tests}
use Rattle.std.proofs.lemmas.List.{drop_all}
use Rattle.evaluator.specs.Contexts.{context}
use Rattle.evaluator.specs.Plans.{ended}
use Rattle.evaluator.specs.Statements.{declared_at}
use Rattle.es_model.specs.Changes.{SettingCell, changed}
use Rattle.evaluator.proofs.Declaring.{declared_none, declared_ends, declared_plan}
use Rattle.evaluator.proofs.declarations.declared_valued.Goals as goal

pub returns-then-next-declared_count-clause-plans : goal.returns-then-next-declared_count-clause-plans
returns-then-next-declared_count-clause-plans g c = λ w h.
    let here = context c.args.script.now c.args.body c.args.cells.now in
    let past : length (declared_at here c.args.node) ≤ c.args.next = grind (arith, nat_tests, c.declared_count.ensures, c.if-next-declared_count.true) in
    declared_none here (declared_at here c.args.node) c.args.heap.now w c.args.next (ended c.args.end) h (drop_all c.args.next (declared_at here c.args.node) past)

pub returns-in-None-clause-plans : goal.returns-in-None-clause-plans
returns-in-None-clause-plans g c = λ w h.
    let here = context c.args.script.now c.args.body c.args.cells.now in
    declared_none here (declared_at here c.args.node) c.args.heap.now w c.args.next (ended c.args.end) h c.in-None.ensures

pub returns-in-Err-clause-plans : goal.returns-in-Err-clause-plans
returns-in-Err-clause-plans g c = λ w h.
    let here = context c.args.script.now c.args.body c.args.cells.now in
    declared_ends here (declared_at here c.args.node) _ c.args.heap.now w c.args.next c.in-Some.declared.now (ended c.args.end) c.in-Err.end h c.in-Some.ensures c.in-Err.ensures.taken

pub returns-in-Ok-clause-plans : goal.returns-in-Ok-clause-plans
returns-in-Ok-clause-plans g c = λ w h.
    let here = context c.args.script.now c.args.body c.args.cells.now in
    let goes = c.set_cell.ensures.goes w h in
    declared_plan here _ c.args.heap.now c.set_cell.new.self c.declare_from.new.heap w c.args.next (c.args.next + 1) c.in-Some.declared.now c.args.node (ended c.args.end) c.in-Ok.value
    c.bound_cell-cell.result _ c.in-Some.ensures refl c.in-Ok.ensures.taken (c.bound_cell-cell.ensures c.args.script.now c.args.body) goes
    (c.declare_from.ensures.plans (changed (SettingCell c.bound_cell-cell.result c.in-Ok.value) w) goes.stands)
