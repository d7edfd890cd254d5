use Rattle.std.proofs.Common.{◌≤◌, ◌+◌, drop, length, refl, arith}
use Rattle.std.proofs.lemmas.Bool.Decides.{nat_tests}
use Rattle.std.proofs.lemmas.List.{drop_all}
use Rattle.object_heap.proofs.Retaining.{retains_none, retains_then}
use Rattle.evaluator.specs.Contexts.{context}
use Rattle.evaluator.specs.Statements.{declared_at}
use Rattle.evaluator.proofs.Declaring.{declaring_none, declaring_one, declaring_ends, declaring_waits}
use Rattle.evaluator.proofs.declarations.declare_from.Goals as goal

pub names-init : goal.names-init
names-init g c = record {
  declaring = λ w h. declaring_none (context c.args.script.now c.args.body c.args.cells.now) _ c.args.heap.now w c.args.first h;
  retains = retains_none c.args.heap.now;
}

pub names-preserved : goal.names-preserved
names-preserved g c = record {
  declaring = λ w h.
      let here = context c.args.script.now c.args.body c.args.cells.now in
      let ds = declared_at here c.args.node in
      let after = c.names.next + 1 in
      declaring_one here ds (drop after ds) c.args.heap.now c.names.heap c.set_cell.new.self w c.args.first c.names.next after c.in-Some.declared.now c.bound_cell-cell.result
      (c.names.invariant.declaring w h) c.in-Some.ensures refl c.in-None-value.is (c.bound_cell-cell.ensures c.args.script.now c.args.body) c.set_cell.ensures.goes;
  retains = retains_then _ _ _ c.names.invariant.retains c.set_cell.ensures.retains;
}

pub returns-in-None-clause-plans : goal.returns-in-None-clause-plans
returns-in-None-clause-plans g c = λ w h.
    declaring_ends (context c.args.script.now c.args.body c.args.cells.now) _ c.args.heap.now c.names.heap w c.args.first c.names.next (c.names.invariant.declaring w h) c.in-None.ensures

pub returns-in-Some-value-clause-plans : goal.returns-in-Some-value-clause-plans
returns-in-Some-value-clause-plans g c = λ w h.
    let here = context c.args.script.now c.args.body c.args.cells.now in
    declaring_waits here _ c.args.heap.now c.names.heap c.intern.new.heap w c.args.first c.names.next c.in-Some.declared.now c.in-Some-value.value c.args.node c.in_ok-name-in-Some-value.name
    (c.names.invariant.declaring w h) c.in-Some.ensures c.in-Some-value.is c.intern.ensures.short c.in_ok-name-in-Some-value.ensures.number c.in_ok-name-in-Some-value.ensures.ok

pub returns-clause-plans : goal.returns-clause-plans
returns-clause-plans g c = λ w h.
    let here = context c.args.script.now c.args.body c.args.cells.now in
    let past : length (declared_at here c.args.node) ≤ c.names.next = grind (arith, nat_tests, c.declared_count-count.ensures, c.names-test.false) in
    declaring_ends here _ c.args.heap.now c.names.heap w c.args.first c.names.next (c.names.invariant.declaring w h) (drop_all c.names.next (declared_at here c.args.node) past)
