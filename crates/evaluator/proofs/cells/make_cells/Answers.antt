use Rattle.std.proofs.Common.{◌≡◌, suc, ◌-◌, arith}
use Rattle.std.proofs.lemmas.Bool.Decides.{nat_tests}
use Rattle.object_heap.proofs.Retaining.{retains_none, retains_then}
use Rattle.evaluator.proofs.Entering.{made_none, made_one, made_goes, made_cells, front_none, front_one}
use Rattle.evaluator.proofs.Belonging.{scope_there}
use Rattle.evaluator.proofs.cells.make_cells.Goals as goal

pub cells-init : goal.cells-init
cells-init c = record {
  made = λ w h. made_none c.args.heap.now w c.args.n c.args.cells.now h;
  front = front_none c.args.cells.now;
  retains = retains_none c.args.heap.now;
}

pub cells-preserved : goal.cells-preserved
cells-preserved c = record {
  made = λ w h.
      let one : c.cells.left ≡ suc (c.cells.left - 1) = grind (arith, nat_tests, c.cells-test.true) in
      made_one c.args.heap.now c.cells.heap c.new_cell.new.self w c.args.n c.cells.left (c.cells.left - 1) c.args.cells.now c.cells.cells c.push.new.self c.in_ok-cell.cell (c.cells.invariant.made w h) one
      c.in_ok-cell.ensures.cell c.in_ok-cell.ensures.ok c.in_ok-push.ensures.ok;
  front = front_one c.args.cells.now c.cells.cells c.push.new.self c.in_ok-cell.cell c.cells.invariant.front c.in_ok-push.ensures.ok;
  retains = retains_then _ _ _ c.cells.invariant.retains c.new_cell.ensures.retains;
}

pub returns-clause-goes : goal.returns-clause-goes
returns-clause-goes c = λ w h.
    let none : c.cells.left ≡ 0 = grind (arith, nat_tests, c.cells-test.false) in
    made_goes c.args.heap.now c.cells.heap w c.args.n c.cells.left c.args.cells.now c.cells.cells (c.cells.invariant.made w h) none

pub returns-clause-cells : goal.returns-clause-cells
returns-clause-cells c = λ w h.
    let none : c.cells.left ≡ 0 = grind (arith, nat_tests, c.cells-test.false) in
    made_cells c.args.heap.now c.cells.heap w c.args.n c.cells.left c.args.cells.now c.cells.cells (c.cells.invariant.made w h) none

pub returns-clause-known : goal.returns-clause-known
returns-clause-known c = λ w v h k known.
    let none : c.cells.left ≡ 0 = grind (arith, nat_tests, c.cells-test.false) in
    let made = c.cells.invariant.made w h in
    scope_there c.args.heap.now c.cells.heap w v c.args.n c.args.cells.now c.cells.cells (made_goes c.args.heap.now c.cells.heap w c.args.n c.cells.left c.args.cells.now c.cells.cells made none)
    (made_cells c.args.heap.now c.cells.heap w c.args.n c.cells.left c.args.cells.now c.cells.cells made none) k known
