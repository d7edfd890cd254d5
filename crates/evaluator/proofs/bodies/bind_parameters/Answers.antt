use Rattle.std.proofs.Common.{◌≡◌, ◌≤◌, ◌<◌, ◌+◌, suc, arith}
use Rattle.std.proofs.lemmas.Bool.Decides.{nat_tests}
use Rattle.object_heap.proofs.Retaining.{retains_none, retains_then}
use Rattle.evaluator.proofs.Entered.{bound_all, bound_none, bound_one}
use Rattle.evaluator.proofs.bodies.bind_parameters.Goals as goal

pub parameters-init : goal.parameters-init
parameters-init c = record {
  bound = λ w h. bound_none c.args.heap.now w c.args.parameters c.args.arguments.now c.args.cells.now h;
  retains = retains_none c.args.heap.now;
}

pub parameters-preserved : goal.parameters-preserved
parameters-preserved c = record {
  bound = λ w h.
      let less : c.parameters.next < c.args.parameters = grind (arith, nat_tests, c.parameters-test.true) in
      let more : c.parameters.next + 1 ≡ suc c.parameters.next = omega arith in
      bound_one c.args.heap.now c.parameters.heap c.new_cell.new.self w c.args.parameters c.parameters.next (c.parameters.next + 1) c.args.arguments.now c.args.cells.now c.parameters.cells c.push.new.self c.argument_at-value.result c.in_ok-cell.cell
      less more c.argument_at-value.ensures (c.parameters.invariant.bound w h) c.in_ok-cell.ensures.cell c.in_ok-cell.ensures.ok c.in_ok-push.ensures.ok;
  retains = retains_then _ _ _ c.parameters.invariant.retains c.new_cell.ensures.retains;
}

pub returns-clause-brings : goal.returns-clause-brings
returns-clause-brings c = λ w h.
    let past : c.args.parameters ≤ c.parameters.next = grind (arith, nat_tests, c.parameters-test.false) in
    bound_all c.args.heap.now c.parameters.heap w c.args.parameters c.parameters.next c.args.arguments.now c.args.cells.now c.parameters.cells past (c.parameters.invariant.bound w h)
