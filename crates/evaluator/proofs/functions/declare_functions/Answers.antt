use Rattle.std.proofs.Common.{◌≡◌, ◌+◌, suc, arith}
use Rattle.object_heap.proofs.Retaining.{retains_then}
use Rattle.evaluator.specs.Contexts.{context}
use Rattle.evaluator.proofs.Declared.{declared_one, declared_stops}
use Rattle.evaluator.proofs.functions.declare_functions.Goals as goal

pub returns-in-Err-clause-declares : goal.returns-in-Err-clause-declares
returns-in-Err-clause-declares g c = λ w h.
    declared_stops (context c.args.script.now c.args.body c.args.cells.now) c.args.code.now.declared c.args.heap.now c.functions.heap c.declare_function.new.heap w c.functions.next c.at.result.now c.in-Err.stop c.declare_function.result
    c.at.ensures (c.functions.invariant.declared w h) c.declare_function.ensures.declares c.in-Err.is

pub functions-preserved : goal.functions-preserved
functions-preserved g c = record {
  declared = λ w h.
      let more : c.functions.next + 1 ≡ suc c.functions.next = omega arith in
      declared_one (context c.args.script.now c.args.body c.args.cells.now) c.args.code.now.declared c.args.heap.now c.functions.heap c.declare_function.new.heap w c.functions.next (c.functions.next + 1) c.at.result.now c.declare_function.result
      more c.at.ensures (c.functions.invariant.declared w h) c.declare_function.ensures.declares c.in-Ok.is;
  retains = retains_then _ _ _ c.functions.invariant.retains c.declare_function.ensures.retains;
}
