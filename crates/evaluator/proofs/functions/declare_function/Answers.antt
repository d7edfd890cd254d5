use Rattle.evaluator.specs.Contexts.{context}
use Rattle.evaluator.proofs.Declared.{declare_halts}
use Rattle.evaluator.proofs.functions.declare_function.Goals as goal

pub returns-in-Err-clause-declares : goal.returns-in-Err-clause-declares
returns-in-Err-clause-declares g c = λ w h.
    declare_halts (context c.args.script.now c.args.body c.args.cells.now) c.args.declared.now c.args.heap.now c.charge.new.self w c.if-not-declared.false (c.in-Err.ensures.halted w h)
