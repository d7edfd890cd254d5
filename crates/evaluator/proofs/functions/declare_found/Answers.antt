use Rattle.std.proofs.Common.{sym}
use Rattle.evaluator.specs.Contexts.{context}
use Rattle.evaluator.proofs.Declared.{found_brings}
use Rattle.evaluator.proofs.functions.declare_found.Goals as goal

pub returns-in_ok-function-in-Some-clause-brings : goal.returns-in_ok-function-in-Some-clause-brings
returns-in_ok-function-in-Some-clause-brings g c =
    found_brings (context c.args.script.now c.args.body c.args.cells.now) c.args.declared.now c.in-Some.facts c.args.heap.now c.intern.new.heap c.function_made.new.heap c.bind_declared.new.heap c.in_ok-name-in-Some.name c.in_ok-function-in-Some.function c.bind_declared.result
    (sym c.in-Some.ensures) c.intern.ensures.short c.in_ok-name-in-Some.ensures.number c.in_ok-name-in-Some.ensures.ok c.in_ok-function-in-Some.ensures.object c.in_ok-function-in-Some.ensures.goes c.bind_declared.ensures.brings
