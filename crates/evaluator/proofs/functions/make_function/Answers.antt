use Rattle.evaluator.specs.Contexts.{context}
use Rattle.evaluator.proofs.Declared.{function_plan, function_too_long}
use Rattle.evaluator.proofs.functions.make_function.Goals as goal

pub returns-in-None-clause-plans : goal.returns-in-None-clause-plans
returns-in-None-clause-plans g c = λ w h.
    function_too_long (context c.args.script.now c.args.body c.args.cells.now) c.args.heap.now c.create_function.new.heap c.function_name.new.heap c.text_too_long.new.heap w c.args.name c.args.function c.function-facts.result.now c.body.result.now
    c.in_ok-object.object c.in_ok-function_name.field-0 c.text_too_long.result c.function-facts.ensures c.body.ensures.body (c.in_ok-object.ensures.object w h) (c.in_ok-object.ensures.goes w h)
    c.in_ok-function_name.ensures.makes c.in-None.is c.text_too_long.ensures.plans

pub returns-in_ok-name_function-in-Some-clause-plans : goal.returns-in_ok-name_function-in-Some-clause-plans
returns-in_ok-name_function-in-Some-clause-plans g c = λ w h.
    function_plan (context c.args.script.now c.args.body c.args.cells.now) c.args.heap.now c.create_function.new.heap c.function_name.new.heap c.name_function.new.heap w c.args.name c.args.function c.function-facts.result.now c.body.result.now
    c.in_ok-object.object c.in_ok-function_name.field-0 c.in-Some.name c.function-facts.ensures c.body.ensures.body (c.in_ok-object.ensures.object w h) (c.in_ok-object.ensures.goes w h)
    c.in_ok-function_name.ensures.makes c.in-Some.is c.in_ok-name_function-in-Some.ensures.goes
