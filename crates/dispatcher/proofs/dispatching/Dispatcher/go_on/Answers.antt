use Rattle.std.proofs.Common.{◌∙◌, ap, arith, Ok}
use Rattle.es_serve.specs.Serve.{model}
use Rattle.es_serve.proofs.Models.{serves}
use Rattle.dispatcher.specs.Dispatching.{outcome_left}
use Rattle.dispatcher.proofs.Loops.{out_of_steps, starts_at, goes_on, prints_at, ends_at, stops_here}
use Rattle.dispatcher.proofs.dispatching.Dispatcher.go_on.Goals as goal

pub requests-init : goal.requests-init
requests-init g c = record {
  stands = λ w same h enough. starts_at c.args.script.now model c.args.self.stack.items c.args.self.state c.args.self.left c.args.heap.now w h enough;
  most = omega arith;
}

pub requests-smaller : goal.requests-smaller
requests-smaller g c = let one = c.if-not-take_one.ensures.one in omega arith

pub requests-preserved : goal.requests-preserved
requests-preserved g c = record {
  stands = λ w same h enough.
      goes_on c.args.script.now model (outcome_left c.args.script.now c.args.self w) c.args.heap.now c.requests.heap c.step.new.heap w c.requests.stack.items c.step.new.stack.items c.requests.state c.in-Ok-GoOn.next c.requests.left c.take_one.new.self c.step.result
      c.if-not-take_one.ensures.one same (c.requests.invariant.stands w same h enough) (c.in-Ok-GoOn.is ∙ ap (λ x. Ok x) c.in-Ok-GoOn.field-0-is) (λ v. c.step.ensures model v serves);
  most = let one = c.if-not-take_one.ensures.one in let most = c.requests.invariant.most in omega arith;
}

-- the exit where no step is left
pub returns-then-not-take_one-clause-comes : goal.returns-then-not-take_one-clause-comes
returns-then-not-take_one-clause-comes g c = λ w same h enough.
    out_of_steps c.args.script.now model (outcome_left c.args.script.now c.args.self w) c.args.heap.now c.requests.heap w c.requests.stack.items c.requests.state c.requests.left (c.requests.invariant.stands w same h enough) c.if-not-take_one.ensures.none

pub returns-in-Ok-Prints-clause-comes : goal.returns-in-Ok-Prints-clause-comes
returns-in-Ok-Prints-clause-comes g c = λ w same h enough.
    prints_at c.args.script.now model (outcome_left c.args.script.now c.args.self w) c.args.heap.now c.requests.heap c.step.new.heap w c.requests.stack.items c.step.new.stack.items c.requests.state c.in-Ok-Prints.line c.requests.left c.take_one.new.self c.step.result
    c.if-not-take_one.ensures.one same (c.requests.invariant.stands w same h enough) (c.in-Ok-Prints.is ∙ ap (λ x. Ok x) c.in-Ok-Prints.field-0-is) (λ v. c.step.ensures model v serves)

pub returns-in-Ok-Ends-clause-comes : goal.returns-in-Ok-Ends-clause-comes
returns-in-Ok-Ends-clause-comes g c = λ w same h enough.
    ends_at c.args.script.now model (outcome_left c.args.script.now c.args.self w) c.args.heap.now c.requests.heap c.step.new.heap w c.requests.stack.items c.step.new.stack.items c.requests.state c.requests.left c.in-Ok-Ends.answer c.step.result same
    (c.requests.invariant.stands w same h enough) (c.in-Ok-Ends.is ∙ ap (λ x. Ok x) c.in-Ok-Ends.field-0-is) (λ v. c.step.ensures model v serves)

pub returns-in-Err-clause-comes : goal.returns-in-Err-clause-comes
returns-in-Err-clause-comes g c = λ w same h enough.
    stops_here c.args.script.now model (outcome_left c.args.script.now c.args.self w) c.args.heap.now c.requests.heap c.step.new.heap w c.requests.stack.items c.step.new.stack.items c.requests.state c.requests.left c.in-Err.stop c.step.result same
    (c.requests.invariant.stands w same h enough) c.in-Err.is (λ v. c.step.ensures model v serves)

pub returns-in-Ok-Prints-clause-fewer : goal.returns-in-Ok-Prints-clause-fewer
returns-in-Ok-Prints-clause-fewer g c = let one = c.if-not-take_one.ensures.one in let most = c.requests.invariant.most in omega arith
