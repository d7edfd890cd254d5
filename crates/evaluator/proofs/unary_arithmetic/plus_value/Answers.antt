use Rattle.std.proofs.Common.{rules, subst, sym}
use Rattle.es_model.specs.Program.{Program}
use Rattle.es_model.specs.Stages.{stage_of}
use Rattle.evaluator.specs.Contexts.{context, given}
use Rattle.evaluator.specs.Plans.{Plans}
use Rattle.evaluator.proofs.Converting.{number_asked}
use Rattle.evaluator.proofs.unary_arithmetic.plus_value.Goals as goal

pub returns-in-Undefined : goal.returns-in-Undefined
returns-in-Undefined g c =
    let here = context c.args.script.now c.args.body c.args.cells.now in
    record {
      plans = λ w h. subst (λ (p : Program). Plans here here c.args.heap.now c.convert.new.heap w (stage_of p w) c.convert.result)
          (sym (number_asked c.args.value given c.in-Undefined.is)) (c.convert.ensures.plans w h);
      named = search rules;
      retains = c.convert.ensures.retains;
    }
