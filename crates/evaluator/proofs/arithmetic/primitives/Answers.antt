use Rattle.std.proofs.Common.{subst, sym}
use Rattle.es_model.specs.Program.{Program}
use Rattle.es_model.specs.Stages.{stage_of}
use Rattle.evaluator.specs.Contexts.{context}
use Rattle.evaluator.specs.Operators.{left_primitive}
use Rattle.evaluator.specs.Plans.{Plans}
use Rattle.evaluator.proofs.Converting.{primitive_asked}
use Rattle.evaluator.proofs.arithmetic.primitives.Goals as goal

pub returns-in-Object-clause-plans : goal.returns-in-Object-clause-plans
returns-in-Object-clause-plans g c = λ w h.
    let here = context c.args.script.now c.args.body c.args.cells.now in
    subst (λ (p : Program). Plans here here c.args.heap.now c.convert.new.heap w (stage_of p w) c.convert.result)
    (sym (primitive_asked c.args.a (left_primitive here c.args.finish c.args.b) c.in-Object.field-0 c.in-Object.is)) (c.convert.ensures.plans w h)
