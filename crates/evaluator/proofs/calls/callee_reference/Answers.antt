use Rattle.std.proofs.Common.{subst, sym}
use Rattle.es_model.specs.Stages.{stage_of}
use Rattle.evaluator.specs.declared.items.Reading.TheVariants.{Callee}
use Rattle.evaluator.specs.Contexts.{context}
use Rattle.evaluator.specs.Plans.{Plans, reading_program}
use Rattle.evaluator.specs.References.{get_value}
use Rattle.es_model.specs.Known.{IsKnown}
use Rattle.evaluator.proofs.Belonging.{base_known}
use Rattle.evaluator.proofs.calls.callee_reference.Goals as goal

pub returns-clause-plans : goal.returns-clause-plans
returns-clause-plans g c = λ w h.
    let here = context c.args.script.now c.args.body c.args.cells.now in
    subst (λ b. Plans here here c.args.heap.now c.get_value.new.heap w (stage_of (get_value here c.args.reference (reading_program here (Callee c.args.node b))) w) c.get_value.result)
    c.base_of.ensures (c.get_value.ensures.plans w h)

pub returns-clause-named : goal.returns-clause-named
returns-clause-named g c = λ w v hw sound hv known.
    c.get_value.ensures.named w v hw sound hv known (subst (λ x. IsKnown v.lists x) (sym c.base_of.ensures) (base_known c.args.script.now v.lists c.args.reference known), tt)
