use Rattle.std.proofs.Common.{sym, subst}
use Rattle.es_model.specs.Belongs.{HasNames}
use Rattle.evaluator.specs.Names.{names_of_reference}
use Rattle.evaluator.proofs.answers.key_answered.Goals as goal

pub returns-in-KeyConverted-clause-named : goal.returns-in-KeyConverted-clause-named
returns-in-KeyConverted-clause-named g c = λ w v hw sound hv names key.
    let n = rw c.in-KeyConverted.is at names in
    c.purpose_plan.ensures.named w v hw sound hv (subst (λ r. HasNames c.args.script.now v.lists (names_of_reference r)) (sym c.property_reference-reference.ensures) (n.0, (key, n.1)))
