use Rattle.std.proofs.Common.{sym, subst}
use Rattle.es_model.specs.Belongs.{HasNames}
use Rattle.evaluator.specs.Names.{names_of_reference}
use Rattle.evaluator.proofs.accesses.access_valued.Goals as goal

pub returns-in-MemberBased-clause-named : goal.returns-in-MemberBased-clause-named
returns-in-MemberBased-clause-named g c = λ w v hw sound hv names value.
    let n = rw c.in-MemberBased.is at names in
    c.purpose_plan.ensures.named w v hw sound hv (subst (λ r. HasNames c.args.script.now v.lists (names_of_reference r)) (sym c.property_reference-reference.ensures) (value, n))
