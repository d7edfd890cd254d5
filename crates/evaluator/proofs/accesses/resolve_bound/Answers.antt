use Rattle.std.proofs.Common.{sym, subst}
use Rattle.es_model.specs.Known.{IsKnown, IsKnownKey}
use Rattle.evaluator.proofs.Belonging.{or_undefined_known}
use Rattle.evaluator.proofs.WordsKept.{text-key}
use Rattle.evaluator.proofs.PlansNamed.{keeps_ask}
use Rattle.evaluator.proofs.accesses.resolve_bound.Goals as goal

pub returns-in-Global-clause-named : goal.returns-in-Global-clause-named
returns-in-Global-clause-named g c = λ w v hw sound hv name running.
    keeps_ask c.args.script.now v.lists _ _ tt (name, (subst (λ k. IsKnownKey v.lists k) (sym (c.key_of-key.ensures v hv)) (text-key v.lists c.args.name name), tt))

pub returns-in-Arguments-clause-named : goal.returns-in-Arguments-clause-named
returns-in-Arguments-clause-named g c = λ w v hw sound hv name running.
    let value = subst (λ x. IsKnown v.lists x) (sym c.object_or_undefined-value.ensures) (or_undefined_known v.lists c.args.body.arguments running.arguments) in
    c.purpose_plan-in-Arguments.ensures.named w v hw sound hv (value, tt)

pub returns-in-Callee-clause-named : goal.returns-in-Callee-clause-named
returns-in-Callee-clause-named g c = λ w v hw sound hv name running.
    let value = subst (λ x. IsKnown v.lists x) (sym c.object_or_undefined-value-in-Callee.ensures) (or_undefined_known v.lists c.args.body.callee running.callee) in
    c.purpose_plan-in-Callee.ensures.named w v hw sound hv (name, (value, tt))
