use Rattle.std.proofs.Common.{sym, subst}
use Rattle.es_model.specs.Known.{IsKnownKey}
use Rattle.evaluator.proofs.WordsKept.{text-key}
use Rattle.evaluator.proofs.PlansNamed.{keeps_ask}
use Rattle.evaluator.proofs.definitions.look_up.Goals as goal

pub returns-clause-named : goal.returns-clause-named
returns-clause-named c = λ script v hv object key name.
    keeps_ask script v.lists _ _ tt (name, (subst (λ k. IsKnownKey v.lists k) (sym (c.key_of-looked.ensures v hv)) (text-key v.lists c.args.name name), (object, (key, tt))))
