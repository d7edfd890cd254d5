use Rattle.std.proofs.Common.{sym, subst}
use Rattle.es_model.specs.Known.{AreKnown}
use Rattle.evaluator.proofs.Belonging.{values_more}
use Rattle.evaluator.proofs.calls.argument_valued.Goals as goal

pub returns-clause-named : goal.returns-clause-named
returns-clause-named g c = λ l invocation given value.
    c.arguments_from.ensures.named l invocation (subst (λ xs. AreKnown l xs) (sym c.in_ok-push.ensures.ok) (values_more l c.args.given c.args.value given value))
