use Rattle.es_model.specs.Completions.{answered}
use Rattle.evaluator.proofs.Belonging.{value_known}
use Rattle.evaluator.proofs.answers.value_of.Goals as goal

pub returns-clause-known : goal.returns-clause-known
returns-clause-known c = λ l h. value_known l (answered c.args.answer) c.value.result c.value.ensures h
