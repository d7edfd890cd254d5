use Rattle.es_model.specs.Completions.{answered}
use Rattle.evaluator.proofs.Belonging.{key_known}
use Rattle.evaluator.proofs.answers.key_of.Goals as goal

pub returns-clause-known : goal.returns-clause-known
returns-clause-known c = λ l h. key_known l (answered c.args.answer) c.key.result c.key.ensures h
