-- Completion Records (ECMA-262, 6.2.4): how an algorithm ends, or a part of a running body. There are no labels.
use Rattle.property_keys.specs.declared.values.Value.{Value}
use Rattle.es_model.specs.declared.answers.Completion.{Completion as Answer}
use Rattle.es_model.specs.declared.answers.Completion.TheVariants as answer
use Rattle.es_model.specs.declared.answers.Reply.{Reply}

pub data Completion : Type 0 where
  Normal : Reply → Completion
  Break : Completion
  Continue : Completion
  Return : Value → Completion
  Throw : Value → Completion

-- The code's answer to a request is of two kinds alone.
abbrev pub answered : Answer → Completion
answered (answer.Normal r) = Normal r
answered (answer.Throw v) = Throw v
