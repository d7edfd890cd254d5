-- Here `digits` unfolds too, which the text of a number stands on, and which the function's own list cannot name.
use Rattle.std.proofs.Common.{refl}
use Rattle.std.specs.Fmt.{digits}
use Rattle.es_model.specs.Changes.{changed, text_known}
use Rattle.es_model.specs.World.{number_of}
use Rattle.small_worlds.proofs.conversations.texts_are_made.Goals as goal

pub returns-clause-text_of_number : goal.returns-clause-text_of_number
unfolding digits changed text_known number_of
returns-clause-text_of_number c = refl
