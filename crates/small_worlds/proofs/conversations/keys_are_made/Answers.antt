-- Here `digits` unfolds too, which the text of a number stands on, and which the function's own list cannot name.
use Rattle.std.proofs.Common.{refl}
use Rattle.std.specs.Fmt.{digits}
use Rattle.es_model.specs.Changes.{changed, text_known}
use Rattle.es_model.specs.World.{number_of}
use Rattle.small_worlds.proofs.conversations.keys_are_made.Goals as goal

pub returns-clause-key_of_text : goal.returns-clause-key_of_text
unfolding digits changed text_known number_of
returns-clause-key_of_text c = refl

pub returns-clause-key_of_one : goal.returns-clause-key_of_one
unfolding digits changed text_known number_of
returns-clause-key_of_one c = refl

pub returns-clause-key_of_zeros : goal.returns-clause-key_of_zeros
unfolding digits changed text_known number_of
returns-clause-key_of_zeros c = refl

pub returns-clause-key_of_undefined : goal.returns-clause-key_of_undefined
unfolding digits changed text_known number_of
returns-clause-key_of_undefined c = refl

pub returns-clause-key_of_null : goal.returns-clause-key_of_null
unfolding digits changed text_known number_of
returns-clause-key_of_null c = refl

pub returns-clause-key_of_truth : goal.returns-clause-key_of_truth
unfolding digits changed text_known number_of
returns-clause-key_of_truth c = refl

pub returns-clause-key_of_object : goal.returns-clause-key_of_object
unfolding digits changed text_known number_of
returns-clause-key_of_object c = refl
