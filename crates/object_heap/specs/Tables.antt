-- What holds of the table of texts of every heap: each text has one number, and two of the texts that are there from the start are known by theirs.
use Rattle.std.specs.Prelude.{◌≡◌, ◌<◌, ℕ, List, [], codes, length}
use Rattle.property_keys.specs.Texts.{HasOneEach, text_at}
use Rattle.es_model.specs.declared.start_texts.StartText.TheVariants as start_text
use Rattle.es_model.specs.StartTexts.{text_number}
use Rattle.es_model.specs.World.{text_place}

pub record IsTable (texts : List (List ℕ)) : Type 0 where
  pub one : HasOneEach texts
  pub message : text_place texts (codes "message") ≡ text_number start_text.Message
  pub empty : text_at texts (text_number start_text.Empty) ≡ []
  pub there : text_number start_text.Empty < length texts
