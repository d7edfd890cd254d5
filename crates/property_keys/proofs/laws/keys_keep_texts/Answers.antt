use Rattle.property_keys.proofs.ArrayIndices.{text_of_key-key_of}
use Rattle.property_keys.proofs.laws.keys_keep_texts.Goals as goal

pub returns : goal.returns
returns c = text_of_key-key_of
