use Rattle.property_keys.proofs.KeyLaws.{same_key}
use Rattle.property_keys.proofs.laws.keys_are_texts.Goals as goal

pub returns : goal.returns
returns c = same_key
