-- Laws of texts, keys and numbers, each named by a public function.
use Rattle.std.specs.Prelude.{◌≡◌, ℕ, ℤ, List, Some}
use Rattle.property_keys.specs.declared.identifiers.TextId.{TextId}
use Rattle.property_keys.specs.declared.keys.PropKey.{PropKey}
use Rattle.property_keys.specs.Decimals.{whole_units}
use Rattle.property_keys.specs.Keys.{IsGoodKey, IsTextKey, key_of, text_of_key}
use Rattle.property_keys.specs.Numbers.{number_of}
use Rattle.property_keys.specs.Texts.{HasOneEach, text_at}
use Rattle.property_keys.specs.Wholes.{IsWhole}

-- the number of a whole number's text is that number
abbrev pub NumbersComeBack : Type 0
NumbersComeBack = (n : ℤ) → IsWhole n → number_of (whole_units n) ≡ Some n

-- two good keys that stand for one text are one key
abbrev pub KeysAreTexts : Type 0
KeysAreTexts = (table : List (List ℕ)) → HasOneEach table → (j k : PropKey) → IsTextKey table j → IsTextKey table k
    → IsGoodKey table j → IsGoodKey table k → text_of_key table j ≡ text_of_key table k → j ≡ k

-- the key of a text stands for that text
abbrev pub KeysKeepTexts : Type 0
KeysKeepTexts = (table : List (List ℕ)) (id : TextId) → text_of_key table (key_of (text_at table id.0) id) ≡ text_at table id.0
