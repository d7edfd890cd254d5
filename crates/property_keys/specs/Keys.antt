-- Property keys and the texts that they stand for (ECMA-262, 6.1.7).
use Rattle.std.specs.Prelude.{◌≡◌, ◌<◌, ◌≤◌, ◌-◌, ◌^◌, ◌&&◌, ⊤, ℕ, List, [], Option, Some, None, Result, Ok, length, nat_le, if◌then◌else◌}
use Rattle.std.specs.Fmt.{decimal}
use Rattle.std.specs.Option.{option_map_or}
use Rattle.std.specs.Str.{bytes_eq}
use Rattle.std.specs.Str.Parse.{digits_value}
use Rattle.property_keys.specs.declared.identifiers.TextId.{TextId}
use Rattle.property_keys.specs.declared.keys.PropKey.{PropKey}
use Rattle.property_keys.specs.declared.keys.PropKey.TheVariants.{Index, Name, Sym}
use Rattle.property_keys.specs.Texts.{text_at}

abbrev pub most_index : ℕ
most_index = 2 ^ 32 - 2

-- the array index that a text is: it is the canonical decimal text of the number that its digits write, and that number is small enough
abbrev pub array_index_of : List ℕ → Option ℕ
array_index_of text = if nat_le (digits_value 10 text) most_index && bytes_eq text (decimal (digits_value 10 text)) then Some (digits_value 10 text) else None

-- the key of a text that has this number (ToPropertyKey, 7.1.19)
abbrev pub key_of : List ℕ → TextId → PropKey
key_of text id = option_map_or Index (array_index_of text) (Name id)

-- a key that stands for a text
abbrev pub IsTextKey : List (List ℕ) → PropKey → Type 0
IsTextKey table (Index index) = index ≤ most_index
IsTextKey table (Name id) = id.0 < length table
IsTextKey table (Sym symbol) = ⊥

-- a key of the property lists: the text of a name is known, and is no array index
abbrev pub IsGoodKey : List (List ℕ) → PropKey → Type 0
IsGoodKey table (Index index) = index ≤ most_index
IsGoodKey table (Name id) = (id.0 < length table) × (array_index_of (text_at table id.0) ≡ None)
IsGoodKey table (Sym symbol) = ⊤

-- the text that a key stands for
abbrev pub text_of_key : List (List ℕ) → PropKey → List ℕ
text_of_key table (Index index) = decimal index
text_of_key table (Name id) = text_at table id.0
text_of_key table (Sym symbol) = []

-- a name's own number is the number of its text
abbrev pub AnswersName : {E : Type 0} → PropKey → Result TextId E → Type 0
AnswersName (Index index) result = ⊤
AnswersName (Name id) result = result ≡ Ok id
AnswersName (Sym symbol) result = ⊤
