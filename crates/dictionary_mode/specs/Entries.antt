-- An ordered list of keys with properties, seen from outside.
use Rattle.std.specs.Prelude.{◌≡◌, ◌≢◌, ◌<◌, ℕ, Bool, true, false, List, None, length, slice_index_or, slice_set, remove}
use Rattle.property_keys.specs.declared.keys.PropKey.{PropKey}
use Rattle.property_keys.specs.declared.keys.PropKey.TheVariants.{Index}
use Rattle.descriptors.specs.declared.property.Complete.{Complete}
use Rattle.descriptors.specs.declared.property.Complete.TheVariants.{Accessor}

-- what is read past the end of a list
abbrev pub no_entry : PropKey × Complete
no_entry = (Index 0, Accessor None None false false)

abbrev pub entry_at : List (PropKey × Complete) → ℕ → PropKey × Complete
entry_at entries place = slice_index_or entries place no_entry

abbrev pub key_at : List (PropKey × Complete) → ℕ → PropKey
key_at entries place = (entry_at entries place).0

abbrev pub property_at : List (PropKey × Complete) → ℕ → Complete
property_at entries place = (entry_at entries place).1

-- the key stands at this place
pub record IsPlaceOf (entries : List (PropKey × Complete)) (key : PropKey) (place : ℕ) : Type 0 where
  pub known : place < length entries
  pub names : key_at entries place ≡ key

-- the key stands at no place
abbrev pub LacksKey : List (PropKey × Complete) → PropKey → Type 0
LacksKey entries key = (place : ℕ) → place < length entries → key_at entries place ≢ key

-- no key stands at two places
abbrev pub HasOneEach : List (PropKey × Complete) → Type 0
HasOneEach entries = (i j : ℕ) → i < length entries → j < length entries → key_at entries i ≡ key_at entries j → i ≡ j

-- the property at a place is another, and all else is as before
abbrev pub with_property : List (PropKey × Complete) → ℕ → Complete → List (PropKey × Complete)
with_property entries place property = slice_set entries place (key_at entries place, property)

-- the entry of the key was taken out of its place and the others keep their order, or there was none
abbrev pub Removes : List (PropKey × Complete) → List (PropKey × Complete) → PropKey → Bool → Type 0
Removes old new key true = (place : ℕ) × IsPlaceOf old key place × (new ≡ remove old place)
Removes old new key false = LacksKey old key × (new ≡ old)
