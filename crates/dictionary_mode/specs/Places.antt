-- How a dictionary keeps its entries: slots in the order in which they were filled, and the list of the slots that are in use.
use Rattle.std.specs.Prelude.{◌≡◌, ◌<◌, ◌≤◌, ℕ, List, Option, Some, map, length, slice_index}
use Rattle.property_keys.specs.declared.keys.PropKey.{PropKey}
use Rattle.descriptors.specs.declared.property.Complete.{Complete}
use Rattle.dictionary_mode.specs.Entries.{entry_at, key_at}

-- the entries in the slots that are in use
abbrev pub in_use : List (PropKey × Complete) → List ℕ → List (PropKey × Complete)
in_use slots order = map (entry_at slots) order

-- there may be so many slots. The index gives each key in use its slot. It may give a slot that is out of use, but never another key's
pub record IsSoundDictionary (index : PropKey → Option ℕ) (slots : List (PropKey × Complete)) (order : List ℕ) (most : ℕ) : Type 0 where
  pub rising : (i j : ℕ) → i < j → j < length order → slice_index order i < slice_index order j
  pub within : (i : ℕ) → i < length order → slice_index order i < length slots
  pub indexed : (i : ℕ) → i < length order → index (key_at slots (slice_index order i)) ≡ Some (slice_index order i)
  pub filled : (key : PropKey) (slot : ℕ) → index key ≡ Some slot → slot < length slots
  pub named : (key : PropKey) (slot : ℕ) → index key ≡ Some slot → key_at slots slot ≡ key
  pub room : length slots ≤ most
  pub fits : length order ≤ length slots
