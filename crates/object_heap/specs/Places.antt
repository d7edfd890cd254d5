-- The place of a key in a list of properties.
use Rattle.std.specs.Prelude.{◌≡◌, ℕ, ◌<◌, true, false, List, length, slice_index_or}
use Rattle.property_keys.specs.declared.keys.PropKey.{PropKey}
use Rattle.property_keys.specs.declared.keys.PropKey.TheVariants.{Index}
use Rattle.property_keys.specs.declared.values.Value.TheVariants.{Undefined}
use Rattle.descriptors.specs.declared.property.Complete.TheVariants.{Stored}
use Rattle.es_model.specs.declared.owned.OwnProperty.{OwnProperty}
use Rattle.es_model.specs.Objects.{same_key}

abbrev pub no_property : OwnProperty
no_property = record { key = Index 0; complete = Stored Undefined (record { writable = false; enumerable = false; configurable = false }) }

abbrev pub property_at : List OwnProperty → ℕ → OwnProperty
property_at ps i = slice_index_or ps i no_property

-- i is the first place with the key
pub record IsPlace (ps : List OwnProperty) (key : PropKey) (i : ℕ) : Type 0 where
  pub within : i < length ps
  pub here : same_key (property_at ps i).key key ≡ true
  pub first : (j : ℕ) → j < i → same_key (property_at ps j).key key ≡ false
