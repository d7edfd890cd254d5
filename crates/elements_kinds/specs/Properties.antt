-- What a list of values, one for each index from 0 on, has as properties: None is an absent index.
use Rattle.std.specs.Prelude.{◌+◌, ℕ, true, Option, Some, None, List, [], ◌∷◌}
use Rattle.std.specs.Ordering.{nat_cmp}
use Rattle.std.specs.FinMap.{FinMap, from_entries}
use Rattle.property_keys.specs.declared.values.Value.{Value}
use Rattle.descriptors.specs.declared.property.Complete.{Complete}
use Rattle.descriptors.specs.declared.property.Complete.TheVariants.{Stored}
use Rattle.elements_kinds.specs.declared.kinds.Class.{Class}

-- what is seen of words of one class
pub record Held : Type 0 where
  pub values : List (Option Value)
  pub class : Class

-- a data property whose three flags are true
abbrev pub plain : Value → Complete
plain value = Stored value (record { writable = true; enumerable = true; configurable = true })

-- the properties of values that stand from this index on
abbrev pub entries_from : ℕ → List (Option Value) → List (ℕ × Complete)
entries_from i [] = []
entries_from i (None ∷ values) = entries_from (i + 1) values
entries_from i (Some value ∷ values) = (i, plain value) ∷ entries_from (i + 1) values

unfoldable pub properties_of : List (Option Value) → FinMap nat_cmp Complete
properties_of values = from_entries (entries_from 0 values)
