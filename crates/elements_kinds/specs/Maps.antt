-- What a dictionary of elements has.
use Rattle.std.specs.Prelude.{ℕ, Option, Some, None}
use Rattle.std.specs.Ordering.{nat_cmp}
use Rattle.std.specs.BTreeMap.{BTreeMap}
use Rattle.std.specs.FinMap as map_of
use Rattle.std.specs.FinMap.{FinMap}
use Rattle.property_keys.specs.declared.values.Value.{Value}
use Rattle.descriptors.specs.declared.property.Complete.{Complete}
use Rattle.elements_kinds.specs.Properties.{plain}

unfoldable pub properties_in : BTreeMap ℕ Complete → FinMap nat_cmp Complete
properties_in map = map_of.from_entries map.entries

-- the property of a value more, if there is a value
abbrev pub with_value : FinMap nat_cmp Complete → ℕ → Option Value → FinMap nat_cmp Complete
with_value properties i None = properties
with_value properties i (Some value) = map_of.insert properties i (plain value)
