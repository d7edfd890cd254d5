-- What holds of a store at every time.
use Rattle.std.specs.Prelude.{◌≡◌, ◌-◌, ◌++◌, ◌<◌, ◌≤◌, ◌^◌, ℕ, true, Option, None, List, length, is_some, replicate, slice_index_or}
use Rattle.property_keys.specs.declared.values.Value.{Value}
use Rattle.elements_kinds.specs.Rules.{capacity_for}

-- all that is present is below the end, and the last index below it is present
pub record IsSoundStore (values : List (Option Value)) (end : ℕ) : Type 0 where
  pub past : (i : ℕ) → end ≤ i → slice_index_or values i None ≡ None
  pub last : 0 < end → is_some (slice_index_or values (end - 1) None) ≡ true
  pub room : length values < 2 ^ 24

-- so many holes more that there is a word for i
abbrev pub grown : List (Option Value) → ℕ → List (Option Value)
grown values i = values ++ replicate (capacity_for (length values) i - length values) None
