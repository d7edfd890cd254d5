-- The place of a key among entries, and the steps that it takes to find it.
use Rattle.std.specs.Prelude.{◌≡◌, ℕ, ◌<◌, ◌+◌, ◌-◌, ◌^◌, Option, Some, None, List, length, min, max}
use Rattle.property_keys.specs.declared.keys.PropKey.{PropKey}
use Rattle.map_store.specs.declared.entries.Entry.{Entry}
use Rattle.map_store.specs.Views.{entry_at}

-- i is the first place with the key
pub record IsPlace (es : List Entry) (key : PropKey) (i : ℕ) : Type 0 where
  pub within : i < length es
  pub here : (entry_at es i).key ≡ key
  pub first : (j : ℕ) → j < i → (entry_at es j).key ≡ key → ⊥

-- no entry has the key
abbrev pub LacksKey : List Entry → PropKey → Type 0
LacksKey es key = (j : ℕ) → j < length es → (entry_at es j).key ≡ key → ⊥

-- how many entries are compared up to a place, or where the key has none
abbrev pub compared : Option ℕ → ℕ → ℕ
compared (Some i) count = i + 1
compared None count = count

-- so many steps more; at 2 ^ 64 - 1 a count stays where it is
abbrev pub steps_on : ℕ → ℕ → ℕ
steps_on more n = max n (min (n + more) (2 ^ 64 - 1))
