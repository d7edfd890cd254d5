-- Lists of the tree, of which the code knows an item and the number of the one behind it.
use Rattle.std.specs.Prelude.{◌≡◌, ◌+◌, ◌++◌, ℕ, suc, Bool, true, nat_le, Option, Some, None, List, [], ◌∷◌, drop, length, slice_get}
use Rattle.property_keys.specs.Limits.{most_units}
use Rattle.es_tree.specs.declared.numbers.NodeId.{NodeId}
use Rattle.evaluator.specs.declared.tree.Found.{Found}

-- the item of this number, if there is one
pub record IsItem (items : List NodeId) (i : ℕ) (found : Found) : Type 0 where
  pub item : slice_get items i ≡ Some found.node
  pub rest : drop i items ≡ found.node ∷ drop found.next items
  pub next : found.next ≡ suc i

pub record IsPast (items : List NodeId) (i : ℕ) : Type 0 where
  pub item : slice_get items i ≡ None
  pub rest : drop i items ≡ []

abbrev pub Finds : List NodeId → ℕ → Option Found → Type 0
Finds items i (Some found) = IsItem items i found
Finds items i None = IsPast items i

-- ---- texts that are put together

-- these code units behind those, where both fit into one text
pub record Appends (old more new : List ℕ) (fits : Bool) : Type 0 where
  pub limit : nat_le (length old + length more) most_units ≡ fits
  pub units : fits ≡ true → new ≡ old ++ more
