-- What holds of the cells at every time: a cell that holds is the newest one of its chain, and stands in the lists of all objects of its chain.
use Rattle.std.specs.Prelude.{◌≡◌, ◌<◌, ◌^◌, ℕ, true, List, Option, Some, length}
use Rattle.property_keys.specs.declared.identifiers.ObjectId.{ObjectId}
use Rattle.prototype_validity.specs.declared.cell.Cell.{Cell}
use Rattle.prototype_validity.specs.declared.registry.Registry.{Registry}
use Rattle.prototype_validity.specs.Cells.{cell_of, includes}
use Rattle.prototype_validity.specs.Registered.{IsListed}

pub record IsSoundRegistry (newest : List ℕ → Option ℕ) (registry : Registry) (cells : List Cell) : Type 0 where
  pub room : length cells < 2 ^ 32
  pub kept : (i : ℕ) → i < length cells → (cell_of cells i).holds ≡ true → newest (cell_of cells i).chain ≡ Some i
  pub listed : (i : ℕ) (o : ObjectId)
      → i < length cells
      → (cell_of cells i).holds ≡ true
      → includes o.0 (cell_of cells i).chain ≡ true
      → IsListed registry o i
