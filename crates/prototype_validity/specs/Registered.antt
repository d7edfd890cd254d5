-- The lists of cells, one for each object.
use Rattle.std.specs.Prelude.{◌≡◌, ◌<◌, ℕ, Option, Some, unwrap_or}
use Rattle.std.specs.HashMap.{get}
use Rattle.property_keys.specs.declared.identifiers.ObjectId.{ObjectId}
use Rattle.property_keys.specs.contracts.identifiers.ObjectIdPartialEq.TheImpl.{eq-value as object_eq}
use Rattle.prototype_validity.specs.declared.registry.Registry.{Registry}
use Rattle.prototype_validity.specs.contracts.registry.ListPlacePartialEq.TheImpl.{eq-value as place_eq}

abbrev pub count_of : Registry → ObjectId → ℕ
count_of registry object = unwrap_or (get object_eq.it registry.counts object) 0

abbrev pub cell_at : Registry → ObjectId → ℕ → Option ℕ
cell_at registry object number = get place_eq.it registry.cells (record { object = object; number = number })

-- the cell stands in the list of the object
pub record IsListed (registry : Registry) (object : ObjectId) (cell : ℕ) : Type 0 where
  pub number : ℕ
  pub below : number < count_of registry object
  pub stands : cell_at registry object number ≡ Some cell
