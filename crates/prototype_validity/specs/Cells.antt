-- Validity cells: a cell's number is its place in their list.
use Rattle.std.specs.Prelude.{◌≡◌, ◌≢◌, ◌<◌, ◌⊎◌, ◌++◌, ◌∷◌, [], ℕ, Bool, true, false, List}
use Rattle.std.specs.Prelude.{Result, Ok, Err, length, map, nat_eq, slice_index_or, if◌then◌else◌}
use Rattle.std.specs.List.{list_any}
use Rattle.prototype_validity.specs.declared.cell.Cell.{Cell}
use Rattle.prototype_validity.specs.declared.cell.CellId.{CellId}

-- what is read past the end of the list
abbrev pub no_cell : Cell
no_cell = record { chain = []; holds = false }

abbrev pub cell_of : List Cell → ℕ → Cell
cell_of cells id = slice_index_or cells id no_cell

abbrev pub includes : ℕ → List ℕ → Bool
includes object chain = list_any (nat_eq object) chain

-- a cell once an object was changed: it holds no more where the object is on its chain
abbrev pub changed_cell : ℕ → Cell → Cell
changed_cell object cell = if includes object cell.chain then record { chain = cell.chain; holds = false } else cell

abbrev pub after_change : List Cell → ℕ → List Cell
after_change cells object = map (changed_cell object) cells

-- a cell with this chain that holds
pub record IsCellOf (cells : List Cell) (chain : List ℕ) (id : ℕ) : Type 0 where
  pub known : id < length cells
  pub chain_is : (cell_of cells id).chain ≡ chain
  pub still_holds : (cell_of cells id).holds ≡ true

-- no cell with this chain holds
abbrev pub HasNoCell : List Cell → List ℕ → Type 0
HasNoCell cells chain = (id : ℕ) → id < length cells → (cell_of cells id).chain ≡ chain → (cell_of cells id).holds ≡ false

abbrev pub new_cell : List ℕ → Cell
new_cell chain = record { chain = chain; holds = true }

-- the known cell with this chain that holds, where there is one, and else a new one at the end of the list
abbrev pub GivesCell : {E : Type 0} → List Cell → List Cell → List ℕ → Result CellId E → Type 0
GivesCell old new chain (Ok id) =
    (IsCellOf old chain id.0 × (new ≡ old))
    ⊎ (HasNoCell old chain × (id.0 ≡ length old) × (new ≡ old ++ new_cell chain ∷ []))
GivesCell old new chain (Err fault) = new ≡ old

-- one cell was changed for the object, if there is one of that number
pub record Drops (old new : List Cell) (object number : ℕ) : Type 0 where
  pub count : length new ≡ length old
  pub here : number < length old → cell_of new number ≡ changed_cell object (cell_of old number)
  pub others : (i : ℕ) → i ≢ number → cell_of new i ≡ cell_of old i
