-- How a tree keeps its maps: places with what leads to each and what is kept of it, and of each map its place.
use Rattle.std.specs.Prelude.{◌≡◌, ◌⊎◌, ◌<◌, ◌≤◌, ◌^◌, ◌++◌, ◌∷◌, ℕ, true, ⊤, List, [], Some, None, length, map, slice_index_or, MatchOption}
use Rattle.map_store.specs.declared.MapId.{MapId}
use Rattle.map_store.specs.declared.entries.Representation.TheVariants as representation
use Rattle.transition_tree.specs.declared.edges.Edge.{Edge}
use Rattle.transition_tree.specs.declared.edges.Edge.TheVariants as edge
use Rattle.transition_tree.specs.declared.paths.Step.{Step}
use Rattle.transition_tree.specs.declared.table.Made.{Made}
use Rattle.transition_tree.specs.declared.table.Slot.{Slot}
use Rattle.transition_tree.specs.Edges.{HasNoPlace, HasOneEach, IsPlaceOf, by_accessor, edge_at, step_before}
use Rattle.transition_tree.specs.Rows.{Kept, Row, Standing, TreeView, after, no_row, root_row}
use Rattle.transition_tree.specs.declared.paths.Step.TheVariants as step
use Rattle.transition_tree.specs.Edges.{attributes_in, kind_in}

abbrev pub no_slot : Slot
no_slot = record { kept = representation.None; latest = None }

abbrev pub slot_at : List Slot → ℕ → Slot
slot_at slots n = slice_index_or slots n no_slot

abbrev pub no_made : Made
no_made = record { place = 0; parent = None }

abbrev pub made_at : List Made → ℕ → Made
made_at made n = slice_index_or made n no_made

-- ---- the rows of places

abbrev pub row_at : List Row → ℕ → Row
row_at rows n = slice_index_or rows n no_row

-- the row to which an edge leads from earlier places
abbrev pub row_by : List Row → Edge → Row
row_by rows (edge.Root origin) = root_row (record { 0 = origin }) None
row_by rows (edge.RootOn origin proto) = root_row (record { 0 = origin }) (Some proto)
row_by rows (edge.Add place key f) = after (row_at rows place) (step.Add key (kind_in f) (attributes_in f))
row_by rows (edge.Redefine place key f) = after (row_at rows place) (step.Redefine key (kind_in f) (attributes_in f))
row_by rows (edge.Close place) = after (row_at rows place) step.Close

abbrev pub rows_onto : List Row → List Edge → List Row
rows_onto rows [] = rows
rows_onto rows (e ∷ edges) = rows_onto (rows ++ row_by rows e ∷ []) edges

abbrev pub rows_of : List Edge → List Row
rows_of edges = rows_onto [] edges

-- ---- what callers see

abbrev pub standing_of : List Row → Made → Standing
standing_of rows m = record { row = row_at rows m.place; parent = m.parent }

abbrev pub kept_list : List Row → List Slot → List Kept
kept_list [] slots = []
kept_list (row ∷ rows) [] = []
kept_list (row ∷ rows) (s ∷ slots) = record { row = row; representation = s.kept } ∷ kept_list rows slots

abbrev pub tree_view : List Edge → List Slot → List Made → TreeView
tree_view edges slots made = record { maps = map (standing_of (rows_of edges)) made; kept = kept_list (rows_of edges) slots }

-- ---- what holds of each tree

-- an edge leads on from an earlier place
abbrev pub LeadsOn : Edge → ℕ → Type 0
LeadsOn e n = MatchOption (step_before e) ⊤ (λ (q : ℕ × Step). q.0 < n)

pub record HasRow (rows : List Row) (edges : List Edge) (n : ℕ) : Type 0 where
  pub leads : LeadsOn (edge_at edges n) n
  pub row : row_at rows n ≡ row_by rows (edge_at edges n)

-- an edge leads from the place of an earlier map
pub record LeadsFrom (e : Edge) (made : List Made) (n : ℕ) (parent : MapId) : Type 0 where
  pub earlier : parent.0 < n
  pub by : Step
  pub before : step_before e ≡ Some ((made_at made parent.0).place, by)

-- a map is at a known place, to which its parent's place leads
pub record IsPlaced (edges : List Edge) (made : List Made) (n : ℕ) : Type 0 where
  pub known : (made_at made n).place < length edges
  pub parent :
      MatchOption (made_at made n).parent
      (step_before (edge_at edges (made_at made n).place) ≡ None)
      (LeadsFrom (edge_at edges (made_at made n).place) made n)

-- the map that was made last at a place
pub record IsLatest (made : List Made) (place : ℕ) (map : MapId) : Type 0 where
  pub known : map.0 < length made
  pub here : (made_at made map.0).place ≡ place
  pub last : (n : ℕ) → n < length made → (made_at made n).place ≡ place → n ≤ map.0

abbrev pub IsFree : List Made → ℕ → Type 0
IsFree made place = (n : ℕ) → n < length made → (made_at made n).place ≡ place → ⊥

pub record IsSoundTable (edges : List Edge) (slots : List Slot) (made : List Made) : Type 0 where
  pub paired : length slots ≡ length edges
  pub few : length made < 2 ^ 32
  pub one : HasOneEach edges
  pub rows : (n : ℕ) → n < length edges → HasRow (rows_of edges) edges n
  pub maps : (n : ℕ) → n < length made → IsPlaced edges made n
  pub latest : (n : ℕ) → n < length edges → MatchOption (slot_at slots n).latest (IsFree made n) (IsLatest made n)
  -- Pair is kept for steps of kind Accessor alone, and for each of them by which a map was made
  pub pairs : (n : ℕ) → n < length edges → (slot_at slots n).kept ≡ representation.Pair → by_accessor (edge_at edges n) ≡ true
  pub paired_maps :
      (n : ℕ) → n < length made →
      by_accessor (edge_at edges (made_at made n).place) ≡ true →
      (slot_at slots (made_at made n).place).kept ≡ representation.Pair

-- ---- the calls of a table

-- the slot of an edge's place
pub record IsSlotOf (edges : List Edge) (slots : List Slot) (e : Edge) (s : Slot) : Type 0 where
  pub place : ℕ
  pub found : IsPlaceOf edges e place
  pub here : slot_at slots place ≡ s

-- the edge has this place
pub record FindsPlace (edges : List Edge) (slots : List Slot) (edges' : List Edge) (slots' : List Slot) (e : Edge) (n : ℕ) : Type 0 where
  pub found : IsPlaceOf edges e n
  pub edges_are : edges' ≡ edges
  pub slots_are : slots' ≡ slots

-- the edge gets this place, of which nothing is kept yet
pub record MakesPlace (edges : List Edge) (slots : List Slot) (edges' : List Edge) (slots' : List Slot) (e : Edge) (n : ℕ) : Type 0 where
  pub none : HasNoPlace edges e
  pub number : n ≡ length edges
  pub edges_are : edges' ≡ edges ++ e ∷ []
  pub slots_are : slots' ≡ slots ++ no_slot ∷ []

abbrev pub GetsPlace : List Edge → List Slot → List Edge → List Slot → Edge → ℕ → Type 0
GetsPlace edges slots edges' slots' e n = FindsPlace edges slots edges' slots' e n ⊎ MakesPlace edges slots edges' slots' e n
