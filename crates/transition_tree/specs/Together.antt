-- A tree and maps that belong together, and what the calls on both make of them.
use Rattle.std.specs.Prelude.{◌≡◌, ◌≢◌, ◌⊎◌, ◌<◌, ◌≤◌, ◌++◌, ◌∷◌, true, false, [], Option, Some, None, length, MatchOption, if◌then◌else◌}
use Rattle.property_keys.specs.declared.identifiers.ObjectId.{ObjectId}
use Rattle.map_store.specs.declared.MapId.{MapId}
use Rattle.map_store.specs.declared.OriginId.{OriginId}
use Rattle.map_store.specs.declared.entries.Representation.{Representation}
use Rattle.map_store.specs.Views.{MapView, MapsView, IsKnown, dead_map, map_at, rooted}
use Rattle.transition_tree.specs.declared.paths.Step.{Step}
use Rattle.transition_tree.specs.Paths.{Fits, MakesChild, form_in, form_of}
use Rattle.transition_tree.specs.Rows.{IsIn, KeepsAt, KeepsKept, Row, TreeView, after, parent_of, root_row, row_of}

-- a map of the origin, the prototype and the path of a row
pub record StandsAt (m : MapView) (row : Row) : Type 0 where
  pub origin : m.origin ≡ row.origin
  pub proto : m.proto ≡ row.proto
  pub form : form_in m ≡ form_of row.path

-- a map one step below an earlier one, which is live where it is
pub record IsUnder (tree : TreeView) (ms : MapsView) (map parent : MapId) : Type 0 where
  pub earlier : parent.0 < map.0
  pub live : (map_at ms map).live ≡ true → (map_at ms parent).live ≡ true
  pub by : Step
  pub row : row_of tree map ≡ after (row_of tree parent) by
  pub fits : Fits (map_at ms parent) by

-- The maps are those that the tree made, each with the entries of its path; every front of a live path is live; and of the maps of one row the
-- last alone may be live.
pub record BelongTogether (tree : TreeView) (ms : MapsView) : Type 0 where
  pub count : length tree.maps ≡ length ms.maps
  pub stands : (map : MapId) → IsKnown ms map → StandsAt (map_at ms map) (row_of tree map)
  pub under : (map : MapId) → IsKnown ms map → MatchOption (parent_of tree map) ((row_of tree map).path ≡ []) (IsUnder tree ms map)
  pub one :
      (early late : MapId) → early.0 < late.0 → IsKnown ms late →
      row_of tree early ≡ row_of tree late →
      (map_at ms early).live ≡ false

-- ---- the live map of a row

pub record IsLiveAt (tree : TreeView) (ms : MapsView) (row : Row) (map : MapId) : Type 0 where
  pub known : IsKnown ms map
  pub live : (map_at ms map).live ≡ true
  pub here : row_of tree map ≡ row

abbrev pub LacksLive : TreeView → MapsView → Row → Type 0
LacksLive tree ms row = (map : MapId) → IsKnown ms map → (map_at ms map).live ≡ true → row_of tree map ≢ row

abbrev pub HasLive : TreeView → MapsView → Row → Option MapId → Type 0
HasLive tree ms row result = MatchOption result (LacksLive tree ms row) (IsLiveAt tree ms row)

-- the map of a row that was made last, and the live one of it
pub record IsLastAt (tree : TreeView) (row : Row) (map : MapId) : Type 0 where
  pub known : IsIn tree map
  pub here : row_of tree map ≡ row
  pub last : (other : MapId) → IsIn tree other → row_of tree other ≡ row → other.0 ≤ map.0

abbrev pub LacksMap : TreeView → Row → Type 0
LacksMap tree row = (map : MapId) → IsIn tree map → row_of tree map ≢ row

abbrev pub HasLast : TreeView → Row → Option MapId → Type 0
HasLast tree row result = MatchOption result (LacksMap tree row) (IsLastAt tree row)

abbrev pub live_one : MapsView → Option MapId → Option MapId
live_one ms None = None
live_one ms (Some map) = if (map_at ms map).live then Some map else None

-- ---- the map that a map follows

abbrev pub IsRoot : TreeView → MapId → Type 0
IsRoot tree map = ((row_of tree map).path ≡ []) × (parent_of tree map ≡ None)

pub record CameBy (tree : TreeView) (map parent : MapId) (s : Step) : Type 0 where
  pub parent_is : parent_of tree map ≡ Some parent
  pub row : row_of tree map ≡ after (row_of tree parent) s
  pub earlier : parent.0 < map.0

-- ---- roots and children

-- the live map at a root is there, and nothing changes
pub record FindsRoot (old new : TreeView) (before now : MapsView) (origin : OriginId) (proto : Option ObjectId) (map : MapId) : Type 0 where
  pub here : IsLiveAt old before (root_row origin proto) map
  pub tree : new ≡ old
  pub maps : now ≡ before

-- no live map is at a root, and one is made
pub record MakesRoot (old new : TreeView) (before now : MapsView) (origin : OriginId) (proto : Option ObjectId) (map : MapId) : Type 0 where
  pub none : LacksLive old before (root_row origin proto)
  pub number : map.0 ≡ length before.maps
  pub made : now ≡ rooted before origin proto
  pub maps : new.maps ≡ old.maps ++ record { row = root_row origin proto; parent = None } ∷ []
  pub kept : KeepsKept old new

abbrev pub GetsRoot : TreeView → TreeView → MapsView → MapsView → OriginId → Option ObjectId → MapId → Type 0
GetsRoot old new before now origin proto map = FindsRoot old new before now origin proto map ⊎ MakesRoot old new before now origin proto map

-- a map is made from another by a step, and the representation is kept for its row
pub record AddsChild (old new : TreeView) (before now : MapsView) (parent : MapId) (s : Step) (r : Representation) (child : MapId) : Type 0 where
  pub made : MakesChild before now parent s r child
  pub maps : new.maps ≡ old.maps ++ record { row = after (row_of old parent) s; parent = Some parent } ∷ []
  pub kept : KeepsAt old new (after (row_of old parent) s) r

-- ---- what falls with a map

pub data IsBelow (tree : TreeView) (map : MapId) : MapId → Type 0 where
  itself : IsBelow tree map map
  under : {child : MapId} (parent : MapId) → parent_of tree child ≡ Some parent → IsBelow tree map parent → IsBelow tree map child

-- the map and each one below it are dead, and each other one is as it was
pub record DropsBranch (tree : TreeView) (before now : MapsView) (map : MapId) : Type 0 where
  pub count : length now.maps ≡ length before.maps
  pub arrays : now.lengths ≡ before.lengths
  pub each :
      (n : MapId) → IsKnown before n →
      (IsBelow tree map n × (map_at now n ≡ dead_map (map_at before n))) ⊎ ((IsBelow tree map n → ⊥) × (map_at now n ≡ map_at before n))
