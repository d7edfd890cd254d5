-- Where the maps of a tree stand, and which representations are kept.
use Rattle.std.specs.Prelude.{◌≡◌, ◌≢◌, ◌<◌, ◌++◌, ◌∷◌, ◌&&◌, ℕ, Bool, true, false, List, [], Option, Some, None, length, nat_eq, slice_index_or, if◌then◌else◌}
use Rattle.property_keys.specs.declared.identifiers.ObjectId.{ObjectId}
use Rattle.property_keys.specs.declared.keys.Attributes.{Attributes}
use Rattle.map_store.specs.declared.MapId.{MapId}
use Rattle.map_store.specs.declared.OriginId.{OriginId}
use Rattle.map_store.specs.declared.entries.Kind.{Kind}
use Rattle.map_store.specs.declared.entries.Kind.TheVariants as kind
use Rattle.map_store.specs.declared.entries.Representation.{Representation}
use Rattle.map_store.specs.declared.entries.Representation.TheVariants as representation
use Rattle.transition_tree.specs.declared.paths.Step.{Step}
use Rattle.transition_tree.specs.declared.paths.Step.TheVariants as step
use Rattle.transition_tree.specs.Paths.{same_key}

-- an origin, a prototype and a path
pub record Row : Type 0 where
  pub origin : OriginId
  pub proto : Option ObjectId
  pub path : List Step

-- the row of a map, and the map that it follows by the last step of its path
pub record Standing : Type 0 where
  pub row : Row
  pub parent : Option MapId

-- the representation that was kept last for a row
pub record Kept : Type 0 where
  pub row : Row
  pub representation : Representation

-- of each map where it stands, and what is kept
pub record TreeView : Type 0 where
  pub maps : List Standing
  pub kept : List Kept

abbrev pub no_tree : TreeView
no_tree = record { maps = []; kept = [] }

abbrev pub root_row : OriginId → Option ObjectId → Row
root_row origin proto = record { origin = origin; proto = proto; path = [] }

-- the row by one step more, and by many
abbrev pub after : Row → Step → Row
after row s = record row { path = row.path ++ s ∷ [] }

abbrev pub onward : Row → List Step → Row
onward row path = record row { path = row.path ++ path }

abbrev pub no_row : Row
no_row = root_row (record { 0 = 0 }) None

abbrev pub no_standing : Standing
no_standing = record { row = no_row; parent = None }

abbrev pub standing_at : List Standing → ℕ → Standing
standing_at standings n = slice_index_or standings n no_standing

abbrev pub IsIn : TreeView → MapId → Type 0
IsIn tree map = map.0 < length tree.maps

abbrev pub row_of : TreeView → MapId → Row
row_of tree map = (standing_at tree.maps map.0).row

abbrev pub parent_of : TreeView → MapId → Option MapId
parent_of tree map = (standing_at tree.maps map.0).parent

-- some map was made at this row
abbrev pub HadMap : TreeView → Row → Type 0
HadMap tree row = (map : MapId) × IsIn tree map × (row_of tree map ≡ row)

-- ---- what is kept for a row

abbrev pub same_flag : Bool → Bool → Bool
same_flag true true = true
same_flag false false = true
same_flag a b = false

abbrev pub same_attributes : Attributes → Attributes → Bool
same_attributes a b = same_flag a.writable b.writable && (same_flag a.enumerable b.enumerable && same_flag a.configurable b.configurable)

abbrev pub same_kind : Kind → Kind → Bool
same_kind kind.Stored kind.Stored = true
same_kind kind.Accessor kind.Accessor = true
same_kind a b = false

abbrev pub same_step : Step → Step → Bool
same_step (step.Add key k a) (step.Add other l b) = same_key key other && (same_kind k l && same_attributes a b)
same_step (step.Redefine key k a) (step.Redefine other l b) = same_key key other && (same_kind k l && same_attributes a b)
same_step step.Close step.Close = true
same_step s t = false

abbrev pub same_path : List Step → List Step → Bool
same_path [] [] = true
same_path (s ∷ path) (t ∷ other) = same_step s t && same_path path other
same_path path other = false

abbrev pub same_proto : Option ObjectId → Option ObjectId → Bool
same_proto None None = true
same_proto (Some a) (Some b) = nat_eq a.0 b.0
same_proto a b = false

abbrev pub same_row : Row → Row → Bool
same_row a b = nat_eq a.origin.0 b.origin.0 && (same_proto a.proto b.proto && same_path a.path b.path)

-- None where nothing was kept
abbrev pub kept_at : List Kept → Row → Representation
kept_at [] row = representation.None
kept_at (k ∷ kept) row = if same_row k.row row then k.representation else kept_at kept row

-- the same is kept for each row
abbrev pub KeepsKept : TreeView → TreeView → Type 0
KeepsKept old new = (row : Row) → kept_at new.kept row ≡ kept_at old.kept row

-- the same maps, and the same kept for each row
pub record IsAsBefore (old new : TreeView) : Type 0 where
  pub maps : new.maps ≡ old.maps
  pub kept : KeepsKept old new

-- this is kept for a row, and for the others what was
pub record KeepsAt (old new : TreeView) (row : Row) (r : Representation) : Type 0 where
  pub here : kept_at new.kept row ≡ r
  pub others : (other : Row) → other ≢ row → kept_at new.kept other ≡ kept_at old.kept other
