-- The maps of a path's fronts, made where no live one is.
use Rattle.std.specs.Prelude.{◌≡◌, ◌<◌, ◌≤◌, true, List, [], length, MatchOption}
use Rattle.map_store.specs.declared.MapId.{MapId}
use Rattle.map_store.specs.Views.{IsKnown, MapsView, map_at}
use Rattle.transition_tree.specs.declared.paths.Step.{Step}
use Rattle.transition_tree.specs.Paths.{Follows}
use Rattle.transition_tree.specs.Rows.{KeepsKept, Row, TreeView, after, kept_at, onward, parent_of, root_row, row_of, standing_at}

abbrev pub root_of : Row → Row
root_of row = root_row row.origin row.proto

-- a map made from another by the representation that is kept for its row
pub record IsMadeFrom (tree : TreeView) (ms : MapsView) (n parent : MapId) : Type 0 where
  pub earlier : parent.0 < n.0
  pub by : Step
  pub row : row_of tree n ≡ after (row_of tree parent) by
  pub follows : Follows (map_at ms parent) by (kept_at tree.kept (row_of tree n)) (map_at ms n)

-- a live map at a front of a row, a root or made so
pub record IsMadeFor (tree : TreeView) (ms : MapsView) (row : Row) (n : MapId) : Type 0 where
  pub rest : List Step
  pub front : row ≡ onward (row_of tree n) rest
  pub live : (map_at ms n).live ≡ true
  pub made : MatchOption (parent_of tree n) ((row_of tree n).path ≡ []) (IsMadeFrom tree ms n)

-- Maps were made for a row; the maps that were there stand where they stood and are as they were, and for each row is kept what was.
pub record Grows (old new : TreeView) (before now : MapsView) (row : Row) : Type 0 where
  pub more : length before.maps ≤ length now.maps
  pub maps : (n : MapId) → IsKnown before n → map_at now n ≡ map_at before n
  pub tree : (n : MapId) → IsKnown before n → standing_at new.maps n.0 ≡ standing_at old.maps n.0
  pub kept : KeepsKept old new
  pub made : (n : MapId) → length before.maps ≤ n.0 → IsKnown now n → IsMadeFor new now row n
