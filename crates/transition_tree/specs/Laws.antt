-- Laws of a tree and maps that belong together.
use Rattle.std.specs.Prelude.{◌≡◌, List}
use Rattle.map_store.specs.declared.MapId.{MapId}
use Rattle.map_store.specs.Views.{MapsView}
use Rattle.transition_tree.specs.declared.paths.Step.{Step}
use Rattle.transition_tree.specs.Rows.{Row, TreeView, onward}
use Rattle.transition_tree.specs.Together.{BelongTogether, IsLiveAt}

-- live maps of one row are one map
abbrev pub HasOneLiveEach : Type 0
HasOneLiveEach = (tree : TreeView) (ms : MapsView) (row : Row) (a b : MapId) → BelongTogether tree ms → IsLiveAt tree ms row a → IsLiveAt tree ms row b → a ≡ b

abbrev pub HasSomeLive : TreeView → MapsView → Row → Type 0
HasSomeLive tree ms row = (map : MapId) × IsLiveAt tree ms row map

-- each front of a live map's path has a live map
abbrev pub HasLiveFronts : Type 0
HasLiveFronts =
    (tree : TreeView) (ms : MapsView) (front : Row) (later : List Step) (map : MapId) →
    BelongTogether tree ms → IsLiveAt tree ms (onward front later) map → HasSomeLive tree ms front
