-- What becomes of a tree where a field meets a class that it does not take.
use Rattle.std.specs.Prelude.{◌≡◌, ◌≢◌, ◌⊎◌, ◌∷◌, ℕ, true, false, ⊤, List, [], length}
use Rattle.property_keys.specs.declared.keys.PropKey.{PropKey}
use Rattle.map_store.specs.declared.MapId.{MapId}
use Rattle.map_store.specs.Views.{IsKnown, MapsView, dead_map, entry_at, map_at}
use Rattle.transition_tree.specs.declared.paths.Step.{Step}
use Rattle.transition_tree.specs.declared.paths.Step.TheVariants as step
use Rattle.transition_tree.specs.Paths.{is_accessor, is_accessor_step}
use Rattle.transition_tree.specs.Rows.{Row, TreeView, after, kept_at, onward, row_of}
use Rattle.map_deprecation.specs.declared.classes.Class.{Class}
use Rattle.map_deprecation.specs.Classes.{IsLeastAbove, is_at_or_above, of_class}

-- a step gives a key its entry, or changes that
abbrev pub Names : Step → PropKey → Type 0
Names (step.Add key kind attributes) name = key ≡ name
Names (step.Redefine key kind attributes) name = key ≡ name
Names step.Close name = ⊥

-- none of these steps does so
abbrev pub NoneNames : PropKey → List Step → Type 0
NoneNames name [] = ⊤
NoneNames name (s ∷ path) = (Names s name → ⊥) × NoneNames name path

-- the step by which a row goes on from a front, the last one that names the key
pub record IsGivenBy (row : Row) (key : PropKey) (front : Row) (s : Step) : Type 0 where
  pub later : List Step
  pub here : row ≡ onward (after front s) later
  pub names : Names s key
  pub last : NoneNames key later

-- the map that the step which gave an entry led to, and the map that it led from
pub record IsGiver (tree : TreeView) (ms : MapsView) (map : MapId) (i : ℕ) (at parent : MapId) (s : Step) : Type 0 where
  pub given : IsGivenBy (row_of tree map) (entry_at (map_at ms map).entries i).key (row_of tree parent) s
  pub row : row_of tree at ≡ after (row_of tree parent) s
  pub known : IsKnown ms at
  pub parent_known : IsKnown ms parent
  pub kind_is : is_accessor_step s ≡ is_accessor (entry_at (map_at ms map).entries i).kind

-- each map at a row or beyond is dead, and each other one is as it was
pub record DropsThrough (tree : TreeView) (before now : MapsView) (row : Row) : Type 0 where
  pub count : length now.maps ≡ length before.maps
  pub arrays : now.lengths ≡ before.lengths
  pub through : (n : MapId) → IsKnown before n → (rest : List Step) → row_of tree n ≡ onward row rest → map_at now n ≡ dead_map (map_at before n)
  pub others : (n : MapId) → IsKnown before n → ((rest : List Step) → row_of tree n ≢ onward row rest) → map_at now n ≡ map_at before n

-- what is kept for a row takes the class, and nothing changes
pub record TakesClass (old new : TreeView) (before now : MapsView) (row : Row) (class : Class) : Type 0 where
  pub taken : is_at_or_above (kept_at old.kept row) (of_class class) ≡ true
  pub tree : new ≡ old
  pub maps : now ≡ before

-- the least above both is kept, and the maps through the row die
pub record JoinsClass (old new : TreeView) (before now : MapsView) (row : Row) (class : Class) : Type 0 where
  pub not_taken : is_at_or_above (kept_at old.kept row) (of_class class) ≡ false
  pub least : IsLeastAbove (kept_at old.kept row) (of_class class) (kept_at new.kept row)
  pub others : (other : Row) → other ≢ row → kept_at new.kept other ≡ kept_at old.kept other
  pub tree : new.maps ≡ old.maps
  pub maps : DropsThrough new before now row

-- the same at the row of the step that gave a key its entry
pub record Generalises (old new : TreeView) (before now : MapsView) (map : MapId) (key : PropKey) (class : Class) : Type 0 where
  pub front : Row
  pub by : Step
  pub given : IsGivenBy (row_of old map) key front by
  pub change : TakesClass old new before now (after front by) class ⊎ JoinsClass old new before now (after front by) class
