-- Steps, and what a path gives.
use Rattle.std.specs.Prelude.{◌≡◌, ◌↔◌, ◌++◌, ◌∷◌, ℕ, Bool, true, false, List, [], length, map, nat_eq, slice_set, if◌then◌else◌}
use Rattle.property_keys.specs.declared.keys.Attributes.{Attributes}
use Rattle.property_keys.specs.declared.keys.PropKey.{PropKey}
use Rattle.property_keys.specs.declared.keys.PropKey.TheVariants.{Index, Name, Sym}
use Rattle.map_store.specs.declared.MapId.{MapId}
use Rattle.map_store.specs.declared.entries.Entry.{Entry}
use Rattle.map_store.specs.declared.entries.Kind.{Kind}
use Rattle.map_store.specs.declared.entries.Kind.TheVariants as kind
use Rattle.map_store.specs.declared.entries.Representation.{Representation}
use Rattle.map_store.specs.declared.entries.Representation.TheVariants as representation
use Rattle.map_store.specs.Keys.{IsPlace, LacksKey}
use Rattle.map_store.specs.Views.{MapView, MapsView, closed_off, entry_at, extended, map_at, replaced}
use Rattle.transition_tree.specs.declared.paths.Step.{Step}
use Rattle.transition_tree.specs.declared.paths.Step.TheVariants as step

-- the entry of a step, at a place
abbrev pub entry_of : PropKey → Kind → Attributes → Representation → ℕ → Entry
entry_of key kind attributes r place = record { key = key; kind = kind; attributes = attributes; representation = r; place = place }

-- a step fits a map: an Add of a key that no entry has and a Close want an extensible map, a Redefine an entry with its key
abbrev pub Fits : MapView → Step → Type 0
Fits m (step.Add key kind attributes) = (m.extensible ≡ true) × LacksKey m.entries key
Fits m (step.Redefine key kind attributes) = LacksKey m.entries key → ⊥
Fits m step.Close = m.extensible ≡ true

-- the entries that a step makes of a map's: an Add appends the next field, a Redefine changes the entry with its key in its place
abbrev pub IsStepped : List Entry → Step → Representation → List Entry → Type 0
IsStepped es (step.Add key kind attributes) r new = new ≡ es ++ entry_of key kind attributes r (length es) ∷ []
IsStepped es (step.Redefine key kind attributes) r new =
    (i : ℕ) × IsPlace es key i × (new ≡ slice_set es i (entry_of key kind attributes r (entry_at es i).place))
IsStepped es step.Close r new = new ≡ es

abbrev pub stays_extensible : Step → Bool → Bool
stays_extensible step.Close b = false
stays_extensible other b = b

-- a map made from another by a step
pub record Follows (m : MapView) (s : Step) (r : Representation) (child : MapView) : Type 0 where
  pub origin : child.origin ≡ m.origin
  pub proto : child.proto ≡ m.proto
  pub live : child.live ≡ true
  pub extensible : child.extensible ≡ stays_extensible s m.extensible
  pub entries : IsStepped m.entries s r child.entries

-- what a step makes of the maps and their arrays: an Add shares the map's array where the map owns its end, and a Close always does
abbrev pub IsMadeBy : MapsView → MapId → Step → Representation → MapsView → Type 0
IsMadeBy before map (step.Add key kind attributes) r now =
    now ≡ extended before map (entry_of key kind attributes r (length (map_at before map).entries))
IsMadeBy before map (step.Redefine key kind attributes) r now =
    (i : ℕ) × IsPlace (map_at before map).entries key i
    × (now ≡ replaced before map i (entry_of key kind attributes r (entry_at (map_at before map).entries i).place))
IsMadeBy before map step.Close r now = now ≡ closed_off before map

-- one map more, made from a map by a step; the maps that were there stay
pub record MakesChild (before after : MapsView) (parent : MapId) (s : Step) (r : Representation) (child : MapId) : Type 0 where
  pub all : IsMadeBy before parent s r after
  pub number : child.0 ≡ length before.maps
  pub maps : after.maps ≡ before.maps ++ map_at after child ∷ []
  pub follows : Follows (map_at before parent) s r (map_at after child)

-- ---- what a path gives, but for the representations

abbrev pub bare : Entry → Entry
bare e = record e { representation = representation.None }

pub record Form : Type 0 where
  pub entries : List Entry
  pub extensible : Bool

abbrev pub form_in : MapView → Form
form_in m = record { entries = map bare m.entries; extensible = m.extensible }

abbrev pub same_key : PropKey → PropKey → Bool
same_key (Index a) (Index b) = nat_eq a b
same_key (Name a) (Name b) = nat_eq a.0 b.0
same_key (Sym a) (Sym b) = nat_eq a.0 b.0
same_key a b = false

-- the entry with a key gets another kind and other flags, in its place
abbrev pub redefined : PropKey → Kind → Attributes → List Entry → List Entry
redefined key kind attributes [] = []
redefined key kind attributes (e ∷ es) =
    if same_key e.key key then record e { kind = kind; attributes = attributes } ∷ es else e ∷ redefined key kind attributes es

abbrev pub stepped : Form → Step → Form
stepped f (step.Add key kind attributes) = record f { entries = f.entries ++ entry_of key kind attributes representation.None (length f.entries) ∷ [] }
stepped f (step.Redefine key kind attributes) = record f { entries = redefined key kind attributes f.entries }
stepped f step.Close = record f { extensible = false }

abbrev pub stepped_by : Form → List Step → Form
stepped_by f [] = f
stepped_by f (s ∷ path) = stepped_by (stepped f s) path

abbrev pub form_of : List Step → Form
form_of path = stepped_by (record { entries = []; extensible = true }) path

-- ---- the representations that go with a step

abbrev pub is_accessor : Kind → Bool
is_accessor kind.Stored = false
is_accessor kind.Accessor = true

abbrev pub is_accessor_step : Step → Bool
is_accessor_step (step.Add key kind attributes) = is_accessor kind
is_accessor_step (step.Redefine key kind attributes) = is_accessor kind
is_accessor_step step.Close = false

-- Pair exactly for a step whose kind is Accessor
abbrev pub HasPairWhereDue : Step → Representation → Type 0
HasPairWhereDue s r = (r ≡ representation.Pair) ↔ (is_accessor_step s ≡ true)
