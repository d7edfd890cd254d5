-- Which frames belong to the lists of a world: all that a frame keeps is there, each object with the kind that its algorithm has found. A crate of
-- frames lists what each of its frames keeps, and says `Belongs names_of l frame`.
use Rattle.std.specs.Prelude.{ℕ, Bool, IsTrue, List, ◌<◌, ◌≤◌, length}
use Rattle.std.specs.List.{AllByRecursion}
use Rattle.property_keys.specs.declared.identifiers.ObjectId.{ObjectId}
use Rattle.property_keys.specs.declared.identifiers.SymbolId.{SymbolId}
use Rattle.property_keys.specs.declared.identifiers.TextId.{TextId}
use Rattle.property_keys.specs.declared.keys.PropKey.{PropKey}
use Rattle.property_keys.specs.declared.values.Value.{Value}
use Rattle.descriptors.specs.declared.fields.Descriptor.{Descriptor}
use Rattle.descriptors.specs.declared.property.Complete.{Complete}
use Rattle.es_tree.specs.declared.numbers.FunctionNo.{FunctionNo}
use Rattle.es_tree.specs.declared.numbers.NodeId.{NodeId}
use Rattle.es_tree.specs.declared.numbers.SiteId.{SiteId}
use Rattle.es_tree.specs.Tree.{Tree, top_names}
use Rattle.es_model.specs.declared.kinds.CellNo.{CellNo}
use Rattle.es_model.specs.declared.kinds.ObjectKind.{ObjectKind}
use Rattle.es_model.specs.Completions.{Completion}
use Rattle.es_model.specs.World.{Lists, World, kind}
use Rattle.es_model.specs.Changes.{Change, changed}
use Rattle.es_model.specs.Program.{Task, Server}
use Rattle.es_model.specs.Outcomes.{world_of}
use Rattle.es_model.specs.Grows.{Grows, fixed_kind}
use Rattle.es_model.specs.Known.{IsObject, IsText, IsSymbol, IsCell, IsKnown, IsKnownKey, IsKnownComplete, IsKnownDescriptor}
use Rattle.es_model.specs.Fits.{IsKnownCompletion}

-- what a frame keeps
pub data FrameName : Type 0 where
  NamesObject : ObjectId → FrameName
  -- an object whose kind passes a test. The inner slots that may change are not tested
  NamesKind : ObjectId → (ObjectKind → Bool) → FrameName
  NamesValue : Value → FrameName
  NamesKey : PropKey → FrameName
  NamesProperty : Complete → FrameName
  NamesDescriptor : Descriptor → FrameName
  NamesCompletion : Completion → FrameName
  NamesText : TextId → FrameName
  NamesSymbol : SymbolId → FrameName
  NamesCell : CellNo → FrameName
  -- parts of the script
  NamesNode : NodeId → FrameName
  NamesFunction : FunctionNo → FrameName
  NamesSite : SiteId → FrameName
  -- the cells of the script's top scope
  NamesTop : FrameName

abbrev pub HasName : Tree → Lists → FrameName → Type 0
HasName script l (NamesObject o) = IsObject l o
HasName script l (NamesKind o test) = IsObject l o × IsTrue (test (fixed_kind (kind l o)))
HasName script l (NamesValue v) = IsKnown l v
HasName script l (NamesKey k) = IsKnownKey l k
HasName script l (NamesProperty c) = IsKnownComplete l c
HasName script l (NamesDescriptor d) = IsKnownDescriptor l d
HasName script l (NamesCompletion c) = IsKnownCompletion l c
HasName script l (NamesText t) = IsText l t
HasName script l (NamesSymbol s) = IsSymbol l s
HasName script l (NamesCell c) = IsCell l c
HasName script l (NamesNode n) = n.0 < length script.nodes
HasName script l (NamesFunction f) = f.0 < length script.functions
HasName script l (NamesSite s) = s.0 < length script.sites
HasName script l NamesTop = top_names script ≤ length l.cells

abbrev pub HasNames : Tree → Lists → List FrameName → Type 0
HasNames script l names = AllByRecursion (HasName script l) names

abbrev pub Belongs : {F : Type 0} → (F → List FrameName) → World → F → Type 0
Belongs names_of w frame = HasNames w.script w.lists (names_of frame)

-- ---- what belongs goes on belonging

-- in lists from which nothing was taken away
abbrev pub NamesStay : Type 0
NamesStay = (script : Tree) (names : List FrameName) (l l' : Lists) → Grows l l' → HasNames script l names → HasNames script l' names

-- after a change
abbrev pub ChangesKeepNames : Type 0
ChangesKeepNames =
    (names : List FrameName) (op : Change) (w : World) →
    HasNames w.script w.lists names → HasNames (changed op w).script (changed op w).lists names

-- after a task
abbrev pub KeepsNames : Server → Type 0
KeepsNames S =
    (names : List FrameName) (n : ℕ) (t : Task) (w : World) → let v = world_of (S n t w) in
    HasNames w.script w.lists names → HasNames v.script v.lists names
