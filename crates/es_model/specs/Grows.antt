-- What no algorithm takes away.
use Rattle.std.specs.Prelude.{◌≡◌, ◌<◌, ◌≤◌, ◌++◌, ℕ, List, [], Some, None, length, slice_get}
use Rattle.property_keys.specs.declared.identifiers.ObjectId.{ObjectId}
use Rattle.es_model.specs.declared.kinds.ObjectKind.{ObjectKind}
use Rattle.es_model.specs.declared.kinds.ObjectKind.TheVariants as kind_of
use Rattle.es_model.specs.World.{Lists, World, kind}
use Rattle.es_model.specs.Program.{Task, Server}
use Rattle.es_model.specs.Outcomes.{world_of}

-- a kind without the inner slots that may change: the cells of arguments objects, the target and the handler of a Proxy
abbrev pub fixed_kind : ObjectKind → ObjectKind
fixed_kind (kind_of.Arguments cells) = kind_of.Arguments []
fixed_kind (kind_of.Proxy target handler callable constructor) = kind_of.Proxy None None callable constructor
fixed_kind other = other

-- objects stay, each of its kind, and so do texts, Symbols and cells
pub record Grows (l l' : Lists) : Type 0 where
  pub objects : length l.objects ≤ length l'.objects
  pub kinds : (o : ObjectId) → o.0 < length l.objects → fixed_kind (kind l' o) ≡ fixed_kind (kind l o)
  pub texts : (i : ℕ) (units : List ℕ) → slice_get l.texts i ≡ Some units → slice_get l'.texts i ≡ Some units
  pub symbols : length l.symbols ≤ length l'.symbols
  pub cells : length l.cells ≤ length l'.cells

-- every task leaves what was there
abbrev pub KeepsLists : Server → Type 0
KeepsLists S = (n : ℕ) (t : Task) (w : World) → Grows w.lists (world_of (S n t w)).lists

-- no task changes the script
abbrev pub KeepsScript : Server → Type 0
KeepsScript S = (n : ℕ) (t : Task) (w : World) → (world_of (S n t w)).script ≡ w.script

-- nothing that was printed is taken back
abbrev pub HasPrinted : World → World → Type 0
HasPrinted w v = (more : List ℕ) × (v.printed ≡ w.printed ++ more)

abbrev pub KeepsPrinted : Server → Type 0
KeepsPrinted S = (n : ℕ) (t : Task) (w : World) → HasPrinted w (world_of (S n t w))
