-- What no call takes away.
use Rattle.std.specs.Prelude.{◌≡◌, ◌<◌, ◌≤◌, ℕ, List, Option, Some, length, slice_get}
use Rattle.property_keys.specs.declared.identifiers.ObjectId.{ObjectId}
use Rattle.property_keys.specs.declared.identifiers.TextId.{TextId}
use Rattle.slack_tracking.specs.declared.OriginKind.{OriginKind}
use Rattle.es_model.specs.Grows.{fixed_kind}
use Rattle.object_heap.specs.Seen.{seen_at}
use Rattle.object_heap.specs.Stands.{HeapView}

-- Objects stay, each of its kind apart from the inner slots that may change; and so do texts, Symbols, cells and origins.
pub record HasAllOf (old new : HeapView) : Type 0 where
  pub objects : length old.objects ≤ length new.objects
  pub kinds : (o : ObjectId) → o.0 < length old.objects → fixed_kind (seen_at new.objects o).kind ≡ fixed_kind (seen_at old.objects o).kind
  pub texts : (i : ℕ) (units : List ℕ) → slice_get old.texts i ≡ Some units → slice_get new.texts i ≡ Some units
  pub symbols : (i : ℕ) (d : Option TextId) → slice_get old.symbols i ≡ Some d → slice_get new.symbols i ≡ Some d
  pub cells : length old.cells ≤ length new.cells
  pub origins : (i : ℕ) (kind : OriginKind) → slice_get old.origins i ≡ Some kind → slice_get new.origins i ≡ Some kind

unfoldable pub KeepsAll : HeapView → HeapView → Type 0
KeepsAll old new = HasAllOf old new

-- the new heap has all that the old one had
pub record Retains (old new : HeapView) : Type 0 where
  pub all : KeepsAll old new
