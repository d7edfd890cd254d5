-- What a call that gives a text a number makes of the worlds that a heap stands for.
use Rattle.std.proofs.Common.{◌≡◌, ◌<◌, ℕ, Option, Some, None, List, length, ap, ◌∙◌}
use Rattle.std.specs.Prelude.{IfSome}
use Rattle.property_keys.specs.declared.identifiers.TextId.{TextId}
use Rattle.property_keys.specs.Texts.{text_at}
use Rattle.es_model.specs.World.{World, number_of, units_of}
use Rattle.es_model.specs.Changes.{Interning, changed}
use Rattle.object_heap.specs.Stands.{HeapView, StandsFor, Goes}
use Rattle.object_heap.specs.Tables.{IsTable}
use Rattle.object_heap.proofs.Standing.{texts-stand}
use Rattle.object_heap.proofs.Change.{goes-interned}
use Rattle.object_heap.proofs.TextNumbers.{number-stands, numbered-here}

-- ---- a text that is there

-- what holds of a value that is there, if another thing does
pub if-some : {T : Type 0} {P Q : T → Type 0} (o : Option T) → ((x : T) → P x → Q x) → IfSome o P → IfSome o Q
if-some (Some x) f h = f x h
if-some None f h = h

pub known-number : (heap : HeapView) (w : World) (units : List ℕ) (id : TextId) → IsTable heap.texts → id.0 < length heap.texts → text_at heap.texts id.0 ≡ units → StandsFor heap w → id ≡ number_of w.lists units
known-number heap w units id t b e h = number-stands heap.texts heap.texts units id w.lists (numbered-here heap.texts units id.0 b e) t.one (texts-stand heap w h)

pub known-goes : (heap : HeapView) (w : World) (units : List ℕ) (id : TextId) → id.0 < length heap.texts → text_at heap.texts id.0 ≡ units → StandsFor heap w → Goes heap heap w (changed (Interning units) w)
known-goes heap w units id b e h = let n = numbered-here heap.texts units id.0 b e in goes-interned heap heap units (λ t. record heap { texts = n.table t }) w h

-- ---- one text after another

pub units-stand : (inside : List (List ℕ)) (heap : HeapView) (w : World) (a known : TextId) → inside ≡ heap.texts → text_at heap.texts known.0 ≡ text_at heap.texts a.0 → StandsFor heap w →
    text_at inside known.0 ≡ units_of w.lists a
units-stand inside heap w a known v e h = ap (λ ts. text_at ts known.0) v ∙ e ∙ ap (λ ts. text_at ts a.0) (texts-stand heap w h)
