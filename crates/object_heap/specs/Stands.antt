-- Which worlds a heap stands for, and what it means that a call leads from one heap to the next.
use Rattle.std.specs.Prelude.{◌≡◌, ℕ, List, [], ◌++◌, map, Option}
use Rattle.std.proofs.Common.{sym, ap, ◌∙◌, append_assoc}
use Rattle.std.proofs.lemmas.List.{append-nil}
use Rattle.property_keys.specs.declared.identifiers.TextId.{TextId}
use Rattle.property_keys.specs.declared.values.Value.{Value}
use Rattle.slack_tracking.specs.declared.OriginKind.{OriginKind}
use Rattle.es_model.specs.Events.{Event}
use Rattle.es_model.specs.World.{World, with_turns}
use Rattle.es_model.specs.Changes.{printed_more}
use Rattle.object_heap.specs.Seen.{Seen, seen}

-- a heap as its callers see it, however it is kept. An object, a text, a Symbol, a cell and an origin is named by its place
pub record HeapView : Type 0 where
  pub objects : List Seen
  pub texts : List (List ℕ)
  pub symbols : List (Option TextId)
  pub cells : List (Option Value)
  pub turns : ℕ
  pub origins : List OriginKind

-- the world's objects. What follows is opaque: callers pass it on, and do not look into it
unfoldable pub HasObjects : HeapView → World → Type 0
HasObjects heap w = heap.objects ≡ map seen w.lists.objects

-- all of a heap that is no object and no origin
pub record Beside : Type 0 where
  pub texts : List (List ℕ)
  pub symbols : List (Option TextId)
  pub cells : List (Option Value)
  pub turns : ℕ

abbrev pub beside : HeapView → Beside
beside heap = record { texts = heap.texts; symbols = heap.symbols; cells = heap.cells; turns = heap.turns }

abbrev pub beside_world : World → Beside
beside_world w = record { texts = w.lists.texts; symbols = w.lists.symbols; cells = w.lists.cells; turns = w.turns }

-- the world's texts, Symbols, cells and turns
unfoldable pub HasRest : HeapView → World → Type 0
HasRest heap w = beside heap ≡ beside_world w

-- The heap has the world's objects, texts, Symbols, cells and turns, however it keeps them. The script, the trace and what was printed are in no heap.
pub record HasLists (heap : HeapView) (w : World) : Type 0 where
  pub objects : HasObjects heap w
  pub rest : HasRest heap w

-- The heap stands for the world. Nothing but lists and turns is compared yet; how objects are laid out after the events of the trace is a part beside them.
pub record StandsFor (heap : HeapView) (w : World) : Type 0 where
  pub lists : HasLists heap w

-- The second heap follows the first by these events: what was kept of the first still serves after them. Nothing is kept of a heap yet.
pub record Follows (old new : HeapView) (events : List Event) : Type 0 where

-- a heap follows itself by no events
pub follows_none : (heap : HeapView) → Follows heap heap []
follows_none heap = record {}

-- where a second heap follows a first and a third the second, the third follows the first by both lists in order
pub follows_then : (a b c : HeapView) (ds es : List Event) → Follows a b ds → Follows b c es → Follows a c (ds ++ es)
follows_then a b c ds es p q = record {}

-- the new heap follows the old one by the events that the second trace has more than the first
unfoldable pub Trails : HeapView → HeapView → List Event → List Event → Type 0
Trails old new before after = (es : List Event) × (after ≡ before ++ es) × Follows old new es

-- From standing for the first world to standing for the second: the new heap stands for the second, and follows the old one by the events that the second has
-- more on its trace.
pub record Goes (old new : HeapView) (w v : World) : Type 0 where
  pub stands : StandsFor new v
  pub follows : Trails old new w.trace v.trace

-- After a call that had no memory: the lists and turns that the old heap had, the new one has. How objects are laid out may have changed by then.
abbrev pub Keeps : HeapView → HeapView → Type 0
Keeps old new = (w : World) → HasLists old w → HasLists new w

pub trails_none : (heap : HeapView) (trace : List Event) → Trails heap heap trace trace
unfolding Trails
trails_none heap trace = ([], sym (append-nil trace), follows_none heap)

pub trails_then : (a b c : HeapView) (r s t : List Event) → Trails a b r s → Trails b c s t → Trails a c r t
unfolding Trails
trails_then a b c r s t p q = (p.0 ++ q.0, q.1 ∙ ap (λ x. x ++ q.0) p.1 ∙ append_assoc r p.0 q.0, follows_then a b c p.0 q.0 p.2 q.2)

-- where nothing happens
pub goes_none : (heap : HeapView) (w : World) → StandsFor heap w → Goes heap heap w w
goes_none heap w h = record { stands = h; follows = trails_none heap w.trace }

-- one call after another
pub goes_then : (a b c : HeapView) (u v w : World) → Goes a b u v → Goes b c v w → Goes a c u w
goes_then a b c u v w p q = record { stands = q.stands; follows = trails_then a b c u.trace v.trace w.trace p.follows q.follows }

-- a print: what was printed is in no heap
pub goes_printed : (heap : HeapView) (w : World) (bytes : List ℕ) → StandsFor heap w → Goes heap heap w (printed_more w bytes)
unfolding HasObjects HasRest printed_more
goes_printed heap w bytes h =
    record { stands = record { lists = record { objects = h.lists.objects; rest = h.lists.rest } }; follows = trails_none heap w.trace }

-- ---- at a halt

-- At a halt the heap has the world's lists, and may have more turns left: what charges several turns at once takes none of them where they do not fit.
unfoldable pub HaltsWithin : HeapView → HeapView → World → World → Type 0
HaltsWithin old new w v = (left : ℕ) × Goes old new w (with_turns v left)

pub record Halts (old new : HeapView) (w v : World) : Type 0 where
  pub within : HaltsWithin old new w v

-- where no turn was taken of those that do not fit
pub halts_at : (old new : HeapView) (w v : World) → Goes old new w v → Halts old new w v
unfolding HaltsWithin
halts_at old new w v g = record { within = (v.turns, g) }

-- a halt after another call
pub halts_then : (a b c : HeapView) (u v w : World) → Goes a b u v → Halts b c v w → Halts a c u w
unfolding HaltsWithin
halts_then a b c u v w g h = record { within = (h.within.0, goes_then a b c u v (with_turns w h.within.0) g h.within.1) }
