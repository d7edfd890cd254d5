-- What a heap that stands for a world has of it.
use Rattle.std.proofs.Common.{◌≡◌, true, false, Option, None, [], length, map, refl, ap, ◌∙◌, cond}
use Rattle.std.proofs.Math.ListN.{get_or-map}
use Rattle.std.proofs.lemmas.List.{length-map}
use Rattle.property_keys.specs.declared.identifiers.ObjectId.{ObjectId}
use Rattle.property_keys.specs.declared.keys.PropKey.{PropKey}
use Rattle.es_model.specs.declared.kinds.ObjectKind.{ObjectKind}
use Rattle.es_model.specs.Objects.{Object, no_object, object_at, new_object_of, is_proxy, find_property}
use Rattle.es_model.specs.World.{World, own, proto, kind, extensible}
use Rattle.object_heap.specs.Seen.{Seen, seen, seen_at, no_seen, find_seen}
use Rattle.object_heap.specs.Stands.{HeapView, Beside, beside, beside_world, StandsFor, HasObjects, HasRest}
use Rattle.object_heap.proofs.SeenFacts.{find-seen}

pub objects-stand : (heap : HeapView) (w : World) → StandsFor heap w → heap.objects ≡ map seen w.lists.objects
unfolding HasObjects
objects-stand heap w h = h.lists.objects

pub rest-stands : (heap : HeapView) (w : World) → StandsFor heap w → beside heap ≡ beside_world w
unfolding HasRest
rest-stands heap w h = h.lists.rest

pub stand : (heap : HeapView) (w : World) → heap.objects ≡ map seen w.lists.objects → beside heap ≡ beside_world w → StandsFor heap w
unfolding HasObjects HasRest
stand heap w os rest = record { lists = record { objects = os; rest = rest } }

pub texts-stand : (heap : HeapView) (w : World) → StandsFor heap w → heap.texts ≡ w.lists.texts
texts-stand heap w h = ap (λ (b : Beside). b.texts) (rest-stands heap w h)

pub symbols-stand : (heap : HeapView) (w : World) → StandsFor heap w → heap.symbols ≡ w.lists.symbols
symbols-stand heap w h = ap (λ (b : Beside). b.symbols) (rest-stands heap w h)

pub cells-stand : (heap : HeapView) (w : World) → StandsFor heap w → heap.cells ≡ w.lists.cells
cells-stand heap w h = ap (λ (b : Beside). b.cells) (rest-stands heap w h)

pub turns-stand : (heap : HeapView) (w : World) → StandsFor heap w → heap.turns ≡ w.turns
turns-stand heap w h = ap (λ (b : Beside). b.turns) (rest-stands heap w h)

pub count-stands : (heap : HeapView) (w : World) → StandsFor heap w → length heap.objects ≡ length w.lists.objects
count-stands heap w h = ap length (objects-stand heap w h) ∙ length-map w.lists.objects seen

pub seen-stands : (heap : HeapView) (w : World) (object : ObjectId) → StandsFor heap w → seen_at heap.objects object ≡ seen (object_at w.lists.objects object)
seen-stands heap w object h = ap (λ ss. seen_at ss object) (objects-stand heap w h) ∙ get_or-map seen w.lists.objects object.0 no_object

pub own-stands : (heap : HeapView) (w : World) (object : ObjectId) (key : PropKey) → StandsFor heap w → find_seen (seen_at heap.objects object) key ≡ own w.lists object key
own-stands heap w object key h = ap (λ s. find_seen s key) (seen-stands heap w object h) ∙ find-seen (object_at w.lists.objects object) key

pub extensible-stands : (heap : HeapView) (w : World) (object : ObjectId) → StandsFor heap w → (seen_at heap.objects object).extensible ≡ extensible w.lists object
extensible-stands heap w object h = ap (λ (s : Seen). s.extensible) (seen-stands heap w object h)

pub proto-stands : (heap : HeapView) (w : World) (object : ObjectId) → StandsFor heap w → (seen_at heap.objects object).proto ≡ proto w.lists object
proto-stands heap w object h = ap (λ (s : Seen). s.proto) (seen-stands heap w object h)

pub kind-stands : (heap : HeapView) (w : World) (object : ObjectId) → StandsFor heap w → (seen_at heap.objects object).kind ≡ kind w.lists object
kind-stands heap w object h = ap (λ (s : Seen). s.kind) (seen-stands heap w object h)

-- no property is found where no object is
pub find-none : (key : PropKey) → find_seen no_seen key ≡ None
find-none key = find-seen no_object key

-- a new object has no property
pub find-new : (k : ObjectKind) (p : Option ObjectId) (key : PropKey) → find_seen (seen (new_object_of k p)) key ≡ None
find-new k p key =
    let none : Object = record { kind = k; proto = None; extensible = false; properties = [] } in
    let some : Object = record { kind = k; proto = p; extensible = true; properties = [] } in
    find-seen (new_object_of k p) key ∙ elim (is_proxy k) as (λ b. let o : Object = cond b none some in find_property o.properties key ≡ None) [ true ↦ refl | false ↦ refl ]
