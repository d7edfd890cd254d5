-- What a change of a heap makes of the worlds that it stands for. Nothing here knows how objects are kept.
use Rattle.std.proofs.Common.{◌≡◌, ℕ, ◌-◌, true, false, Option, Some, None, Result, Ok, Err, OnErr, List, [], ◌∷◌, ◌++◌, map, refl, ap, sym, ◌∙◌, subst, cond, append_assoc}
use Rattle.std.specs.Prelude.{is_some, slice_set}
use Rattle.std.proofs.Math.ListN.{set}
use Rattle.std.proofs.lemmas.List.{map-set, map-append, append-nil}
use Rattle.property_keys.specs.declared.identifiers.ObjectId.{ObjectId}
use Rattle.property_keys.specs.declared.identifiers.TextId.{TextId}
use Rattle.property_keys.specs.declared.keys.PropKey.{PropKey}
use Rattle.property_keys.specs.declared.values.Value.{Value}
use Rattle.property_keys.specs.Texts.{interned}
use Rattle.descriptors.specs.declared.property.Complete.{Complete}
use Rattle.es_model.specs.declared.kinds.CellNo.{CellNo}
use Rattle.es_model.specs.declared.kinds.ObjectKind.{ObjectKind}
use Rattle.es_model.specs.Objects.{Object, object_at, with_properties, add_property, replace_property, remove_property, new_object_of, is_proxy, revoked_kind, unmapped_kind}
use Rattle.es_tree.specs.declared.numbers.SiteId.{SiteId}
use Rattle.es_model.specs.Events.{Event, Origin, Way, Closed, Made, MadePrototype, ProtoSet, put_event, removal_event}
use Rattle.es_model.specs.World.{World, new_object, kind}
use Rattle.es_model.specs.Changes.{Accessing, Interning, Making, MakingCell, MakingSymbol, SettingCell, Revoking, Unmapping, added, replaced, removed, with_proto, closed, with_kind, made, prototype_noted, noted, with_object, with_objects, text_known, symbol_made, cell_made, cell_set, construction_noted, access_noted, charged, changed}
use Rattle.object_heap.specs.Seen.{Seen, seen, seen_at, put_seen, find_seen, seen_added, seen_replaced, seen_removed}
use Rattle.slack_tracking.specs.declared.OriginKind.{OriginKind}
use Rattle.slack_tracking.specs.declared.OriginKind.TheVariants as origin
use Rattle.object_heap.specs.Origins.{constructed_by}
use Rattle.object_heap.specs.Stands.{HeapView, Beside, beside, beside_world, StandsFor, HasLists, Goes, Trails, Keeps}
use Rattle.object_heap.proofs.SeenFacts.{seen-added, seen-replaced, seen-removed}
use Rattle.object_heap.proofs.Standing.{objects-stand, rest-stands, stand, seen-stands, own-stands}

-- Nothing is kept of a heap yet, so a heap follows every other.
trails : (old new : HeapView) (before : List Event) (es : List Event) → Trails old new before (before ++ es)
unfolding Trails
trails old new before es = (es, refl, record {})

trails-nothing : (old new : HeapView) (before : List Event) → Trails old new before before
unfolding Trails
trails-nothing old new before = ([], sym (append-nil before), record {})

-- what callers see is as before
pub keeps : {old new : HeapView} → new ≡ old → Keeps old new
keeps {old = old} {new = new} e = λ w h. subst (λ x. HasLists x w) (sym e) h

stands-same : (old new : HeapView) (w : World) → new ≡ old → StandsFor old w → StandsFor new w
stands-same old new w e h = subst (λ x. StandsFor x w) (sym e) h

-- a fact holds at the exit of a `?` too
pub on_err-always : {T E Q : Type 0} (r : Result T E) → Q → OnErr r Q
on_err-always (Ok x) q = tt
on_err-always (Err e) q = q

-- ---- one object changes

-- the world is left but for its trace
stands-noted : (heap : HeapView) (w : World) (event : Event) → StandsFor heap w → StandsFor heap (noted w event)
stands-noted heap w event h = stand heap (noted w event) (objects-stand heap w h) (rest-stands heap w h)

stands-put : (old new : HeapView) (object : ObjectId) (fs : Seen → Seen) (f : Object → Object) (w : World) →
    new ≡ record old { objects = put_seen old.objects object (fs (seen_at old.objects object)) } → StandsFor old w →
    seen (f (object_at w.lists.objects object)) ≡ fs (seen (object_at w.lists.objects object)) →
    StandsFor new (with_object w object (f (object_at w.lists.objects object)))
stands-put old new object fs f w e h is =
    let x = object_at w.lists.objects object in
    stand new (with_object w object (f x))
    (ap (λ (v : HeapView). v.objects) e ∙ ap (λ s. set old.objects object.0 s) (ap fs (seen-stands old w object h) ∙ sym is)
    ∙ ap (λ ss. set ss object.0 (seen (f x))) (objects-stand old w h) ∙ sym (map-set seen w.lists.objects object.0 (f x)))
    (ap beside e ∙ rest-stands old w h)

goes-put : (old new : HeapView) (object : ObjectId) (fs : Seen → Seen) (f : Object → Object) (event : Event) (w : World) →
    new ≡ record old { objects = put_seen old.objects object (fs (seen_at old.objects object)) } → StandsFor old w →
    seen (f (object_at w.lists.objects object)) ≡ fs (seen (object_at w.lists.objects object)) →
    Goes old new w (noted (with_object w object (f (object_at w.lists.objects object))) event)
goes-put old new object fs f event w e h is =
    record { stands = stands-noted new _ event (stands-put old new object fs f w e h is); follows = trails old new w.trace (event ∷ []) }

pub goes-added : (old new : HeapView) (object : ObjectId) (key : PropKey) (c : Complete) → find_seen (seen_at old.objects object) key ≡ None →
    new ≡ record old { objects = put_seen old.objects object (seen_added (seen_at old.objects object) key c) } →
    (w : World) → StandsFor old w → Goes old new w (added w object key c)
unfolding added
goes-added old new object key c none e w h =
    goes-put old new object (λ s. seen_added s key c) (λ o. with_properties o (add_property o.properties key c)) (put_event object key None c) w e h
    (seen-added (object_at w.lists.objects object) key c (sym (own-stands old w object key h) ∙ none))

pub goes-replaced : (old new : HeapView) (object : ObjectId) (key : PropKey) (before c : Complete) → find_seen (seen_at old.objects object) key ≡ Some before →
    new ≡ record old { objects = put_seen old.objects object (seen_replaced (seen_at old.objects object) key c) } →
    (w : World) → StandsFor old w → Goes old new w (replaced w object key before c)
unfolding replaced
goes-replaced old new object key before c there e w h =
    goes-put old new object (λ s. seen_replaced s key c) (λ o. with_properties o (replace_property o.properties key c)) (put_event object key (Some before) c) w e h
    (seen-replaced (object_at w.lists.objects object) key c (ap is_some (sym (own-stands old w object key h) ∙ there)))

pub goes-removed : (old new : HeapView) (object : ObjectId) (key : PropKey) →
    new ≡ record old { objects = put_seen old.objects object (seen_removed (seen_at old.objects object) key) } →
    (w : World) → StandsFor old w → Goes old new w (removed w object key)
unfolding removed
goes-removed old new object key e w h =
    goes-put old new object (λ s. seen_removed s key) (λ o. with_properties o (remove_property o.properties key)) (removal_event object key) w e h
    (seen-removed (object_at w.lists.objects object) key)

pub goes-proto : (old new : HeapView) (object : ObjectId) (p : Option ObjectId) →
    new ≡ record old { objects = put_seen old.objects object (record (seen_at old.objects object) { proto = p }) } →
    (w : World) → StandsFor old w → Goes old new w (with_proto w object p)
unfolding with_proto
goes-proto old new object p e w h = goes-put old new object (λ s. record s { proto = p }) (λ o. record o { proto = p }) (ProtoSet object p) w e h refl

pub goes-closed : (old new : HeapView) (object : ObjectId) →
    new ≡ record old { objects = put_seen old.objects object (record (seen_at old.objects object) { extensible = false }) } →
    (w : World) → StandsFor old w → Goes old new w (closed w object)
unfolding closed
goes-closed old new object e w h = goes-put old new object (λ s. record s { extensible = false }) (λ o. record o { extensible = false }) (Closed object) w e h refl

goes-kind : (old new : HeapView) (object : ObjectId) (f : ObjectKind → ObjectKind) →
    new ≡ record old { objects = put_seen old.objects object (record (seen_at old.objects object) { kind = f (seen_at old.objects object).kind }) } →
    (w : World) → StandsFor old w → Goes old new w (with_kind w object (f (kind w.lists object)))
unfolding with_kind
goes-kind old new object f e w h =
    record { stands = stands-put old new object (λ s. record s { kind = f s.kind }) (λ o. record o { kind = f o.kind }) w e h refl; follows = trails-nothing old new w.trace }

pub goes-revoked : (old new : HeapView) (object : ObjectId) →
    new ≡ record old { objects = put_seen old.objects object (record (seen_at old.objects object) { kind = revoked_kind (seen_at old.objects object).kind }) } →
    (w : World) → StandsFor old w → Goes old new w (changed (Revoking object) w)
unfolding changed
goes-revoked old new object e w h = goes-kind old new object revoked_kind e w h

pub goes-unmapped : (old new : HeapView) (object : ObjectId) (i : ℕ) →
    new ≡ record old { objects = put_seen old.objects object (record (seen_at old.objects object) { kind = unmapped_kind (seen_at old.objects object).kind i }) } →
    (w : World) → StandsFor old w → Goes old new w (changed (Unmapping object i) w)
unfolding changed
goes-unmapped old new object i e w h = goes-kind old new object (λ k. unmapped_kind k i) e w h

-- ---- an object more

stands-made : (old new : HeapView) (k : ObjectKind) (p : Option ObjectId) (w : World) → new ≡ record old { objects = old.objects ++ seen (new_object_of k p) ∷ [] } → StandsFor old w →
    StandsFor new (with_objects w (w.lists.objects ++ new_object_of k p ∷ []))
stands-made old new k p w e h =
    stand new (with_objects w (w.lists.objects ++ new_object_of k p ∷ []))
    (ap (λ (v : HeapView). v.objects) e ∙ ap (λ ss. ss ++ seen (new_object_of k p) ∷ []) (objects-stand old w h) ∙ sym (map-append seen w.lists.objects (new_object_of k p ∷ [])))
    (ap beside e ∙ rest-stands old w h)

stands-prototype : (heap : HeapView) (w : World) (p : Option ObjectId) → StandsFor heap w → StandsFor heap (prototype_noted w p)
stands-prototype heap w None h = h
stands-prototype heap w (Some p) h =
    elim (is_proxy (kind w.lists p)) as (λ b. StandsFor heap (cond b w (noted w (MadePrototype p)))) [ true ↦ h | false ↦ stands-noted heap w (MadePrototype p) h ]

-- the trace goes on
trails-prototype : (old new : HeapView) (w : World) (p : Option ObjectId) (event : Event) → Trails old new w.trace (noted (prototype_noted w p) event).trace
unfolding Trails
trails-prototype old new w None event = (event ∷ [], refl, record {})
trails-prototype old new w (Some p) event =
    elim (is_proxy (kind w.lists p)) as (λ b. Trails old new w.trace (noted (cond b w (noted w (MadePrototype p))) event).trace) [
      | true ↦ (event ∷ [], refl, record {})
      | false ↦ (MadePrototype p ∷ event ∷ [], append_assoc w.trace (MadePrototype p ∷ []) (event ∷ []), record {})
    ]

pub goes-made : (old new : HeapView) (k : ObjectKind) (p : Option ObjectId) → new ≡ record old { objects = old.objects ++ seen (new_object_of k p) ∷ [] } →
    (w : World) (origin : Origin) → StandsFor old w → Goes old new w (made w k origin p)
unfolding made
goes-made old new k p e w origin h =
    let after = with_objects w (w.lists.objects ++ new_object_of k p ∷ []) in
    let s : StandsFor new after = stands-made old new k p w e h in
    let event = Made (new_object w.lists) origin p in
    elim (is_proxy k) as (λ b. Goes old new w (cond b after (noted (prototype_noted after p) event))) [
      | true ↦ record { stands = s; follows = trails-nothing old new w.trace }
      | false ↦ record { stands = stands-noted new (prototype_noted after p) event (stands-prototype new after p s); follows = trails-prototype old new after p event }
    ]

pub goes-making : (old new : HeapView) (k : ObjectKind) (p : Option ObjectId) → new ≡ record old { objects = old.objects ++ seen (new_object_of k p) ∷ [] } →
    (w : World) (origin : Origin) → StandsFor old w → Goes old new w (changed (Making k origin p) w)
unfolding changed
goes-making old new k p e w origin h = goes-made old new k p e w origin h

-- ---- beside the objects

goes-beside : (old new : HeapView) (f : Beside → Beside) (w v : World) → new.objects ≡ old.objects → beside new ≡ f (beside old) → StandsFor old w →
    v.lists.objects ≡ w.lists.objects → beside_world v ≡ f (beside_world w) → v.trace ≡ w.trace → Goes old new w v
unfolding Trails
goes-beside old new f w v os bs h os' bs' t = record {
  stands = stand new v (os ∙ objects-stand old w h ∙ sym (ap (map seen) os')) (bs ∙ ap f (rest-stands old w h) ∙ sym bs');
  follows = ([], t ∙ sym (append-nil w.trace), record {});
}

pub goes-charged : (old new : HeapView) (n : ℕ) → new ≡ record old { turns = old.turns - n } → (w : World) → StandsFor old w → Goes old new w (charged w n)
unfolding charged
goes-charged old new n e w h =
    goes-beside old new (λ b. record b { turns = b.turns - n }) w (record w { turns = w.turns - n }) (ap (λ (v : HeapView). v.objects) e) (ap beside e) h refl refl refl

pub goes-interned : (old new : HeapView) (units : List ℕ) → new ≡ record old { texts = interned old.texts units } → (w : World) → StandsFor old w → Goes old new w (changed (Interning units) w)
unfolding changed text_known
goes-interned old new units e w h =
    goes-beside old new (λ b. record b { texts = interned b.texts units }) w (record w { lists = record w.lists { texts = interned w.lists.texts units } }) (ap (λ (v : HeapView). v.objects) e) (ap beside e) h refl refl refl

pub goes-symbol : (old new : HeapView) (d : Option TextId) → new ≡ record old { symbols = old.symbols ++ d ∷ [] } → (w : World) → StandsFor old w → Goes old new w (changed (MakingSymbol d) w)
unfolding changed symbol_made
goes-symbol old new d e w h =
    goes-beside old new (λ b. record b { symbols = b.symbols ++ d ∷ [] }) w (record w { lists = record w.lists { symbols = w.lists.symbols ++ d ∷ [] } }) (ap (λ (v : HeapView). v.objects) e) (ap beside e) h refl refl refl

pub goes-cell : (old new : HeapView) (x : Option Value) → new ≡ record old { cells = old.cells ++ x ∷ [] } → (w : World) → StandsFor old w → Goes old new w (changed (MakingCell x) w)
unfolding changed cell_made
goes-cell old new x e w h =
    goes-beside old new (λ b. record b { cells = b.cells ++ x ∷ [] }) w (record w { lists = record w.lists { cells = w.lists.cells ++ x ∷ [] } }) (ap (λ (v : HeapView). v.objects) e) (ap beside e) h refl refl refl

pub goes-cell_set : (old new : HeapView) (c : CellNo) (x : Value) → new ≡ record old { cells = slice_set old.cells c.0 (Some x) } → (w : World) → StandsFor old w → Goes old new w (changed (SettingCell c x) w)
unfolding changed cell_set
goes-cell_set old new c x e w h =
    goes-beside old new (λ b. record b { cells = slice_set b.cells c.0 (Some x) }) w (record w { lists = record w.lists { cells = slice_set w.lists.cells c.0 (Some x) } }) (ap (λ (v : HeapView). v.objects) e) (ap beside e) h refl refl refl

-- nothing that a world has changes, but perhaps what is beside it
pub goes-same : (old new : HeapView) → new.objects ≡ old.objects → beside new ≡ beside old → (w : World) → StandsFor old w → Goes old new w w
goes-same old new os bs w h = goes-beside old new (λ b. b) w w os bs h refl refl refl

-- ---- events alone

-- a site reads or writes
pub goes-accessed : (heap : HeapView) (w : World) (site : SiteId) (way : Way) (object : ObjectId) (key : PropKey) → StandsFor heap w → Goes heap heap w (changed (Accessing site way object key) w)
unfolding changed access_noted
goes-accessed heap w site way object key h = record { stands = stands-noted heap w _ h; follows = trails heap heap w.trace _ }

-- a construction has ended
pub goes-constructed : (old new : HeapView) (kind : OriginKind) → new ≡ old → (w : World) → StandsFor old w → Goes old new w (constructed_by w kind)
unfolding changed construction_noted
goes-constructed old new (origin.Constructor place) e w h = record { stands = stands-noted new w _ (stands-same old new w e h); follows = trails old new w.trace _ }
goes-constructed old new other e w h = goes-same old new (ap (λ (v : HeapView). v.objects) e) (ap beside e) w h
