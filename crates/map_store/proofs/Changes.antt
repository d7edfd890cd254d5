-- What the maps as they are kept become is what callers see of a call.
use Rattle.std.proofs.Common.{◌≡◌, ℕ, ◌+◌, ◌<◌, ◌≤◌, List, [], ◌∷◌, ◌++◌, Option, length, get_or, map, take, refl, ap, sym, ◌∙◌, arith, Bool, true, false, cond, nat_le}
use Rattle.std.proofs.Math.ListN.{set}
use Rattle.std.proofs.lemmas.List.{length-append, length-map, length-take-le, map-set, length-set, get_or-map, get_or-set_same, take_all}
use Rattle.std.proofs.lemmas.Bool.{leb-true}
use Rattle.std.specs.Global.{Vec}
use Rattle.std.specs.Prelude.{vec_len}
use Rattle.property_keys.specs.declared.identifiers.ObjectId.{ObjectId}
use Rattle.map_store.specs.declared.MapId.{MapId}
use Rattle.map_store.specs.declared.OriginId.{OriginId}
use Rattle.map_store.specs.declared.entries.Entry.{Entry}
use Rattle.map_store.specs.declared.maps.MapRecord.{MapRecord}
use Rattle.map_store.specs.Views.{MapView, MapsView, no_map, root_map, rooted, longer, extended, extended_at, replaced, with_entry, closed_off, closed_map, marked_dead, dead_map, map_at, owns_end, KeepsEntries}
use Rattle.map_store.specs.Records.{lists, array_at, next_array, gone_on, record_view, maps_view, IsSoundRecord, AreSound}
use Rattle.map_store.proofs.Grow.{Grows, grows-push, grows-refl, grows-gone_on, view-pushed, view-read, sound-read, sound-pushed, last-array, lengths-push}
use Rattle.map_store.proofs.Kept.{keeps_pushed}

abbrev lengths_of : List (List Entry) → List ℕ
lengths_of ess = map (λ (es : List Entry). length es) ess

abbrev views_of : List (List Entry) → List MapRecord → List MapView
views_of ess rows = map (record_view ess) rows

length-lengths : (ess : List (List Entry)) → length (lengths_of ess) ≡ length ess
length-lengths ess = length-map ess (λ (es : List Entry). length es)

pushed-is : (ess ess' : List (List Entry)) (rows : List MapRecord) (r : MapRecord) (v : MapView) (ns : List ℕ) → AreSound ess rows → Grows ess ess'
    → record_view ess' r ≡ v → lengths_of ess' ≡ ns → maps_view ess' (rows ++ r ∷ []) ≡ record { maps = views_of ess rows ++ v ∷ []; lengths = ns }
pushed-is ess ess' rows r v ns s g e l = view-pushed ess ess' rows r s g ∙ (λ i. record { maps = views_of ess rows ++ e i ∷ []; lengths = l i })

abbrev pub root_record : ℕ → OriginId → Option ObjectId → MapRecord
root_record array origin proto = record { array = array; count = 0; origin = origin; proto = proto; live = true; extensible = true }

pub root-is : (ess : List (List Entry)) (rows : List MapRecord) (origin : OriginId) (proto : Option ObjectId) → AreSound ess rows
    → maps_view (ess ++ [] ∷ []) (rows ++ root_record (length ess) origin proto ∷ []) ≡ rooted (maps_view ess rows) origin proto
root-is ess rows origin proto s =
    pushed-is ess (ess ++ [] ∷ []) rows (root_record (length ess) origin proto) (root_map (length (lengths_of ess)) origin proto) (lengths_of ess ++ 0 ∷ []) s (grows-push ess [])
    (λ i. record { array = sym (length-lengths ess) i; origin = origin; proto = proto; live = true; extensible = true; entries = [] })
    (lengths-push ess [])

pub replaced-is : (ess : List (List Entry)) (rows : List MapRecord) (m : MapId) (r : MapRecord) (i : ℕ) (e : Entry) → AreSound ess rows → m.0 < length rows → r ≡ get_or rows m.0 r
    → maps_view (ess ++ set (take r.count (array_at ess r.array)) i e ∷ []) (rows ++ record r { array = length ess; live = true } ∷ []) ≡ replaced (maps_view ess rows) m i e
replaced-is ess rows m r i e s b at =
    let es : List Entry = take r.count (array_at ess r.array) in
    let new : List Entry = set es i e in
    let sound : IsSoundRecord ess r = sound-read ess rows m.0 r s b at in
    let long : length es ≡ r.count = length-take-le r.count (array_at ess r.array) sound.1 in
    let whole : take r.count (array_at (ess ++ new ∷ []) (length ess)) ≡ new =
    ap (take r.count) (last-array ess new) ∙ take_all r.count new (omega (arith, length-set es i e, long)) in
    let read : get_or (views_of ess rows) m.0 no_map ≡ record_view ess r = view-read ess rows m.0 r b at in
    let seen : record_view (ess ++ new ∷ []) (record r { array = length ess; live = true }) ≡ with_entry (record_view ess r) i e (length ess) =
    ap (λ (es : List Entry). record { array = length ess; origin = r.origin; proto = r.proto; live = true; extensible = r.extensible; entries = es }) whole in
    pushed-is ess (ess ++ new ∷ []) rows (record r { array = length ess; live = true }) (with_entry (get_or (views_of ess rows) m.0 no_map) i e (length (lengths_of ess)))
    (lengths_of ess ++ length (get_or (views_of ess rows) m.0 no_map).entries ∷ []) s (grows-push ess new)
    (seen ∙ (λ j. with_entry (sym read j) i e (sym (length-lengths ess) j)))
    (lengths-push ess new ∙ (λ j. lengths_of ess ++ (length-set es i e ∙ ap (λ (v : MapView). length v.entries) (sym read)) j ∷ []))

pub closed-is : (ess : List (List Entry)) (rows : List MapRecord) (m : MapId) (r : MapRecord) → AreSound ess rows → m.0 < length rows → r ≡ get_or rows m.0 r
    → maps_view ess (rows ++ record r { live = true; extensible = false } ∷ []) ≡ closed_off (maps_view ess rows) m
closed-is ess rows m r s b at =
    pushed-is ess ess rows (record r { live = true; extensible = false }) (closed_map (get_or (views_of ess rows) m.0 no_map)) (lengths_of ess) s (grows-refl ess)
    (ap (λ (v : MapView). closed_map v) (sym (view-read ess rows m.0 r b at))) refl

pub dead-is : (ess : List (List Entry)) (rows : List MapRecord) (m : MapId) (r : MapRecord) → m.0 < length rows → r ≡ get_or rows m.0 r
    → maps_view ess (set rows m.0 (record r { live = false })) ≡ marked_dead (maps_view ess rows) m
dead-is ess rows m r b at =
    ap (λ (ms : List MapView). record { maps = ms; lengths = lengths_of ess })
    (map-set (record_view ess) rows m.0 (record r { live = false }) ∙ ap (λ (v : MapView). set (views_of ess rows) m.0 (dead_map v)) (sym (view-read ess rows m.0 r b at)))

-- ---- an entry more

abbrev pub longer_record : MapRecord → ℕ → MapRecord
longer_record r array = record r { array = array; count = r.count + 1; live = true }

-- the array goes on with the entry, at its end or as a copy
abbrev gone_on_at : List (List Entry) → ℕ → ℕ → Entry → Bool → List (List Entry)
gone_on_at ess a n e b = cond b (set ess a (array_at ess a ++ e ∷ [])) (ess ++ (take n (array_at ess a) ++ e ∷ []) ∷ [])

abbrev next_at : List (List Entry) → ℕ → Bool → ℕ
next_at ess a b = cond b a (length ess)

gone_on-owned : (ess : List (List Entry)) (a n : ℕ) (e : Entry) → a < length ess → length (array_at ess a) ≡ n → take (n + 1) (array_at (set ess a (array_at ess a ++ e ∷ [])) a) ≡ take n (array_at ess a) ++ e ∷ []
gone_on-owned ess a n e b l =
    ap (take (n + 1)) (get_or-set_same ess a (array_at ess a ++ e ∷ []) [] b)
    ∙ take_all (n + 1) (array_at ess a ++ e ∷ []) (omega (arith, length-append (array_at ess a) (e ∷ []), l))
    ∙ ap (λ (es : List Entry). es ++ e ∷ []) (sym (take_all n (array_at ess a) (omega (arith, l))))

gone_on-copied : (ess : List (List Entry)) (a n : ℕ) (e : Entry) → n ≤ length (array_at ess a) → take (n + 1) (array_at (ess ++ (take n (array_at ess a) ++ e ∷ []) ∷ []) (length ess)) ≡ take n (array_at ess a) ++ e ∷ []
gone_on-copied ess a n e b =
    ap (take (n + 1)) (last-array ess (take n (array_at ess a) ++ e ∷ []))
    ∙ take_all (n + 1) (take n (array_at ess a) ++ e ∷ []) (omega (arith, length-append (take n (array_at ess a)) (e ∷ []), length-take-le n (array_at ess a) b))

gone_on-lengths : (ess : List (List Entry)) (a n : ℕ) (e : Entry) → length (array_at ess a) ≡ n → lengths_of (set ess a (array_at ess a ++ e ∷ [])) ≡ set (lengths_of ess) a (n + 1)
gone_on-lengths ess a n e l = map-set (λ (es : List Entry). length es) ess a (array_at ess a ++ e ∷ []) ∙ ap (set (lengths_of ess) a) (length-append (array_at ess a) (e ∷ []) ∙ ap (λ k. k + 1) l)

extended-at-is : (ess : List (List Entry)) (rows : List MapRecord) (r : MapRecord) (e : Entry) (b : Bool) → AreSound ess rows → IsSoundRecord ess r → Grows ess (gone_on_at ess r.array r.count e b)
    → nat_le (length (array_at ess r.array)) r.count ≡ b
    → maps_view (gone_on_at ess r.array r.count e b) (rows ++ longer_record r (next_at ess r.array b) ∷ []) ≡ extended_at (maps_view ess rows) (record_view ess r) e b
extended-at-is ess rows r e true s h g t =
    let l : length (array_at ess r.array) ≡ r.count = omega (arith, leb-true (length (array_at ess r.array)) r.count t, h.1) in
    pushed-is ess (gone_on_at ess r.array r.count e true) rows (longer_record r r.array) (longer (record_view ess r) e r.array)
    (set (lengths_of ess) r.array (length (take r.count (array_at ess r.array)) + 1)) s g
    (ap (λ (es : List Entry). record { array = r.array; origin = r.origin; proto = r.proto; live = true; extensible = r.extensible; entries = es }) (gone_on-owned ess r.array r.count e h.0 l))
    (gone_on-lengths ess r.array r.count e l ∙ ap (λ k. set (lengths_of ess) r.array (k + 1)) (sym (length-take-le r.count (array_at ess r.array) h.1)))
extended-at-is ess rows r e false s h g t =
    let es : List Entry = take r.count (array_at ess r.array) ++ e ∷ [] in
    pushed-is ess (gone_on_at ess r.array r.count e false) rows (longer_record r (length ess)) (longer (record_view ess r) e (length (lengths_of ess)))
    (lengths_of ess ++ (length (take r.count (array_at ess r.array)) + 1) ∷ []) s g
    (λ i. record { array = sym (length-lengths ess) i; origin = r.origin; proto = r.proto; live = true; extensible = r.extensible; entries = gone_on-copied ess r.array r.count e h.1 i })
    (lengths-push ess es ∙ ap (λ k. lengths_of ess ++ k ∷ []) (length-append (take r.count (array_at ess r.array)) (e ∷ [])))

-- a known map has a record
pub known-row : (ess : List (List Entry)) (rows : List MapRecord) (ms : MapsView) (m : MapId) → maps_view ess rows ≡ ms → m.0 < length ms.maps → m.0 < length rows
known-row ess rows ms m e b = omega (arith, ap (λ (ms : MapsView). length ms.maps) e, length-map rows (record_view ess))

lengths-read : (ess : List (List Entry)) (a : ℕ) → a < length ess → get_or (lengths_of ess) a 0 ≡ length (array_at ess a)
lengths-read ess a b = get_or-map (λ (es : List Entry). length es) ess a [] 0 b

pub extended-is : (ess : List (List Entry)) (rows : List MapRecord) (m : MapId) (r : MapRecord) (e : Entry) → AreSound ess rows → m.0 < length rows → r ≡ get_or rows m.0 r
    → maps_view (gone_on ess r.array r.count e) (rows ++ longer_record r (next_array ess r.array r.count) ∷ []) ≡ extended (maps_view ess rows) m e
extended-is ess rows m r e s b at =
    let h : IsSoundRecord ess r = sound-read ess rows m.0 r s b at in
    let test : nat_le (length (array_at ess r.array)) r.count ≡ owns_end (maps_view ess rows) (record_view ess r) =
    λ i. nat_le (sym (lengths-read ess r.array h.0) i) (sym (length-take-le r.count (array_at ess r.array) h.1) i) in
    extended-at-is ess rows r e (nat_le (length (array_at ess r.array)) r.count) s h (grows-gone_on ess r.array r.count e) refl
    ∙ ap (extended_at (maps_view ess rows) (record_view ess r) e) test
    ∙ ap (λ (v : MapView). extended_at (maps_view ess rows) v e (owns_end (maps_view ess rows) v)) (sym (view-read ess rows m.0 r b at))

sound-at : (ess : List (List Entry)) (r : MapRecord) (e : Entry) (b : Bool) → IsSoundRecord ess r → nat_le (length (array_at ess r.array)) r.count ≡ b
    → IsSoundRecord (gone_on_at ess r.array r.count e b) (longer_record r (next_at ess r.array b))
sound-at ess r e true h t =
    let es : List Entry = array_at ess r.array ++ e ∷ [] in
    let now : array_at (set ess r.array es) r.array ≡ es = get_or-set_same ess r.array es [] h.0 in
    (omega (arith, length-set ess r.array es, h.0), omega (arith, ap (λ (es : List Entry). length es) now, length-append (array_at ess r.array) (e ∷ []), h.1))
sound-at ess r e false h t =
    let es : List Entry = take r.count (array_at ess r.array) ++ e ∷ [] in
    (omega (arith, length-append ess (es ∷ [])), omega (arith, ap (λ (es : List Entry). length es) (last-array ess es), length-append (take r.count (array_at ess r.array)) (e ∷ []), length-take-le r.count (array_at ess r.array) h.1))

pub extended-sound : (ess : List (List Entry)) (rows : List MapRecord) (m : ℕ) (r : MapRecord) (e : Entry) → AreSound ess rows → m < length rows → r ≡ get_or rows m r
    → AreSound (gone_on ess r.array r.count e) (rows ++ longer_record r (next_array ess r.array r.count) ∷ [])
extended-sound ess rows m r e s b at =
    sound-pushed ess (gone_on ess r.array r.count e) rows (longer_record r (next_array ess r.array r.count)) s (grows-gone_on ess r.array r.count e)
    (sound-at ess r e (nat_le (length (array_at ess r.array)) r.count) (sound-read ess rows m r s b at) refl)

keeps-extended-at : (before after : MapsView) (v : MapView) (e : Entry) (b : Bool) → after ≡ extended_at before v e b → KeepsEntries before after
keeps-extended-at before after v e true is = keeps_pushed before after (longer v e v.array) (ap (λ (ms : MapsView). ms.maps) is)
keeps-extended-at before after v e false is = keeps_pushed before after (longer v e (length before.lengths)) (ap (λ (ms : MapsView). ms.maps) is)

pub keeps_extended : (before after : MapsView) (m : MapId) (e : Entry) → after ≡ extended before m e → KeepsEntries before after
keeps_extended before after m e is =
    let v : MapView = map_at before m in
    keeps-extended-at before after v e (owns_end before v) is

-- how many arrays there are
pub lists-count : (v : Vec (Vec Entry)) → vec_len v ≡ length (lists v.items)
lists-count v = omega (arith, v.ok.0, length-map v.items (λ (w : Vec Entry). w.items))
