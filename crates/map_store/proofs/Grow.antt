-- Arrays that only grow at their ends leave each map as it is.
use Rattle.std.proofs.Common.{◌≡◌, ℕ, zero, suc, ◌+◌, ◌<◌, ◌≤◌, List, [], ◌∷◌, ◌++◌, length, get_or, map, take, refl, ap, sym, ◌∙◌, subst, arith, true, false, cond, nat_le}
use Rattle.std.proofs.Math.ListN.{set}
use Rattle.std.proofs.lemmas.List.{take-append-le, append-nil, length-append, map-append, map-set, length-set, get_or-map, get_or_read}
use Rattle.std.specs.Global.{Vec}
use Rattle.map_store.specs.declared.entries.Entry.{Entry}
use Rattle.map_store.specs.declared.maps.MapRecord.{MapRecord}
use Rattle.map_store.specs.Views.{no_map}
use Rattle.map_store.specs.Records.{lists, array_at, gone_on, record_view, maps_view, IsSoundRecord, AreSound, no_record}

-- each array is the beginning of what it becomes
pub record Grows (ess ess' : List (List Entry)) : Type 0 where
  pub more : length ess ≤ length ess'
  pub prefix : (a : ℕ) → a < length ess → (rest : List Entry) × (array_at ess' a ≡ array_at ess a ++ rest)

view-grows : (ess ess' : List (List Entry)) (r : MapRecord) → Grows ess ess' → IsSoundRecord ess r → record_view ess' r ≡ record_view ess r
view-grows ess ess' r g s =
    let p = g.prefix r.array s.0 in
    ap (λ es. record { array = r.array; origin = r.origin; proto = r.proto; live = r.live; extensible = r.extensible; entries = es })
    (ap (take r.count) p.1 ∙ take-append-le r.count (array_at ess r.array) p.0 s.1)

views-grow : (ess ess' : List (List Entry)) (rows : List MapRecord) → Grows ess ess' → ((i : ℕ) → i < length rows → IsSoundRecord ess (get_or rows i no_record))
    → map (record_view ess') rows ≡ map (record_view ess) rows
views-grow ess ess' [] g h = refl
views-grow ess ess' (r ∷ rows) g h = λ i. view-grows ess ess' r g (h 0 (omega arith)) i ∷ views-grow ess ess' rows g (λ j b. h (suc j) (omega arith)) i

sound-grows : (ess ess' : List (List Entry)) (r : MapRecord) → Grows ess ess' → IsSoundRecord ess r → IsSoundRecord ess' r
sound-grows ess ess' r g s =
    let p = g.prefix r.array s.0 in
    let n : length (array_at ess' r.array) ≡ length (array_at ess r.array) + length p.0 = ap length p.1 ∙ length-append (array_at ess r.array) p.0 in
    (omega (arith, g.more, s.0), omega (arith, n, s.1))

sound-more : (ess ess' : List (List Entry)) (rows : List MapRecord) (r : MapRecord) → Grows ess ess' → ((i : ℕ) → i < length rows → IsSoundRecord ess (get_or rows i no_record)) → IsSoundRecord ess' r
    → (i : ℕ) → i < length (rows ++ r ∷ []) → IsSoundRecord ess' (get_or (rows ++ r ∷ []) i no_record)
sound-more ess ess' [] r g h s zero b = s
sound-more ess ess' [] r g h s (suc i) b = absurd (omega arith)
sound-more ess ess' (x ∷ rows) r g h s zero b = sound-grows ess ess' x g (h 0 (omega arith))
sound-more ess ess' (x ∷ rows) r g h s (suc i) b = sound-more ess ess' rows r g (λ j c. h (suc j) (omega arith)) s i (omega arith)

push-prefix : (ess : List (List Entry)) (es : List Entry) (a : ℕ) → a < length ess → (rest : List Entry) × (array_at (ess ++ es ∷ []) a ≡ array_at ess a ++ rest)
push-prefix [] es a b = absurd (omega arith)
push-prefix (x ∷ ess) es zero b = ([], sym (append-nil x))
push-prefix (x ∷ ess) es (suc a) b = push-prefix ess es a (omega arith)

set-prefix : (ess : List (List Entry)) (k : ℕ) (rest : List Entry) (a : ℕ) → a < length ess → (more : List Entry) × (array_at (set ess k (array_at ess k ++ rest)) a ≡ array_at ess a ++ more)
set-prefix [] k rest a b = absurd (omega arith)
set-prefix (x ∷ ess) zero rest zero b = (rest, refl)
set-prefix (x ∷ ess) zero rest (suc a) b = ([], sym (append-nil (array_at ess a)))
set-prefix (x ∷ ess) (suc k) rest zero b = ([], sym (append-nil x))
set-prefix (x ∷ ess) (suc k) rest (suc a) b = set-prefix ess k rest a (omega arith)

-- an array more
pub grows-push : (ess : List (List Entry)) (es : List Entry) → Grows ess (ess ++ es ∷ [])
grows-push ess es = record { more = omega (arith, length-append ess (es ∷ [])); prefix = push-prefix ess es }

-- an entry more at the end of one array
grows-set : (ess : List (List Entry)) (k : ℕ) (rest : List Entry) → Grows ess (set ess k (array_at ess k ++ rest))
grows-set ess k rest = record { more = omega (arith, length-set ess k (array_at ess k ++ rest)); prefix = set-prefix ess k rest }

pub grows-refl : (ess : List (List Entry)) → Grows ess ess
grows-refl ess = record { more = omega arith; prefix = λ a b. ([], sym (append-nil (array_at ess a))) }

pub grows-gone_on : (ess : List (List Entry)) (a n : ℕ) (e : Entry) → Grows ess (gone_on ess a n e)
grows-gone_on ess a n e =
    elim (nat_le (length (array_at ess a)) n) as (λ b. Grows ess (cond b (set ess a (array_at ess a ++ e ∷ [])) (ess ++ (take n (array_at ess a) ++ e ∷ []) ∷ [])))
    [ true ↦ grows-set ess a (e ∷ []) | false ↦ grows-push ess (take n (array_at ess a) ++ e ∷ []) ]

pub sound-pushed : (ess ess' : List (List Entry)) (rows : List MapRecord) (r : MapRecord) → AreSound ess rows → Grows ess ess' → IsSoundRecord ess' r → AreSound ess' (rows ++ r ∷ [])
sound-pushed ess ess' rows r s g h = record { each = sound-more ess ess' rows r g s.each h }

-- the maps once there is one more
pub view-pushed : (ess ess' : List (List Entry)) (rows : List MapRecord) (r : MapRecord) → AreSound ess rows → Grows ess ess'
    → maps_view ess' (rows ++ r ∷ []) ≡ record { maps = map (record_view ess) rows ++ record_view ess' r ∷ []; lengths = map (λ (es : List Entry). length es) ess' }
view-pushed ess ess' rows r s g =
    ap (λ ms. record { maps = ms; lengths = map (λ (es : List Entry). length es) ess' })
    (map-append (record_view ess') rows (r ∷ []) ∙ ap (λ ms. ms ++ record_view ess' r ∷ []) (views-grow ess ess' rows g s.each))

-- what is seen of a map that is there
pub view-read : (ess : List (List Entry)) (rows : List MapRecord) (m : ℕ) (r : MapRecord) → m < length rows → r ≡ get_or rows m r → get_or (map (record_view ess) rows) m no_map ≡ record_view ess r
view-read ess rows m r b e = get_or-map (record_view ess) rows m no_record no_map b ∙ ap (record_view ess) (sym (get_or_read rows m r b e no_record))

pub sound-read : (ess : List (List Entry)) (rows : List MapRecord) (m : ℕ) (r : MapRecord) → AreSound ess rows → m < length rows → r ≡ get_or rows m r → IsSoundRecord ess r
sound-read ess rows m r s b e = subst (IsSoundRecord ess) (sym (get_or_read rows m r b e no_record)) (s.each m b)

pub last-array : (ess : List (List Entry)) (es : List Entry) → array_at (ess ++ es ∷ []) (length ess) ≡ es
last-array [] es = refl
last-array (x ∷ ess) es = last-array ess es

pub lengths-push : (ess : List (List Entry)) (es : List Entry) → map (λ (es : List Entry). length es) (ess ++ es ∷ []) ≡ map (λ (es : List Entry). length es) ess ++ length es ∷ []
lengths-push ess es = map-append (λ (es : List Entry). length es) ess (es ∷ [])

-- what an array is, as a list
array-is : (vs : List (Vec Entry)) (a : ℕ) (v : Vec Entry) → a < length vs → v ≡ get_or vs a v → array_at (lists vs) a ≡ v.items
array-is vs a v b e = get_or-map (λ (w : Vec Entry). w.items) vs a v [] b ∙ ap (λ (w : Vec Entry). w.items) (sym e)

pub lists-set : (vs : List (Vec Entry)) (a : ℕ) (v v' : Vec Entry) (rest : List Entry) → a < length vs → v ≡ get_or vs a v → v'.items ≡ v.items ++ rest
    → lists (set vs a v') ≡ set (lists vs) a (array_at (lists vs) a ++ rest)
lists-set vs a v v' rest b e f = map-set (λ (w : Vec Entry). w.items) vs a v' ∙ ap (set (lists vs) a) (f ∙ ap (λ (es : List Entry). es ++ rest) (sym (array-is vs a v b e)))

set-same : (ess : List (List Entry)) (a : ℕ) → set ess a (array_at ess a) ≡ ess
set-same [] a = refl
set-same (x ∷ ess) zero = refl
set-same (x ∷ ess) (suc a) = λ i. x ∷ set-same ess a i

pub lists-stay : (vs : List (Vec Entry)) (a : ℕ) (v v' : Vec Entry) → a < length vs → v ≡ get_or vs a v → v'.items ≡ v.items → lists (set vs a v') ≡ lists vs
lists-stay vs a v v' b e f = map-set (λ (w : Vec Entry). w.items) vs a v' ∙ ap (set (lists vs) a) (f ∙ sym (array-is vs a v b e)) ∙ set-same (lists vs) a
