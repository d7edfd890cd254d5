-- A new object and a new text keep a world sound.
use Rattle.std.proofs.Common.{◌≡◌, ◌≢◌, ◌<◌, ℕ, zero, suc, Bool, true, false, cond, true≢false, IsTrue, Option, Some, None, List, [], ◌∷◌, ◌++◌, length, get_or, refl, sym, subst, ap, ◌∙◌, arith}
use Rattle.std.specs.Prelude.{option_and_then}
use Rattle.std.specs.List.{list_any}
use Rattle.std.specs.Str.{bytes_eq}
use Rattle.std.proofs.Math.ListN.{get_or-append}
use Rattle.std.proofs.lemmas.List.{length-append}
use Rattle.property_keys.specs.declared.identifiers.ObjectId.{ObjectId}
use Rattle.property_keys.specs.Texts.{HasOneEach, interned, text_at}
use Rattle.es_model.specs.declared.kinds.ObjectKind.{ObjectKind}
use Rattle.es_tree.specs.Tree.{Tree}
use Rattle.es_model.specs.Objects.{Object, object_at, no_object, is_array, is_proxy, new_object_of}
use Rattle.es_model.specs.World.{Lists, World, proto, kind, new_object}
use Rattle.es_model.specs.Changes.{with_objects}
use Rattle.es_model.specs.Grows.{Grows}
use Rattle.es_model.specs.Known.{IsObject, IsText, IfThere, IsKnown}
use Rattle.es_model.specs.Sound.{IsKnownKind, IsIntactObject, IsRightKind, IsIntact, IsSound, length_key, link, up, NeverReturns}
use Rattle.es_model.proofs.Growing.{grows-last}
use Rattle.es_model.proofs.ArrayLengths.{LengthIn, key-same}
use Rattle.es_model.proofs.TextPlaces.{absent}
use Rattle.es_model.proofs.KnownLater.{all-map, there-map, known-later, text-later, intact_object-later, right-later, start-later}
use Rattle.es_model.proofs.SoundPut.{link_of}

-- a number below the next one is below this one, or this one
pub split : (R : Type 0) (i n : ℕ) → i < suc n → (i < n → R) → (i ≡ n → R) → R
split R zero zero b f g = g refl
split R zero (suc n) b f g = f (omega arith)
split R (suc i) zero b f g = absurd (omega arith)
split R (suc i) (suc n) b f g = split R i n (omega arith) (λ c. f (omega arith)) (λ e. g (ap suc e))

pub at-end : {X : Type 0} (xs : List X) (y d : X) → get_or (xs ++ y ∷ []) (length xs) d ≡ y
at-end [] y d = refl
at-end (x ∷ xs) y d = at-end xs y d

at-append : (P : ℕ → Object → Type 0) (os : List Object) (x : Object) (j : ℕ) → j < suc (length os) → (j < length os → P j (get_or os j no_object)) → P (length os) x → P j (get_or (os ++ x ∷ []) j no_object)
at-append P os x j b h h' =
    split (P j (get_or (os ++ x ∷ []) j no_object)) j (length os) b
    (λ c. subst (P j) (sym (get_or-append os (x ∷ []) no_object j c)) (h c))
    (λ e. subst (λ n. P n (get_or (os ++ x ∷ []) n no_object)) (sym e) (subst (P (length os)) (sym (at-end os x no_object)) h'))

-- ---- chains in lists with a new object at the end

link-known : (l : Lists) (b : Bool) (p : Option ObjectId) → IfThere (IsObject l) p → IfThere (IsObject l) (cond b None p)
link-known l true p h = tt
link-known l false p h = h

abbrev IsUpSame : Lists → Lists → Option ObjectId → Option ObjectId → Type 0
IsUpSame l l' a b = (a ≡ b) × IfThere (IsObject l) b

up-step : (l l' : Lists) (n : ℕ) → ((o : ObjectId) → IsObject l o → IsUpSame l l' (up l' n o) (up l n o)) → (m : Option ObjectId) → IfThere (IsObject l) m → IsUpSame l l' (option_and_then (up l' n) m) (option_and_then (up l n) m)
up-step l l' n f None h = (refl, tt)
up-step l l' n f (Some o) h = f o h

up-old : (l l' : Lists) → ((o : ObjectId) → IsObject l o → (link l' o ≡ link l o) × IfThere (IsObject l) (link l o)) → (n : ℕ) (o : ObjectId) → IsObject l o → IsUpSame l l' (up l' n o) (up l n o)
up-old l l' e zero o there = (refl, there)
up-old l l' e (suc n) o there =
    let k = e o there in
    let r = up-step l l' n (up-old l l' e n) (link l o) k.1 in
    (ap (option_and_then (up l' n)) k.0 ∙ r.0, r.1)

not-new : (l : Lists) (o : ObjectId) (m : Option ObjectId) → o.0 ≡ length l.objects → IfThere (IsObject l) m → m ≢ Some o
not-new l o m e h back = absurd (let b = subst (IfThere (IsObject l)) back h in omega arith)

chains-new : (l l' : Lists) → ((o : ObjectId) → IsObject l o → (link l' o ≡ link l o) × IfThere (IsObject l) (link l o)) → length l'.objects ≡ suc (length l.objects) →
    ((o : ObjectId) → o.0 ≡ length l.objects → IfThere (IsObject l) (link l' o)) → NeverReturns l → NeverReturns l'
chains-new l l' e count last h o n there back =
    split ⊥ o.0 (length l.objects) (omega arith)
    (λ c. h o n c (sym (up-old l l' e (suc n) o c).0 ∙ back))
    (λ c. let r = up-step l l' n (up-old l l' e n) (link l' o) (last o c) in not-new l o (option_and_then (up l n) (link l' o)) c r.1 (sym r.0 ∙ back))

-- ---- a new object

new-intact : (l : Lists) (k : ObjectKind) (p : Option ObjectId) (b : Bool) → IsKnownKind l k → IfThere (IsObject l) p →
    IsIntactObject l (cond b (record { kind = k; proto = None; extensible = false; properties = [] }) (record { kind = k; proto = p; extensible = true; properties = [] }))
new-intact l k p true h h' = record { slots = h; proto = tt; properties = tt; distinct = tt }
new-intact l k p false h h' = record { slots = h; proto = h'; properties = tt; distinct = tt }

new-right : (script : Tree) (l : Lists) (o : ObjectId) (k : ObjectKind) (p : Option ObjectId) (b : Bool) → IsRightKind script l o k →
    IsRightKind script l o (cond {A = Object} b (record { kind = k; proto = None; extensible = false; properties = [] }) (record { kind = k; proto = p; extensible = true; properties = [] })).kind
new-right script l o k p true h = h
new-right script l o k p false h = h

pub new-kind : (k : ObjectKind) (p : Option ObjectId) (b : Bool) →
    (cond {A = Object} b (record { kind = k; proto = None; extensible = false; properties = [] }) (record { kind = k; proto = p; extensible = true; properties = [] })).kind ≡ k
new-kind k p true = refl
new-kind k p false = refl

pub sound-last : (w : World) (x : Object) → IsSound w → IsIntactObject w.lists x → IsRightKind w.script w.lists (new_object w.lists) x.kind → (IsTrue (is_array x.kind) → LengthIn (length_key w.lists) x.properties) →
    IsSound (with_objects w (w.lists.objects ++ x ∷ []))
sound-last w x s new right fits =
    let l : Lists = w.lists in
    let l' : Lists = (with_objects w (w.lists.objects ++ x ∷ [])).lists in
    let g : Grows l l' = grows-last w x in
    let count : length l'.objects ≡ suc (length l.objects) = (let n = length-append l.objects (x ∷ []) in omega arith) in
    let i : IsIntact l = s.intact in
    record {
      intact = record {
        objects = λ p there. intact_object-later l l' g (object_at l'.objects p) (at-append (λ n y. IsIntactObject l y) l.objects x p.0 (omega arith) (λ b. i.objects p b) new);
        cells = all-map (IfThere (IsKnown l)) (IfThere (IsKnown l')) (there-map (IsKnown l) (IsKnown l') (known-later l l' g)) l.cells i.cells;
        descriptions = all-map (IfThere (IsText l)) (IfThere (IsText l')) (there-map (IsText l) (IsText l') (text-later l l' g)) l.symbols i.descriptions;
        texts = i.texts;
        lengths = i.lengths;
        symbols = i.symbols;
        start = λ k. start-later l l' g k (i.start k);
        chains = chains-new l l'
            (λ o b. (ap link_of (get_or-append l.objects (x ∷ []) no_object o.0 b), link-known l (is_proxy (kind l o)) (proto l o) (i.objects o b).proto))
            count
            (λ o e. subst (λ (n : ℕ). IfThere (IsObject l) (link_of (get_or (l.objects ++ x ∷ []) n no_object))) (sym e)
            (subst (λ (y : Object). IfThere (IsObject l) (link_of y)) (sym (at-end l.objects x no_object)) (link-known l (is_proxy x.kind) x.proto new.proto)))
            i.chains;
      };
      kinds = λ p there. right-later w.script l l' g p (kind l' p) (at-append (λ n y. IsRightKind w.script l (record { 0 = n }) y.kind) l.objects x p.0 (omega arith) (λ b. s.kinds p b) right);
      arrays = λ p there array. subst (λ key. LengthIn key (object_at l'.objects p).properties) (sym (key-same l l' refl))
          (at-append (λ n y. IsTrue (is_array y.kind) → LengthIn (length_key l) y.properties) l.objects x p.0 (omega arith) (λ b. s.arrays p b) fits array);
    }

pub sound-new : (w : World) (k : ObjectKind) (p : Option ObjectId) → IsSound w → IsKnownKind w.lists k → IsRightKind w.script w.lists (new_object w.lists) k → IfThere (IsObject w.lists) p → is_array k ≡ false →
    IsSound (with_objects w (w.lists.objects ++ new_object_of k p ∷ []))
sound-new w k p s h right h' other =
    sound-last w (new_object_of k p) s (new-intact w.lists k p (is_proxy k) h h') (new-right w.script w.lists (new_object w.lists) k p (is_proxy k) right)
    (λ array. absurd (true≢false (sym array ∙ ap is_array (new-kind k p (is_proxy k)) ∙ other)))

-- ---- a new text

one-append : (ts : List (List ℕ)) (text : List ℕ) → ((i : ℕ) → i < length ts → text_at ts i ≢ text) → HasOneEach ts → HasOneEach (ts ++ text ∷ [])
one-append ts text gone one i j bi bj e =
    let n = length-append ts (text ∷ []) in
    split (i ≡ j) i (length ts) (omega arith)
    (λ ci. split (i ≡ j) j (length ts) (omega arith)
    (λ cj. one i j ci cj (sym (get_or-append ts (text ∷ []) [] i ci) ∙ e ∙ get_or-append ts (text ∷ []) [] j cj))
    (λ ej. absurd (gone i ci (sym (get_or-append ts (text ∷ []) [] i ci) ∙ e ∙ ap (text_at (ts ++ text ∷ [])) ej ∙ at-end ts text []))))
    (λ ei. split (i ≡ j) j (length ts) (omega arith)
    (λ cj. absurd (gone j cj (sym (get_or-append ts (text ∷ []) [] j cj) ∙ sym e ∙ ap (text_at (ts ++ text ∷ [])) ei ∙ at-end ts text [])))
    (λ ej. ei ∙ sym ej))

one-interned : (b : Bool) (ts : List (List ℕ)) (text : List ℕ) → list_any (bytes_eq text) ts ≡ b → HasOneEach ts → HasOneEach (cond b ts (ts ++ text ∷ []))
one-interned true ts text e h = h
one-interned false ts text e h = one-append ts text (absent ts text e) h

pub one-each : (ts : List (List ℕ)) (text : List ℕ) → HasOneEach ts → HasOneEach (interned ts text)
one-each ts text h = one-interned (list_any (bytes_eq text) ts) ts text refl h
