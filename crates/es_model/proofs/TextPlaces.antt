-- The number that a table gives a text is the text's place, or the table's length. (For the heap's call that interns.)
use Rattle.std.proofs.Common.{◌≡◌, ◌≢◌, ◌<◌, ℕ, zero, suc, Bool, true, false, ◌||◌, cond, List, [], ◌∷◌, ◌++◌, length, length-append, refl, sym, ap, ◌∙◌, subst, arith}
use Rattle.std.specs.List.{list_any}
use Rattle.std.specs.Str.{bytes_eq}
use Rattle.std.proofs.lemmas.Slice.Eq.{bytes_eq-Decides}
use Rattle.property_keys.specs.Texts.{HasNumber, HasOneEach, IsNumberOf, interned, text_at}
use Rattle.es_model.specs.World.{text_place}

known-step : (b : Bool) (t text : List ℕ) (ts : List (List ℕ)) → (list_any (bytes_eq text) ts ≡ true → IsNumberOf ts text (text_place ts text)) → bytes_eq text t ≡ b → (b || list_any (bytes_eq text) ts) ≡ true → IsNumberOf (t ∷ ts) text (cond b 0 (suc (text_place ts text)))
known-step true t text ts rest e h = record { known = omega arith; names = sym ((bytes_eq-Decides text t).0 e) }
known-step false t text ts rest e h = let k = rest h in record { known = let b = k.known in omega arith; names = k.names }

pub place-known : (ts : List (List ℕ)) (text : List ℕ) → list_any (bytes_eq text) ts ≡ true → IsNumberOf ts text (text_place ts text)
place-known [] text h = absurd (let no : false ≡ true = h in cc)
place-known (t ∷ ts) text h = known-step (bytes_eq text t) t text ts (place-known ts text) refl h

unknown-step : (b : Bool) (text : List ℕ) (ts : List (List ℕ)) → (list_any (bytes_eq text) ts ≡ false → text_place ts text ≡ length ts) → (b || list_any (bytes_eq text) ts) ≡ false → cond b 0 (suc (text_place ts text)) ≡ suc (length ts)
unknown-step true text ts rest h = absurd (let no : true ≡ false = h in cc)
unknown-step false text ts rest h = ap suc (rest h)

pub place-unknown : (ts : List (List ℕ)) (text : List ℕ) → list_any (bytes_eq text) ts ≡ false → text_place ts text ≡ length ts
place-unknown [] text h = refl
place-unknown (t ∷ ts) text h = unknown-step (bytes_eq text t) text ts (place-unknown ts text) h

at-end : (xs : List (List ℕ)) (y : List ℕ) → text_at (xs ++ y ∷ []) (length xs) ≡ y
at-end [] y = refl
at-end (x ∷ xs) y = at-end xs y

interned-step : (b : Bool) (ts : List (List ℕ)) (text : List ℕ) → list_any (bytes_eq text) ts ≡ b → IsNumberOf (cond b ts (ts ++ text ∷ [])) text (text_place ts text)
interned-step true ts text e = place-known ts text e
interned-step false ts text e =
    let p = place-unknown ts text e in
    record { known = let n = length-append ts (text ∷ []) in omega arith; names = ap (text_at (ts ++ text ∷ [])) p ∙ at-end ts text }

-- the text has the number of its place in the table that interning leaves
pub place-interned : (ts : List (List ℕ)) (text : List ℕ) → IsNumberOf (interned ts text) text (text_place ts text)
place-interned ts text = interned-step (list_any (bytes_eq text) ts) ts text refl

pub number-place : (old new : List (List ℕ)) (text : List ℕ) (id : ℕ) → HasNumber old new text id → HasOneEach new → id ≡ text_place old text
number-place old new text id h one =
    let at : IsNumberOf new text (text_place old text) = subst (λ (ts : List (List ℕ)). IsNumberOf ts text (text_place old text)) (sym h.table) (place-interned old text) in
    one id (text_place old text) h.known at.known (h.names ∙ sym at.names)

-- ---- a text that is there

absent-step : (b : Bool) (t text : List ℕ) (ts : List (List ℕ)) → bytes_eq text t ≡ b → (b || list_any (bytes_eq text) ts) ≡ false → (bytes_eq text t ≡ false) × (list_any (bytes_eq text) ts ≡ false)
absent-step true t text ts e h = absurd (let no : true ≡ false = h in cc)
absent-step false t text ts e h = (e, h)

pub absent : (ts : List (List ℕ)) (text : List ℕ) → list_any (bytes_eq text) ts ≡ false → (i : ℕ) → i < length ts → text_at ts i ≢ text
absent [] text h i b e = absurd (omega arith)
absent (t ∷ ts) text h zero b e =
    let k = absent-step (bytes_eq text t) t text ts refl h in
    absurd (let a = k.0 in let c = (bytes_eq-Decides text t).1 (sym e) in cc)
absent (t ∷ ts) text h (suc i) b e =
    let k = absent-step (bytes_eq text t) t text ts refl h in
    absent ts text k.1 i (omega arith) e

-- where its place is below the table's length, it stands there
at-place : (b : Bool) (ts : List (List ℕ)) (text : List ℕ) → list_any (bytes_eq text) ts ≡ b → text_place ts text < length ts → text_at ts (text_place ts text) ≡ text
at-place true ts text e h = (place-known ts text e).names
at-place false ts text e h = absurd (let p = place-unknown ts text e in omega arith)

pub place-names : (ts : List (List ℕ)) (text : List ℕ) → text_place ts text < length ts → text_at ts (text_place ts text) ≡ text
place-names ts text h = at-place (list_any (bytes_eq text) ts) ts text refl h

-- where it stands is its place
place-of : (b : Bool) (ts : List (List ℕ)) (text : List ℕ) (i : ℕ) → list_any (bytes_eq text) ts ≡ b → HasOneEach ts → i < length ts → text_at ts i ≡ text → text_place ts text ≡ i
place-of true ts text i e one h names = let k = place-known ts text e in one (text_place ts text) i k.known h (k.names ∙ sym names)
place-of false ts text i e one h names = absurd (absent ts text e i h names)

pub place-alone : (ts : List (List ℕ)) (text : List ℕ) (i : ℕ) → HasOneEach ts → i < length ts → text_at ts i ≡ text → text_place ts text ≡ i
place-alone ts text i one h names = place-of (list_any (bytes_eq text) ts) ts text i refl one h names
