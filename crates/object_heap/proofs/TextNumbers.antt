-- Equal texts keep one number when a text gets one.
use Rattle.std.proofs.Common.{◌≡◌, ℕ, zero, suc, ◌<◌, Bool, true, false, cond, List, [], ◌∷◌, ◌++◌, length, length-append, refl, sym, ap, ◌∙◌, ◌+◌, ◌||◌, subst, true≢false, arith, inl, inr}
use Rattle.std.proofs.lemmas.Bool.{cases_lt}
use Rattle.std.specs.Prelude.{codes}
use Rattle.std.specs.List.{list_any}
use Rattle.std.specs.Str.{bytes_eq}
use Rattle.std.proofs.Math.ListN.{get_or-append}
use Rattle.std.proofs.lemmas.Slice.Eq.{bytes_eq-Decides}
use Rattle.std.proofs.lemmas.List.Folds.{list_any_at}
use Rattle.property_keys.specs.declared.identifiers.TextId.{TextId}
use Rattle.property_keys.specs.Texts.{HasNumber, HasOneEach, interned, text_at}
use Rattle.es_model.specs.World.{Lists, text_place, number_of}
use Rattle.es_model.proofs.TextPlaces.{number-place}
use Rattle.property_keys.proofs.Tables.{has_known}
use Rattle.object_heap.specs.Tables.{IsTable}

at-end : (xs : List (List ℕ)) (y : List ℕ) (i : ℕ) → i ≡ length xs → text_at (xs ++ y ∷ []) i ≡ y
at-end [] y i e = rw e refl
at-end (x ∷ xs) y zero e = absurd (omega arith)
at-end (x ∷ xs) y (suc i) e = at-end xs y i (omega arith)

-- a text that no place has
fresh : (ts : List (List ℕ)) (text : List ℕ) (i : ℕ) → list_any (bytes_eq text) ts ≡ false → i < length ts → text_at ts i ≡ text → ⊥
fresh ts text i none b e = true≢false (sym (list_any_at (bytes_eq text) ts i [] b ((bytes_eq-Decides text (text_at ts i)).1 (sym e))) ∙ none)

one-more : (ts : List (List ℕ)) (text : List ℕ) → list_any (bytes_eq text) ts ≡ false → HasOneEach ts → HasOneEach (ts ++ text ∷ [])
one-more ts text none one i j bi bj e =
    let n : length (ts ++ text ∷ []) ≡ length ts + 1 = length-append ts (text ∷ []) in
    elim (cases_lt i (length ts)) [
      | inl a ↦ elim (cases_lt j (length ts)) [
        | inl b ↦ one i j a b (sym (get_or-append ts (text ∷ []) [] i a) ∙ e ∙ get_or-append ts (text ∷ []) [] j b)
        | inr b ↦ absurd (fresh ts text i none a (sym (get_or-append ts (text ∷ []) [] i a) ∙ e ∙ at-end ts text j (omega arith)))
      ]
      | inr a ↦ elim (cases_lt j (length ts)) [
        | inl b ↦ absurd (fresh ts text j none b (sym (get_or-append ts (text ∷ []) [] j b) ∙ sym e ∙ at-end ts text i (omega arith)))
        | inr b ↦ omega arith
      ]
    ]

one-step : (known : Bool) (ts : List (List ℕ)) (text : List ℕ) → list_any (bytes_eq text) ts ≡ known → HasOneEach ts → HasOneEach (cond known ts (ts ++ text ∷ []))
one-step true ts text e one = one
one-step false ts text e one = one-more ts text e one

pub one_each-interned : (ts : List (List ℕ)) (text : List ℕ) → HasOneEach ts → HasOneEach (interned ts text)
one_each-interned ts text one = one-step (list_any (bytes_eq text) ts) ts text refl one

pub one_each-numbered : (old new : List (List ℕ)) (text : List ℕ) (id : ℕ) → HasNumber old new text id → HasOneEach old → HasOneEach new
one_each-numbered old new text id h one = subst (λ (ts : List (List ℕ)). HasOneEach ts) (sym h.table) (one_each-interned old text one)

-- the number that a table gave is the one that a world of these texts has
pub number-stands : (old new : List (List ℕ)) (text : List ℕ) (id : TextId) (l : Lists) → HasNumber old new text id.0 → HasOneEach old → old ≡ l.texts → id ≡ number_of l text
unfolding number_of
number-stands old new text id l h one e =
    ap (λ n. record { 0 = n }) (number-place old new text id.0 h (one_each-numbered old new text id.0 h one) ∙ ap (λ (ts : List (List ℕ)). text_place ts text) e)

-- ---- the table of a heap

place-more : (ts : List (List ℕ)) (text x : List ℕ) → text_place ts text < length ts → text_place (ts ++ x ∷ []) text ≡ text_place ts text
place-more [] text x b = absurd (omega arith)
place-more (t ∷ ts) text x b =
    elim (bytes_eq text t) as (λ c. cond c 0 (suc (text_place ts text)) < length (t ∷ ts) → cond c 0 (suc (text_place (ts ++ x ∷ []) text)) ≡ cond c 0 (suc (text_place ts text))) [
      | true ↦ λ b. refl
      | false ↦ λ b. ap suc (place-more ts text x (omega arith))
    ] b

table-step : (known : Bool) (ts : List (List ℕ)) (text : List ℕ) → list_any (bytes_eq text) ts ≡ known → IsTable ts → IsTable (cond known ts (ts ++ text ∷ []))
table-step true ts text e h = h
table-step false ts text e h =
    let n : length (ts ++ text ∷ []) ≡ length ts + 1 = length-append ts (text ∷ []) in
    let there = h.there in
    record {
      one = one-more ts text e h.one;
      message = place-more ts (codes "message") text (let m = h.message in omega arith) ∙ h.message;
      empty = get_or-append ts (text ∷ []) [] 5 there ∙ h.empty;
      there = omega arith;
    }

pub table-interned : (ts : List (List ℕ)) (text : List ℕ) → IsTable ts → IsTable (interned ts text)
table-interned ts text h = table-step (list_any (bytes_eq text) ts) ts text refl h

pub table-numbered : (old new : List (List ℕ)) (text : List ℕ) (id : ℕ) → HasNumber old new text id → IsTable old → IsTable new
table-numbered old new text id h t = subst (λ (ts : List (List ℕ)). IsTable ts) (sym h.table) (table-interned old text t)

pub table-same : (old new : List (List ℕ)) → new ≡ old → IsTable old → IsTable new
table-same old new e t = subst (λ (ts : List (List ℕ)). IsTable ts) (sym e) t

-- a text that is in the table has its number
pub numbered-here : (ts : List (List ℕ)) (text : List ℕ) (id : ℕ) → id < length ts → text_at ts id ≡ text → HasNumber ts ts text id
numbered-here ts text id b e = has_known ts text id b e

-- where a text stands, the table stays
found : (ts : List (List ℕ)) (text : List ℕ) → text_place ts text < length ts → list_any (bytes_eq text) ts ≡ true
found [] text b = absurd (omega arith)
found (t ∷ ts) text b =
    elim (bytes_eq text t) as (λ c. cond c 0 (suc (text_place ts text)) < length (t ∷ ts) → (c || list_any (bytes_eq text) ts) ≡ true) [
      | true ↦ λ b. refl
      | false ↦ λ b. found ts text (omega arith)
    ] b

pub message-stays : (ts : List (List ℕ)) → IsTable ts → interned ts (codes "message") ≡ ts
message-stays ts h = ap (λ b. cond b ts (ts ++ codes "message" ∷ [])) (found ts (codes "message") (let m = h.message in let b = h.there in omega arith))
