-- Lemmas on the table of texts.
use Rattle.std.proofs.Common.{◌≡◌, ◌<◌, ◌≤◌, ◌∙◌, ◌++◌, ◌∷◌, [], ◌⊎◌, inl, inr, ℕ, suc, zero, true, false, List, Some, length, length-append, position, slice_get, refl, sym, ap, true≢false, arith}
use Rattle.std.specs.List.{IsDistinct, list_any}
use Rattle.std.specs.Str.{bytes_eq}
use Rattle.std.proofs.lemmas.Bool.{cases_Bool, cases_lt}
use Rattle.std.proofs.lemmas.List.Quantifiers.{position-Some}
use Rattle.std.proofs.lemmas.List.Folds.{list_any_at}
use Rattle.std.proofs.lemmas.Map.Made.{AllPairs-from_IsDistinct}
use Rattle.std.proofs.lemmas.Option.{get_or_from_slice_get, slice_get_within}
use Rattle.std.proofs.lemmas.Slice.Eq.{bytes_eq-Decides}
use Rattle.property_keys.specs.Texts.{HasNumber, HasOneEach, IsNumberOf, IsUnknown, interned, text_at}

pub one_each : (table : List (List ℕ)) → IsDistinct bytes_eq table → HasOneEach table
one_each table distinct i j a b same =
    let below : i < j → ⊥ = λ lt. AllPairs-from_IsDistinct bytes_eq-Decides table distinct i j [] lt b same in
    let above : j < i → ⊥ = λ lt. AllPairs-from_IsDistinct bytes_eq-Decides table distinct j i [] lt a (sym same) in
    omega arith

-- the place that the look-up finds has the text
pub found_at : (table : List (List ℕ)) (text : List ℕ) (i : ℕ) → position (bytes_eq text) table ≡ Some i → IsNumberOf table text i
found_at table text i p =
    let at = position-Some (bytes_eq text) table i [] p in
    record { known = at.0; names = sym ((bytes_eq-Decides text (text_at table i)).0 at.1) }

-- a text that stands somewhere is found
pub seen : (table : List (List ℕ)) (text : List ℕ) (i : ℕ) → i < length table → text_at table i ≡ text → list_any (bytes_eq text) table ≡ true
seen table text i known same = list_any_at (bytes_eq text) table i [] known ((bytes_eq-Decides text (text_at table i)).1 (sym same))

pub unknown : (table : List (List ℕ)) (text : List ℕ) → list_any (bytes_eq text) table ≡ false → IsUnknown table text
unknown table text none i known same = true≢false (sym (seen table text i known same) ∙ none)

-- the table does not change where the text is known
pub has_known : (table : List (List ℕ)) (text : List ℕ) (id : ℕ) → id < length table → text_at table id ≡ text → HasNumber table table text id
has_known table text id known names = record {
  table = rw (seen table text id known names) refl;
  names = names;
  known = known;
  kept = omega arith;
}

pub length-interned-ge : (table : List (List ℕ)) (text : List ℕ) → length table ≤ length (interned table text)
length-interned-ge table text =
    elim (cases_Bool (list_any (bytes_eq text) table)) [ inl e ↦ rw e (omega arith) | inr e ↦ rw e (omega (arith, length-append table (text ∷ []))) ]

-- the table that an insertion leaves
pub has_stored : (old new : List (List ℕ)) (text : List ℕ) (id : ℕ) → new ≡ interned old text
    → (found : List ℕ) × (slice_get new id ≡ Some found) × (bytes_eq text found ≡ true) → HasNumber old new text id
has_stored old new text id e stored = record {
  table = e;
  names = get_or_from_slice_get new id stored.0 [] stored.1 ∙ sym ((bytes_eq-Decides text stored.0).0 stored.2);
  known = slice_get_within new id stored.0 stored.1;
  kept = rw e (length-interned-ge old text);
}

-- a place of the front is a place of the whole
at_front : (xs ys : List (List ℕ)) (i : ℕ) → i < length xs → text_at (xs ++ ys) i ≡ text_at xs i
at_front [] ys i known = absurd (omega arith)
at_front (x ∷ xs) ys zero known = refl
at_front (x ∷ xs) ys (suc i) known = at_front xs ys i (omega arith)

at_end : (xs : List (List ℕ)) (y : List ℕ) → text_at (xs ++ y ∷ []) (length xs) ≡ y
at_end [] y = refl
at_end (x ∷ xs) y = at_end xs y

at_last : (xs : List (List ℕ)) (y : List ℕ) (i : ℕ) → i ≡ length xs → text_at (xs ++ y ∷ []) i ≡ y
at_last xs y i e = ap (text_at (xs ++ y ∷ [])) e ∙ at_end xs y

place : (xs : List (List ℕ)) (y : List ℕ) (i : ℕ) → i < length (xs ++ y ∷ []) → (i < length xs) ⊎ (i ≡ length xs)
place xs y i known =
    elim (cases_lt i (length xs)) [ inl lt ↦ inl lt | inr ge ↦ inr (omega (arith, length-append xs (y ∷ []))) ]

-- a number that is known stays so, with its text
pub text_at-interned : (table : List (List ℕ)) (text : List ℕ) (i : ℕ) → i < length table → text_at (interned table text) i ≡ text_at table i
text_at-interned table text i known =
    elim (cases_Bool (list_any (bytes_eq text) table)) [ inl e ↦ rw e refl | inr e ↦ rw e (at_front table (text ∷ []) i known) ]

pub one_each_none : HasOneEach []
one_each_none i j a b same = absurd (omega arith)

-- two places of a table with a new text at its end have different texts
one_each_pushed : (table : List (List ℕ)) (text : List ℕ) → HasOneEach table → IsUnknown table text → HasOneEach (table ++ text ∷ [])
one_each_pushed table text one new i j a b same =
    elim (place table text i a) [
      | inl p ↦ elim (place table text j b) [
        | inl q ↦ one i j p q (sym (at_front table (text ∷ []) i p) ∙ same ∙ at_front table (text ∷ []) j q)
        | inr q ↦ absurd (new i p (sym (at_front table (text ∷ []) i p) ∙ same ∙ at_last table text j q))
      ]
      | inr p ↦ elim (place table text j b) [
        | inl q ↦ absurd (new j q (sym (at_front table (text ∷ []) j q) ∙ sym same ∙ at_last table text i p))
        | inr q ↦ p ∙ sym q
      ]
    ]

-- equal texts have one number still
pub one_each_interned : (table : List (List ℕ)) (text : List ℕ) → HasOneEach table → HasOneEach (interned table text)
one_each_interned table text one =
    elim (cases_Bool (list_any (bytes_eq text) table)) [ inl e ↦ rw e one | inr e ↦ rw e (one_each_pushed table text one (unknown table text e)) ]
