-- What is kept for a row, by the places of a table.
use Rattle.std.proofs.Common.{◌≡◌, ◌≢◌, ◌<◌, ℕ, zero, suc, Bool, true, false, cond, List, [], ◌∷◌, ◌++◌, length, refl, ap, sym, ◌∙◌, arith, length-set}
use Rattle.std.proofs.Math.ListN.{set}
use Rattle.std.proofs.lemmas.Bool.{cond-false, cond-true}
use Rattle.std.proofs.lemmas.List.{get_or-set_same}
use Rattle.map_store.specs.declared.entries.Representation.{Representation}
use Rattle.map_store.specs.declared.entries.Representation.TheVariants as representation
use Rattle.transition_tree.specs.declared.table.Slot.{Slot}
use Rattle.transition_tree.specs.Rows.{Row, kept_at, same_row}
use Rattle.transition_tree.specs.Tables.{kept_list, no_slot, row_at, slot_at}
use Rattle.transition_tree.proofs.Same.{same_row-false, same_row-true}

pub kept-found : (rows : List Row) (slots : List Slot) (n : ℕ) (row : Row) → n < length rows → n < length slots → row_at rows n ≡ row
    → ((j : ℕ) → j < n → row_at rows j ≢ row) → kept_at (kept_list rows slots) row ≡ (slot_at slots n).kept
kept-found [] slots n row b c here first = absurd (omega arith)
kept-found (x ∷ rows) [] n row b c here first = absurd (omega arith)
kept-found (x ∷ rows) (s ∷ slots) zero row b c here first = cond-true (same_row x row) s.kept (kept_at (kept_list rows slots) row) (same_row-true x row here)
kept-found (x ∷ rows) (s ∷ slots) (suc n) row b c here first =
    cond-false (same_row x row) s.kept (kept_at (kept_list rows slots) row) (same_row-false x row (first 0 (omega arith)))
    ∙ kept-found rows slots n row (omega arith) (omega arith) here (λ j d. first (suc j) (omega arith))

pub kept-absent : (rows : List Row) (slots : List Slot) (row : Row) → ((j : ℕ) → j < length rows → row_at rows j ≢ row) → kept_at (kept_list rows slots) row ≡ representation.None
kept-absent [] slots row none = refl
kept-absent (x ∷ rows) [] row none = refl
kept-absent (x ∷ rows) (s ∷ slots) row none =
    cond-false (same_row x row) s.kept (kept_at (kept_list rows slots) row) (same_row-false x row (none 0 (omega arith)))
    ∙ kept-absent rows slots row (λ j d. none (suc j) (omega arith))

pub kept-other : (rows : List Row) (slots : List Slot) (n : ℕ) (s : Slot) (row : Row) → n < length rows → row_at rows n ≢ row → kept_at (kept_list rows (set slots n s)) row ≡ kept_at (kept_list rows slots) row
kept-other [] slots n s row b ne = refl
kept-other (x ∷ rows) [] n s row b ne = refl
kept-other (x ∷ rows) (old ∷ slots) zero s row b ne =
    let test = same_row-false x row ne in
    cond-false (same_row x row) s.kept (kept_at (kept_list rows slots) row) test ∙ sym (cond-false (same_row x row) old.kept (kept_at (kept_list rows slots) row) test)
kept-other (x ∷ rows) (old ∷ slots) (suc n) s row b ne = ap (λ (r : Representation). cond (same_row x row) old.kept r) (kept-other rows slots n s row (omega arith) ne)

pub kept-set : (rows : List Row) (slots : List Slot) (n : ℕ) (s : Slot) (row : Row) → n < length rows → n < length slots → row_at rows n ≡ row
    → ((j : ℕ) → j < n → row_at rows j ≢ row) → kept_at (kept_list rows (set slots n s)) row ≡ s.kept
kept-set rows slots n s row b c here first =
    kept-found rows (set slots n s) n row b (omega (arith, length-set slots n s)) here first
    ∙ ap (λ (x : Slot). x.kept) (get_or-set_same slots n s no_slot c)

both-same : (b : Bool) (r : Representation) → cond b r r ≡ r
both-same true r = refl
both-same false r = refl

pub kept-pushed : (rows : List Row) (slots : List Slot) (new row : Row) → length slots ≡ length rows → kept_at (kept_list (rows ++ new ∷ []) (slots ++ no_slot ∷ [])) row ≡ kept_at (kept_list rows slots) row
kept-pushed [] [] new row e = both-same (same_row new row) representation.None
kept-pushed [] (s ∷ slots) new row e = absurd (omega arith)
kept-pushed (x ∷ rows) [] new row e = absurd (omega arith)
kept-pushed (x ∷ rows) (s ∷ slots) new row e = ap (λ (r : Representation). cond (same_row x row) s.kept r) (kept-pushed rows slots new row (omega arith))
