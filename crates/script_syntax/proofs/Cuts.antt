-- Where a list of characters is cut in two places.
use Rattle.std.proofs.Common.{◌≡◌, ◌∙◌, ◌++◌, ◌+◌, ℕ, List, take, drop, sym, ap, append_assoc}
use Rattle.std.proofs.Math.Seq.{take-add}

-- a gap and the token after it
pub gap_and_token : (before gap text rest later : List ℕ) (m n : ℕ) → gap ≡ take m rest → later ≡ drop m rest → text ≡ take n later
    → (before ++ gap) ++ text ≡ before ++ take (m + n) rest
gap_and_token before gap text rest later m n g l t =
    append_assoc before gap text ∙ ap (λ xs. before ++ xs) ((λ i. g i ++ t i) ∙ ap (λ xs. take m rest ++ take n xs) l ∙ sym (take-add m n rest))
