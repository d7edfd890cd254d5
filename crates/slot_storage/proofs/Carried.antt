-- One more word is copied over the first zero behind those that were copied.
use Rattle.std.proofs.Common.{◌≡◌, ◌<◌, ◌≤◌, ◌+◌, ◌-◌, ◌++◌, ◌∷◌, [], ℕ, suc, List, length, replicate, take, get_or, set, sym, ap, ◌∙◌, arith}
use Rattle.std.proofs.lemmas.List.{append_assoc, take_more, length-take-le}
use Rattle.property_keys.specs.Counts.{counted}
use Rattle.slot_storage.specs.Steps.{counted_times}
use Rattle.std.proofs.Math.Seq.{set-append_seam}

pub carried : (from : List ℕ) (m i : ℕ) → i < length from → length from ≤ m
    → set (take i from ++ replicate (m - i) 0) i (get_or from i 0) ≡ take (i + 1) from ++ replicate (m - (i + 1)) 0
carried from m i inside room =
    let rest = m - (i + 1) in
    let x = get_or from i 0 in
    let more : m - i ≡ suc rest = omega arith in
    ap (λ k. set (take i from ++ replicate k 0) i x) more
    ∙ ap (λ j. set (take i from ++ 0 ∷ replicate rest 0) j x) (sym (length-take-le i from (omega arith)))
    ∙ set-append_seam (take i from) 0 (replicate rest 0) x
    ∙ sym (append_assoc (take i from) (x ∷ []) (replicate rest 0))
    ∙ ap (λ xs. xs ++ replicate rest 0) (sym (take_more from i 0 inside))

pub counted_more : (steps count : ℕ) → counted (counted_times steps count) ≡ counted_times (steps + 1) count
counted_more steps count = omega arith
