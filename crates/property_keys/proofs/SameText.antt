-- Two texts are compared place by place.
use Rattle.std.proofs.Common.{◌≡◌, ◌≢◌, ◌<◌, ◌∙◌, ap, sym, ℕ, ◌+◌, true, false, ◌&&◌, List, ◌∷◌, length, drop, get_or, nat_eq, Some, slice_get, arith}
use Rattle.std.specs.Str.{bytes_eq}
use Rattle.std.proofs.lemmas.List.{at_drop_more}
use Rattle.std.proofs.lemmas.Option.{get_or_from_slice_get}
use Rattle.std.proofs.lemmas.Bool.Decides.{nat_tests}

step : (us ts : List ℕ) (i : ℕ) → i < length us → i < length ts
    → bytes_eq (drop i us) (drop i ts) ≡ (nat_eq (get_or us i 0) (get_or ts i 0) && bytes_eq (drop (i + 1) us) (drop (i + 1) ts))
step us ts i a b =
    at_drop_more (λ xs. bytes_eq xs (drop i ts)) us i 0 a ∙ at_drop_more (λ ys. bytes_eq (get_or us i 0 ∷ drop (i + 1) us) ys) ts i 0 b

other : (a b : ℕ) → a ≢ b → nat_eq a b ≡ false
other a b ne = grind (arith, nat_tests)

same : (a b : ℕ) → a ≡ b → nat_eq a b ≡ true
same a b e = grind (arith, nat_tests)

pub differs : (us ts : List ℕ) (i a b : ℕ) → i < length us → i < length ts → slice_get us i ≡ Some a → b ≡ get_or ts i 0 → a ≢ b
    → bytes_eq (drop i us) (drop i ts) ≡ bytes_eq us ts → false ≡ bytes_eq us ts
differs us ts i a b lu lt at bt ne e =
    let ua = get_or_from_slice_get us i a 0 at in
    let w : nat_eq (get_or us i 0) (get_or ts i 0) ≡ false = rw (ua, ← bt) (other a b ne) in
    sym (sym e ∙ step us ts i lu lt ∙ ap (λ t. t && bytes_eq (drop (i + 1) us) (drop (i + 1) ts)) w)

pub agrees : (us ts : List ℕ) (i a b : ℕ) → i < length us → i < length ts → slice_get us i ≡ Some a → b ≡ get_or ts i 0 → a ≡ b
    → bytes_eq (drop i us) (drop i ts) ≡ bytes_eq us ts → bytes_eq (drop (i + 1) us) (drop (i + 1) ts) ≡ bytes_eq us ts
agrees us ts i a b lu lt at bt eq e =
    let ua = get_or_from_slice_get us i a 0 at in
    let w : nat_eq (get_or us i 0) (get_or ts i 0) ≡ true = rw (ua, ← bt) (same a b eq) in
    sym (sym e ∙ step us ts i lu lt ∙ ap (λ t. t && bytes_eq (drop (i + 1) us) (drop (i + 1) ts)) w)
