-- What is taken is the longest.
use Rattle.std.proofs.Common.{◌≡◌, ◌≤◌, ◌<◌, ◌&&◌, ◌∷◌, ◌∙◌, [], ℕ, zero, suc, Bool, true, false, cond, List, length, drop, get_or, nat_eq, nat_lt, Option, Some, None, Result, Ok, Err, refl, ap, subst, arith}
use Rattle.std.specs.Prelude.{fold}
use Rattle.std.specs.List.{starts_with}
use Rattle.std.proofs.lemmas.Bool.{ltb-false, ltb-true}
use Rattle.es_source.specs.Forms.{punctuators, longer_at, longest_punctuator}
use Rattle.es_source.specs.Gaps.{separator_length, one_more, after_separator, gap_from}
use Rattle.es_source.specs.Laws.{GapsAreLongest, PunctuatorsAreLongest}

-- one character before a gap that was found
one_before : (found : Result ℕ ℕ) (n : ℕ) → one_more found ≡ Ok n → (m : ℕ) × (found ≡ Ok m) × (n ≡ suc m)
one_before (Ok m) n e = (m, refl, cc)
one_before (Err m) n e = cc

by_length : (c : ℕ) (cs : List ℕ) (n : ℕ) → ((passing m : ℕ) → gap_from passing cs ≡ Ok m → separator_length (drop m cs) ≡ Some 0)
    → (found : Option ℕ) → separator_length (c ∷ cs) ≡ found → after_separator (λ passing. gap_from passing cs) found ≡ Ok n
    → separator_length (drop n (c ∷ cs)) ≡ Some 0
by_length c cs n later None at e = cc
by_length c cs n later (Some zero) at e =
    let here : 0 ≡ n = cc in
    subst (λ (k : ℕ). separator_length (drop k (c ∷ cs)) ≡ Some 0) here at
by_length c cs n later (Some (suc k)) at e =
    let before = one_before (gap_from k cs) n e in
    ap (λ m. separator_length (drop m (c ∷ cs))) before.2 ∙ later k before.0 before.1

gap_stops : (passing : ℕ) (cs : List ℕ) (n : ℕ) → gap_from passing cs ≡ Ok n → separator_length (drop n cs) ≡ Some 0
gap_stops passing [] zero e = refl
gap_stops passing [] (suc n) e = cc
gap_stops (suc passing) (c ∷ cs) n e =
    let before = one_before (gap_from passing cs) n e in
    ap (λ k. separator_length (drop k (c ∷ cs))) before.2 ∙ gap_stops passing cs before.0 before.1
gap_stops zero (c ∷ cs) n e = by_length c cs n (λ passing m h. gap_stops passing cs m h) (separator_length (c ∷ cs)) refl e

pub gaps_are_longest : GapsAreLongest
gaps_are_longest cs n e = gap_stops 0 cs n e

-- the choice is no shorter than either
chosen_kept : (stands longer : Bool) (best next : List ℕ) → (longer ≡ true → length best < length next) → length best ≤ length (cond (stands && longer) next best)
chosen_kept true true best next h = omega (arith, h refl)
chosen_kept true false best next h = omega arith
chosen_kept false longer best next h = omega arith

chosen_taken : (longer : Bool) (best next : List ℕ) → (longer ≡ false → length next ≤ length best) → length next ≤ length (cond longer next best)
chosen_taken true best next h = omega arith
chosen_taken false best next h = h refl

kept : (cs best next : List ℕ) → length best ≤ length (longer_at cs best next)
kept cs best next =
    chosen_kept (starts_with nat_eq cs next) (nat_lt (length best) (length next)) best next (ltb-true (length best) (length next))

taken : (cs best next : List ℕ) → starts_with nat_eq cs next ≡ true → length next ≤ length (longer_at cs best next)
taken cs best next at = rw at (chosen_taken (nat_lt (length best) (length next)) best next (ltb-false (length best) (length next)))

fold_kept : (cs : List ℕ) (table : List (List ℕ)) (best : List ℕ) → length best ≤ length (fold (longer_at cs) best table)
fold_kept cs [] best = omega arith
fold_kept cs (p ∷ ps) best = omega (arith, kept cs best p, fold_kept cs ps (longer_at cs best p))

fold_taken : (cs : List ℕ) (table : List (List ℕ)) (best p : List ℕ) (i : ℕ) → i < length table → get_or table i p ≡ p → starts_with nat_eq cs p ≡ true
    → length p ≤ length (fold (longer_at cs) best table)
fold_taken cs [] best p i lt e at = absurd (omega arith)
fold_taken cs (q ∷ qs) best p zero lt e at =
    let here : length p ≤ length (longer_at cs best p) = taken cs best p at in
    let same : length (fold (longer_at cs) (longer_at cs best q) qs) ≡ length (fold (longer_at cs) (longer_at cs best p) qs) =
    ap (λ x. length (fold (longer_at cs) (longer_at cs best x) qs)) e in
    omega (arith, here, same, fold_kept cs qs (longer_at cs best p))
fold_taken cs (q ∷ qs) best p (suc i) lt e at = fold_taken cs qs (longer_at cs best q) p i (omega arith) e at

pub punctuators_are_longest : PunctuatorsAreLongest
unfolding longest_punctuator
punctuators_are_longest cs p there at = fold_taken cs punctuators [] p there.0 there.1 there.2 at
