-- The digits of a number in a radix: how many there are, and that they are put one by one.
use Rattle.std.proofs.Common.{◌≡◌, ◌≢◌, append_assoc, ◌-◌, ◌≤◌, ◌+◌, ◌/◌, ◌%◌, ◌==◌, ℕ, zero, suc, ℤ, pos, Bool, true, false, cond, length, List, [], ◌∷◌, ◌++◌, ap, sym, ◌∙◌, refl, arith}
use Rattle.std.specs.Prelude.{int_lt, nat_abs}
use Rattle.std.proofs.lemmas.List.{append-nil, length-append}
use Rattle.std.proofs.lemmas.Bool.{eq-eqb, ne_eqb}
use Rattle.es_model.specs.Sound.{IsShort}
use Rattle.core_builtins.specs.Radices.{digit_unit, most_digits, radix_digits, radix_units, sign_units}

length-cond : (b : Bool) (xs : List ℕ) (k : ℕ) → length xs ≤ k → length (cond b [] xs) ≤ k
length-cond true xs k h = omega arith
length-cond false xs k h = h

pub digits-length : (left radix n : ℕ) → length (radix_digits left radix n) ≤ left
unfolding radix_digits
digits-length zero radix n = omega arith
digits-length (suc left) radix n =
    let before : List ℕ = cond (n / radix == 0) [] (radix_digits left radix (n / radix)) in
    let both = length-append before (digit_unit (n % radix) ∷ []) in
    let most = length-cond (n / radix == 0) (radix_digits left radix (n / radix)) left (digits-length left radix (n / radix)) in omega arith

-- ---- one by one

-- where none is left
pub no_digits : (units : List ℕ) (left radix n : ℕ) → left ≡ 0 → units ≡ units ++ radix_digits left radix n
unfolding radix_digits
no_digits units left radix n e = sym (append-nil units) ∙ ap (λ k. units ++ radix_digits k radix n) (sym e)

digits-at : (left radix n : ℕ) (b : Bool) → left ≢ 0 → (n / radix == 0) ≡ b →
    radix_digits left radix n ≡ cond b [] (radix_digits (left - 1) radix (n / radix)) ++ digit_unit (n % radix) ∷ []
unfolding radix_digits
digits-at zero radix n b some e = absurd (some refl)
digits-at (suc left) radix n b some e =
    let less : left ≡ suc left - 1 = omega arith in
    ap (λ c. cond c [] (radix_digits left radix (n / radix)) ++ digit_unit (n % radix) ∷ []) e
    ∙ ap (λ k. cond b [] (radix_digits k radix (n / radix)) ++ digit_unit (n % radix) ∷ []) less

-- the first digit is the last one that is put
pub last_digit : (units : List ℕ) (left radix n : ℕ) → left ≢ 0 → n / radix ≡ 0 → units ++ digit_unit (n % radix) ∷ [] ≡ units ++ radix_digits left radix n
last_digit units left radix n some none = ap (λ ds. units ++ ds) (sym (digits-at left radix n true some (eq-eqb (n / radix) 0 none)))

pub more_digits : (units : List ℕ) (left radix n : ℕ) → left ≢ 0 → n / radix ≢ 0 →
    (units ++ radix_digits (left - 1) radix (n / radix)) ++ digit_unit (n % radix) ∷ [] ≡ units ++ radix_digits left radix n
more_digits units left radix n some more =
    append_assoc units (radix_digits (left - 1) radix (n / radix)) (digit_unit (n % radix) ∷ [])
    ∙ ap (λ ds. units ++ ds) (sym (digits-at left radix n false some (ne_eqb (n / radix) 0 more)))

pub room_after : (units : List ℕ) (left radix n : ℕ) → left ≢ 0 → length units + left ≤ 100 → length (units ++ radix_digits (left - 1) radix n) ≤ 100
room_after units left radix n some room =
    let both = length-append units (radix_digits (left - 1) radix n) in
    let most = digits-length (left - 1) radix n in omega arith

-- ---- how many units

abbrev minus : List ℕ
minus = 45 ∷ []

sign-length : (b : Bool) → length (cond b minus []) ≤ 1
sign-length true = omega arith
sign-length false = omega arith

pub radix-short : (radix : ℕ) (x : ℤ) → IsShort (radix_units radix x)
radix-short radix x =
    let both = length-append (sign_units x) (radix_digits most_digits radix (nat_abs x)) in
    let sign = sign-length (int_lt x (pos 0)) in
    let digits = digits-length most_digits radix (nat_abs x) in omega arith
