-- The number of a whole number's canonical text is that number.
use Rattle.std.proofs.Common.{◌≡◌, ◌∙◌, ◌<◌, ◌≤◌, ◌+◌, ◌-◌, ◌∷◌, [], inl, inr, ℕ, suc, zero, false, List, Some, length, get_or, refl, sym, ap, subst, arith}
use Rattle.std.proofs.lemmas.Bool.{cases_lt}
use Rattle.std.proofs.lemmas.Bool.Decides.{eqb_tells}
use Rattle.std.proofs.lemmas.Fmt.{decimal_digit, decimal_is_IsNumeral, first_decimal}
use Rattle.std.proofs.lemmas.Int.{ints}
use Rattle.std.proofs.lemmas.List.{append-nil}
use Rattle.std.proofs.lemmas.Str.Parse.{digit_at}
use Rattle.std.specs.Fmt.{decimal}
use Rattle.std.specs.Prelude.{ℤ, pos, neg_ℤ, negsuc, option_map, ◌==◌}
use Rattle.std.specs.Str.Parse.{AllDigits}
use Rattle.property_keys.proofs.Numerals.{natural_of-small}
use Rattle.property_keys.proofs.Trims.{trimmed-between}
use Rattle.property_keys.specs.Blanks.{is_blank, trimmed}
use Rattle.property_keys.specs.Decimals.{whole_units}
use Rattle.property_keys.specs.Numbers.{literal_of, natural_of, number_of}
use Rattle.property_keys.specs.Wholes.{IsWhole, most_whole}

no_blank : (k : ℕ) → k < 10 → is_blank (48 + k) ≡ false
no_blank zero lt = refl
no_blank (suc zero) lt = refl
no_blank (suc (suc zero)) lt = refl
no_blank (suc (suc (suc zero))) lt = refl
no_blank (suc (suc (suc (suc zero)))) lt = refl
no_blank (suc (suc (suc (suc (suc zero))))) lt = refl
no_blank (suc (suc (suc (suc (suc (suc zero)))))) lt = refl
no_blank (suc (suc (suc (suc (suc (suc (suc zero))))))) lt = refl
no_blank (suc (suc (suc (suc (suc (suc (suc (suc zero)))))))) lt = refl
no_blank (suc (suc (suc (suc (suc (suc (suc (suc (suc zero))))))))) lt = refl
no_blank (suc (suc (suc (suc (suc (suc (suc (suc (suc (suc k)))))))))) lt = absurd (omega arith)

digit_no_blank : (ds : List ℕ) (i : ℕ) → AllDigits 10 ds → i < length ds → is_blank (get_or ds i 0) ≡ false
digit_no_blank ds i all lt =
    let range = digit_at ds i all lt in
    let same : 48 + (get_or ds i 0 - 48) ≡ get_or ds i 0 = omega (arith, range) in
    subst (λ (c : ℕ). is_blank c ≡ false) same (no_blank (get_or ds i 0 - 48) (omega (arith, range)))

trimmed_same : (text : List ℕ) → 0 < length text → is_blank (get_or text 0 0) ≡ false → is_blank (get_or text (length text - 1) 0) ≡ false → trimmed text ≡ text
trimmed_same text some first last = ap trimmed (sym (append-nil text)) ∙ trimmed-between [] text [] refl refl some first last

unequal : (a b : ℕ) → (a ≡ b → ⊥) → (a == b) ≡ false
unequal a b apart = elim (eqb_tells a b) [ inl e ↦ absurd (apart e.1) | inr e ↦ e.0 ]

read_literal : (text : List ℕ) → 0 < length text → trimmed text ≡ text → number_of text ≡ literal_of text
read_literal text some same = rw (same, unequal (length text) 0 (λ e. omega arith)) refl

positive : (n : ℕ) → n ≤ most_whole → natural_of 10 (decimal n) ≡ Some (pos n)
positive n small =
    let d = decimal_is_IsNumeral n (omega arith) in
    natural_of-small 10 (decimal n) d.0.0 d.0.1 (omega (arith, d.1)) ∙ ap (λ v. Some (pos v)) d.1

-- digits that do not begin with a zero are read as decimal
read_digits : (text : List ℕ) → 48 < get_or text 0 0 → get_or text 0 0 ≤ 57 → literal_of text ≡ natural_of 10 text
read_digits text low high = rw (unequal (get_or text 0 0) 48 (λ e. omega arith), unequal (get_or text 0 0) 45 (λ e. omega arith), unequal (get_or text 0 0) 43 (λ e. omega arith)) refl

from_positive : (n : ℕ) → 0 < n → n ≤ most_whole → number_of (decimal n) ≡ Some (pos n)
from_positive n some small =
    let d = (decimal_is_IsNumeral n (omega arith)).0 in
    let range = digit_at (decimal n) 0 d.1 d.0 in
    read_literal (decimal n) d.0
    (trimmed_same (decimal n) d.0 (digit_no_blank (decimal n) 0 d.1 d.0) (digit_no_blank (decimal n) (length (decimal n) - 1) d.1 (omega (arith, d.0))))
    ∙ read_digits (decimal n) (first_decimal n some (omega arith)) (omega (arith, range)) ∙ positive n small

from_negative : (ds : List ℕ) (n : ℕ) → 0 < length ds → AllDigits 10 ds → natural_of 10 ds ≡ Some (pos (suc n)) → number_of (45 ∷ ds) ≡ Some (negsuc n)
from_negative ds n some all e =
    let place : length (45 ∷ ds) - 1 ≡ suc (length ds - 1) = omega arith in
    let last : is_blank (get_or (45 ∷ ds) (length (45 ∷ ds) - 1) 0) ≡ false =
    subst (λ (i : ℕ). is_blank (get_or (45 ∷ ds) i 0) ≡ false) (sym place) (digit_no_blank ds (length ds - 1) all (omega arith)) in
    read_literal (45 ∷ ds) (omega arith) (trimmed_same (45 ∷ ds) (omega arith) refl last) ∙ ap (option_map neg_ℤ) e

pub number_of-whole_units : (n : ℤ) → IsWhole n → number_of (whole_units n) ≡ Some n
number_of-whole_units (pos n) whole =
    elim (cases_lt 0 n) [
      | inl lt ↦ from_positive n lt (omega (arith, ints, whole.1))
      | inr le ↦ let none : n ≡ 0 = omega arith in
          subst (λ (m : ℕ). number_of (decimal m) ≡ Some (pos m)) (sym none) (ap number_of (decimal_digit 0 (omega arith)))
    ]
number_of-whole_units (negsuc n) whole =
    let small : suc n ≤ most_whole = omega (arith, ints, whole.0) in
    let d = (decimal_is_IsNumeral (suc n) (omega arith)).0 in
    from_negative (decimal (suc n)) n d.0 d.1 (positive (suc n) small)
