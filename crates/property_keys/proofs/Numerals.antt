-- Lemmas on the number that digits write.
use Rattle.std.proofs.Common.{◌≡◌, ◌∙◌, ◌<◌, ◌≤◌, ◌+◌, ◌*◌, ◌∷◌, [], inl, inr, ℕ, true, List, Option, Some, None, length, take, get_or, refl, sym, ap, arith}
use Rattle.std.proofs.lemmas.Bool.{and_parts, cases_Bool, leb-true, lt-leb, lt-ltb, le-leb, ltb-true}
use Rattle.std.proofs.lemmas.Int.{ints}
use Rattle.std.proofs.lemmas.Int.Digits.{digits_value_more}
use Rattle.std.proofs.lemmas.List.{take_all}
use Rattle.std.proofs.lemmas.Option.{cond_some, none-some, same_Some}
use Rattle.std.proofs.lemmas.Str.Parse.{digits_value-take-le}
use Rattle.std.specs.Char.{digit_value, is_digit}
use Rattle.std.specs.List.{list_all}
use Rattle.std.specs.Prelude.{ℤ, pos, neg_ℤ, drop, option_map, slice_index, ◌==◌, nat_le, nat_lt, ◌&&◌}
use Rattle.std.specs.Str.Parse.{AllDigits, digits_value, without_leading_plus}
use Rattle.property_keys.specs.Blanks.{trimmed}
use Rattle.property_keys.specs.Numbers.{decimal_of, is_numeral, literal_of, natural_of, number_of, radix_of}
use Rattle.property_keys.specs.Wholes.{IsWhole, most_whole}

-- digits pass the test of each digit
pub list_all-digits : (radix : ℕ) (ds : List ℕ) → AllDigits radix ds → list_all (λ c. is_digit c radix) ds ≡ true
list_all-digits radix [] all = refl
list_all-digits radix (c ∷ cs) all = rw (lt-ltb (digit_value c) radix all.0) (list_all-digits radix cs all.1)

pub natural_of-small : (radix : ℕ) (ds : List ℕ) → 0 < length ds → AllDigits radix ds → digits_value radix ds ≤ most_whole
    → natural_of radix ds ≡ Some (pos (digits_value radix ds))
natural_of-small radix ds some all small = rw (lt-ltb 0 (length ds) some, list_all-digits radix ds all, le-leb (digits_value radix ds) most_whole small) refl

pub natural_of-great : (radix : ℕ) (ds : List ℕ) → most_whole < digits_value radix ds → natural_of radix ds ≡ None
natural_of-great radix ds great =
    elim (cases_Bool (is_numeral radix ds)) [
      | inl e ↦ rw (e, lt-leb (digits_value radix ds) most_whole great) refl
      | inr e ↦ rw e refl
    ]

-- once the digits so far are too great, all of them are
pub natural_of-past : (radix : ℕ) (ds : List ℕ) (i value digit : ℕ) → 1 ≤ radix → i < length ds
    → value ≡ digits_value radix (take i ds) → digit ≡ digit_value (get_or ds i 0) → most_whole < value * radix + digit → natural_of radix ds ≡ None
natural_of-past radix ds i value digit low within e f great =
    let more : digits_value radix (take (i + 1) ds) ≡ value * radix + digit = digits_value_more radix ds i within ∙ (cc) in
    natural_of-great radix ds (omega (arith, digits_value-take-le radix ds (i + 1) low))

-- at the end of the digits
pub natural_of-whole : (radix : ℕ) (ds : List ℕ) (i value : ℕ) → 0 < length ds → length ds ≤ i → AllDigits radix (take i ds)
    → value ≡ digits_value radix (take i ds) → value ≤ most_whole → natural_of radix ds ≡ Some (pos value)
natural_of-whole radix ds i value some whole all e small =
    let t : take i ds ≡ ds = take_all i ds whole in
    let v : value ≡ digits_value radix ds = e ∙ ap (digits_value radix) t in
    natural_of-small radix ds some (rw t at all) (omega (arith)) ∙ ap (λ n. Some (pos n)) (sym v)

pub digits-list_all : (radix : ℕ) (ds : List ℕ) → list_all (λ c. is_digit c radix) ds ≡ true → AllDigits radix ds
digits-list_all radix [] all = tt
digits-list_all radix (c ∷ cs) all =
    let both = and_parts (is_digit c radix) (list_all (λ d. is_digit d radix) cs) all in
    (ltb-true (digit_value c) radix both.0, digits-list_all radix cs both.1)

-- where the digits write a number
pub natural_of-Some : (radix : ℕ) (ds : List ℕ) (z : ℤ) → natural_of radix ds ≡ Some z
    → (0 < length ds) × AllDigits radix ds × (digits_value radix ds ≤ most_whole) × (z ≡ pos (digits_value radix ds))
natural_of-Some radix ds z e =
    let chosen = cond_some (is_numeral radix ds && nat_le (digits_value radix ds) most_whole) (pos (digits_value radix ds)) z e in
    let both = and_parts (is_numeral radix ds) (nat_le (digits_value radix ds) most_whole) chosen.0 in
    let numeral = and_parts (nat_lt 0 (length ds)) (list_all (λ c. is_digit c radix) ds) both.0 in
    (ltb-true 0 (length ds) numeral.0, digits-list_all radix ds numeral.1, leb-true (digits_value radix ds) most_whole both.1, sym chosen.1)

whole_natural : (radix : ℕ) (ds : List ℕ) (z : ℤ) → natural_of radix ds ≡ Some z → IsWhole z
whole_natural radix ds z e = let h = natural_of-Some radix ds z e in (omega (arith, ints, h.2, h.3), omega (arith, ints, h.2, h.3))

whole_negated : (number : Option ℤ) (z : ℤ) → ((y : ℤ) → number ≡ Some y → IsWhole y) → option_map neg_ℤ number ≡ Some z → IsWhole z
whole_negated None z whole e = absurd (none-some z e)
whole_negated (Some y) z whole e =
    let w = whole y refl in
    let same : neg_ℤ y ≡ z = same_Some (neg_ℤ y) z e in
    (omega (arith, ints, w.0, w.1), omega (arith, ints, w.0, w.1))

whole_decimal : (text : List ℕ) (z : ℤ) → decimal_of text ≡ Some z → IsWhole z
whole_decimal text z e =
    elim (cases_Bool (slice_index text 0 == 45)) [
      | inl minus ↦ whole_negated (natural_of 10 (drop 1 text)) z (whole_natural 10 (drop 1 text)) (rw minus at e)
      | inr other ↦ whole_natural 10 (without_leading_plus text) z (rw other at e)
    ]

whole_literal : (text : List ℕ) (z : ℤ) → literal_of text ≡ Some z → IsWhole z
whole_literal text z e =
    elim (cases_Bool (radix_of text == 10)) [
      | inl ten ↦ whole_decimal text z (rw ten at e)
      | inr other ↦ whole_natural (radix_of text) (drop 2 text) z (rw other at e)
    ]

-- the number of a text is a whole number
pub IsWhole-number_of : (text : List ℕ) (z : ℤ) → number_of text ≡ Some z → IsWhole z
IsWhole-number_of text z e =
    elim (cases_Bool (length (trimmed text) == 0)) [
      | inl none ↦ let same : pos 0 ≡ z = same_Some (pos 0) z (rw none at e) in (omega (arith, ints), omega (arith, ints))
      | inr some ↦ whole_literal (trimmed text) z (rw some at e)
    ]
