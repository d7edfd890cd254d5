-- Lemmas on array indices and keys.
use Rattle.std.proofs.Common.{◌≡◌, ◌∙◌, ◌<◌, ◌≤◌, ◌&&◌, inl, inr, ℕ, true, Bool, List, Some, None, length, get_or, refl, sym, ap, subst, arith}
use Rattle.std.proofs.lemmas.Bool.{and_parts, cases_Bool, cases_lt, false_from_ne_true, lt-leb, le-leb, leb-true}
use Rattle.std.proofs.lemmas.Fmt.{decimal-digits_value, decimal_digit, decimal_is_IsNumeral, first_decimal}
use Rattle.std.proofs.lemmas.Int.{ints}
use Rattle.std.proofs.lemmas.Option.{cond_some, none-some}
use Rattle.std.proofs.lemmas.Slice.Eq.{bytes_eq-Decides}
use Rattle.std.proofs.lemmas.Str.Parse.{IsNumeralModel, numerals_by_value, tells_digits}
use Rattle.std.specs.Fmt.{decimal}
use Rattle.std.specs.Prelude.{ℤ, pos, ◌≤ℤ◌, nat_le}
use lib.IntN.{nat_abs}
use Rattle.std.specs.Str.{bytes_eq}
use Rattle.std.specs.Str.Parse.{AllDigits, digits_value}
use Rattle.property_keys.proofs.Numerals.{natural_of-Some, natural_of-small}
use Rattle.property_keys.proofs.Tables.{has_known}
use Rattle.property_keys.specs.declared.identifiers.TextId.{TextId}
use Rattle.property_keys.specs.declared.keys.PropKey.{PropKey}
use Rattle.property_keys.specs.declared.keys.PropKey.TheVariants.{Name}
use Rattle.property_keys.specs.Keys.{IsTextKey, array_index_of, key_of, most_index, text_of_key}
use Rattle.property_keys.specs.Numbers.{natural_of}
use Rattle.property_keys.specs.Texts.{HasNumber, text_at}

own : IsNumeralModel (AllDigits 10) (digits_value 10)
own = numerals_by_value (AllDigits 10) tells_digits

-- the test that an array index passes
abbrev is_index : List ℕ → Bool
is_index text = nat_le (digits_value 10 text) most_index && bytes_eq text (decimal (digits_value 10 text))

passes : (text : List ℕ) → is_index text ≡ true → (digits_value 10 text ≤ most_index) × (text ≡ decimal (digits_value 10 text))
passes text t =
    let both = and_parts (nat_le (digits_value 10 text) most_index) (bytes_eq text (decimal (digits_value 10 text))) t in
    (leb-true (digits_value 10 text) most_index both.0, (bytes_eq-Decides text (decimal (digits_value 10 text))).0 both.1)

refused : (text : List ℕ) → (is_index text ≡ true → ⊥) → array_index_of text ≡ None
refused text fails = rw (false_from_ne_true (is_index text) fails) refl

-- an array index is the canonical decimal text of its number ..
pub array_index_of-decimal : (n : ℕ) → n ≤ most_index → array_index_of (decimal n) ≡ Some n
array_index_of-decimal n small =
    let v : digits_value 10 (decimal n) ≡ n = (decimal_is_IsNumeral n (omega arith)).1 in
    rw (v, le-leb n most_index small, (bytes_eq-Decides (decimal n) (decimal n)).1 refl) refl

-- .. and nothing else is one
pub array_index_of-Some : (text : List ℕ) (n : ℕ) → array_index_of text ≡ Some n → (n ≤ most_index) × (text ≡ decimal n)
array_index_of-Some text n e =
    let h = cond_some (is_index text) (digits_value 10 text) n e in
    let p = passes text h.0 in
    (omega (arith, p.0, h.1), p.1 ∙ ap decimal h.1)

-- a canonical text has no zero before other digits
no_leading_zero : (n : ℕ) → n ≤ most_index → 1 < length (decimal n) → get_or (decimal n) 0 0 ≡ 48 → ⊥
no_leading_zero n small long zero_first =
    elim (cases_lt 0 n) [
      | inl lt ↦ omega (arith, first_decimal n lt (omega arith))
      | inr le ↦ let e : n ≡ 0 = omega arith in omega (arith, long, ap length (ap decimal e ∙ decimal_digit 0 (omega arith)))
    ]

pub array_index_of-leading_zero : (text : List ℕ) → 1 < length text → get_or text 0 0 ≡ 48 → array_index_of text ≡ None
array_index_of-leading_zero text long zero_first =
    refused text (λ t. let p = passes text t in
    no_leading_zero (digits_value 10 text) p.0 (omega (arith, ap length p.1)) (sym (ap (λ ds. get_or ds 0 0) p.1) ∙ zero_first))

pub array_index_of-no_number : (text : List ℕ) → natural_of 10 text ≡ None → array_index_of text ≡ None
array_index_of-no_number text none =
    refused text (λ t. let p = passes text t in
    let d = decimal_is_IsNumeral (digits_value 10 text) (omega (arith, p.0)) in
    let s = natural_of-small 10 (decimal (digits_value 10 text)) d.0.0 d.0.1 (omega (arith, p.0, d.1)) in
    none-some _ (sym none ∙ ap (natural_of 10) p.1 ∙ s))

pub array_index_of-great : (text : List ℕ) → most_index < digits_value 10 text → array_index_of text ≡ None
array_index_of-great text great = rw (lt-leb (digits_value 10 text) most_index great) refl

pub array_index_of-small : (text : List ℕ) (z : ℤ) → natural_of 10 text ≡ Some z → (get_or text 0 0 ≡ 48 → length text ≡ 1) → digits_value 10 text ≤ most_index
    → array_index_of text ≡ Some (digits_value 10 text)
array_index_of-small text z e first small =
    let h = natural_of-Some 10 text z e in
    let same : decimal (digits_value 10 text) ≡ text = decimal-digits_value own text h.1 h.0 first (omega arith) in
    rw (le-leb (digits_value 10 text) most_index small, (bytes_eq-Decides text (decimal (digits_value 10 text))).1 (sym same)) refl

one_digit : (text : List ℕ) → 0 < length text → ((1 < length text) × (get_or text 0 0 ≡ 48) → ⊥) → get_or text 0 0 ≡ 48 → length text ≡ 1
one_digit text some first e = elim (cases_lt 1 (length text)) [ inl lt ↦ absurd (first (lt, e)) | inr le ↦ omega arith ]

pub array_index_of-found : (text : List ℕ) (z w : ℤ) → Some z ≡ natural_of 10 text → w ≡ z → ((1 < length text) × (get_or text 0 0 ≡ 48) → ⊥)
    → z ≤ℤ pos most_index → Some (nat_abs w) ≡ array_index_of text
array_index_of-found text z w e same first small =
    let h = natural_of-Some 10 text z (sym e) in
    let v : nat_abs w ≡ digits_value 10 text = ap nat_abs (same ∙ h.3) in
    let le : digits_value 10 text ≤ most_index = omega (arith, ints, h.3) in
    let one : get_or text 0 0 ≡ 48 → length text ≡ 1 = λ z48. one_digit text h.0 first z48 in
    ap (λ n. Some n) v ∙ sym (array_index_of-small text z (sym e) one le)

-- the key of a text stands for it
pub text_of_key-key_of : (table : List (List ℕ)) (id : TextId) → text_of_key table (key_of (text_at table id.0) id) ≡ text_at table id.0
text_of_key-key_of table id =
    elim (cases_Bool (is_index (text_at table id.0))) [
      | inl e ↦ rw e (sym (passes (text_at table id.0) e).1)
      | inr e ↦ rw e refl
    ]

-- a name is a number of its own text
pub name_has_number : (table : List (List ℕ)) (key : PropKey) (id : TextId) → key ≡ Name id → IsTextKey table key
    → HasNumber table table (text_of_key table key) id.0
name_has_number table key id e text =
    let known : id.0 < length table = subst (λ (k : PropKey). IsTextKey table k) e text in
    subst (λ (k : PropKey). HasNumber table table (text_of_key table k) id.0) (sym e) (has_known table (text_at table id.0) id.0 known refl)
