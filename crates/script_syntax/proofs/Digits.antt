-- Digits and the numbers that they write.
use Rattle.std.proofs.Common.{◌≡◌, ◌∙◌, ◌++◌, ◌∷◌, true, ◌+◌, ◌*◌, ◌≤◌, ◌<◌, ◌^◌, [], ℕ, suc, Bool, List, length, take, min, get_or, lit<, inl, inr, refl, sym, ap, arith, length-take}
use Rattle.std.specs.Prelude.{take_while}
use Rattle.std.specs.List.{prefix_len}
use Rattle.std.specs.List.{list_all}
use Rattle.es_source.specs.Characters.{is_digit_of}
use Rattle.std.specs.Char.{digit_value}
use Rattle.std.specs.Str.Parse.{digits_value, digits_value_after}
use Rattle.std.proofs.lemmas.List.{take_min, take_more}
use Rattle.std.proofs.lemmas.Bool.{cases_lt, and_parts, ltb-true}
use Rattle.std.proofs.Math.Nat.{pow-zero, mul-le-mul_left, mul-le-mul_right, pow-succ', pow-le-pow_right}

-- a run of elements is as many from the front as it has
pub take_run : (p : ℕ → Bool) (xs : List ℕ) (n : ℕ) → n ≡ length (take_while p xs) → take n xs ≡ take_while p xs
take_run p xs n e = ap (λ k. take k xs) (e ∙ length-take (prefix_len p xs) xs) ∙ take_min (prefix_len p xs) xs

-- one digit more
pub value_push : (base n : ℕ) (ds : List ℕ) (d : ℕ) → digits_value_after base n (ds ++ d ∷ []) ≡ digits_value_after base n ds * base + digit_value d
value_push base n [] d = refl
value_push base n (c ∷ cs) d = value_push base (n * base + digit_value c) cs d

-- a value that stands still at the greatest number
saturated : (most base v d : ℕ) → 1 ≤ base → min (min (min v most * base) most + d) most ≡ min (v * base + d) most
saturated most base v d le = elim (cases_lt v most) [
  | inl below ↦
      let same : min v most ≡ v = omega arith in
      ap (λ m. min (min (m * base) most + d) most) same ∙ omega arith
  | inr above ↦
      let same : min v most ≡ most = omega arith in
      let most_past : most * 1 ≤ most * base = mul-le-mul_left most le in
      let v_past : v * 1 ≤ v * base = mul-le-mul_left v le in
      ap (λ m. min (min (m * base) most + d) most) same ∙ omega arith
]

pub value_step : (most base worth product next : ℕ) (ds : List ℕ) (i c held : ℕ) → 1 ≤ base → i < length ds → c ≡ get_or ds i c
    → held ≡ min (digits_value base (take i ds)) most → product ≡ min (held * base) most → worth ≡ digit_value c → next ≡ min (product + worth) most
    → next ≡ min (digits_value base (take (i + 1) ds)) most
value_step most base worth product next ds i c held le lt at e p w n =
    let before = digits_value base (take i ds) in
    let all : digits_value base (take (i + 1) ds) ≡ before * base + digit_value c =
    ap (digits_value base) (take_more ds i c lt) ∙ value_push base 0 (take i ds) (get_or ds i c) ∙ ap (λ x. before * base + digit_value x) (sym at) in
    n ∙ ap (λ x. min (product + x) most) w ∙ ap (λ x. min (x + digit_value c) most) p ∙ ap (λ x. min (min (x * base) most + digit_value c) most) e
    ∙ saturated most base before (digit_value c) le ∙ ap (λ x. min x most) (sym all)

-- so many digits write a number below that power of the base
value_bound : (base n : ℕ) (ds : List ℕ) → list_all (is_digit_of base) ds ≡ true → digits_value_after base n ds < (n + 1) * base ^ length ds
value_bound base n [] all = let one : base ^ 0 ≡ 1 = pow-zero base in rw one (omega arith)
value_bound base n (d ∷ ds) all =
    let parts = and_parts (is_digit_of base d) (list_all (is_digit_of base) ds) all in
    let digit : digit_value d < base = ltb-true (digit_value d) base parts.0 in
    let later = value_bound base (n * base + digit_value d) ds parts.1 in
    let front : n * base + digit_value d + 1 ≤ (n + 1) * base = omega arith in
    let whole : (n * base + digit_value d + 1) * base ^ length ds ≤ ((n + 1) * base) * base ^ length ds = mul-le-mul_right (base ^ length ds) front in
    let power : (n + 1) * base ^ suc (length ds) ≡ ((n + 1) * base) * base ^ length ds = rw (pow-succ' base (length ds)) (omega arith) in
    rw power (omega (arith, later, whole))

pub four_digits : (ds : List ℕ) → length ds ≤ 4 → list_all (is_digit_of 16) ds ≡ true → digits_value 16 ds < 0x10000
four_digits ds le all =
    let below = value_bound 16 0 ds all in
    let most : 16 ^ length ds ≤ 16 ^ 4 = pow-le-pow_right {n = 16} (lit< tt) {i = length ds} {j = 4} le in
    omega (arith, below, most)
