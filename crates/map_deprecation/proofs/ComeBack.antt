-- What is written of a value is read as that value.
use Rattle.std.proofs.Common.{◌≡◌, ◌<◌, ◌≤◌, ℕ, ◌+◌, ◌-◌, ◌*◌, ◌/◌, ◌%◌, ◌^◌, true, false, cond, refl, ap, ◌∙◌, arith, nat_lt}
use Rattle.std.specs.Prelude.{ℤ, pos, negsuc}
use Rattle.std.proofs.lemmas.Int.{ints}
use Rattle.std.proofs.lemmas.Bool.Decides.{nat_tests}
use Rattle.property_keys.specs.Wholes.{IsWhole}
use Rattle.property_keys.specs.declared.identifiers.ObjectId.{ObjectId}
use Rattle.property_keys.specs.declared.values.Value.{Value}
use Rattle.property_keys.specs.declared.values.Value.TheVariants as value
use Rattle.map_store.specs.declared.entries.Representation.{Representation}
use Rattle.map_store.specs.declared.entries.Representation.TheVariants as representation
use Rattle.map_deprecation.specs.declared.classes.Class.TheVariants as class
use Rattle.map_deprecation.specs.Classes.{is_at_or_above, is_small, of_class, value_class}
use Rattle.map_deprecation.specs.Words.{HasRange, IsGoodValue, lowered, most, raised, small_bits, small_of, tagged_value, tagged_word, value_of, word_of, WordsComeBack}

small_of-low : (n : ℕ) → n < 2147483648 → small_of n ≡ pos n
small_of-low n h = grind (arith, nat_tests)

small_of-high : (m n : ℕ) → n < 2147483648 → m ≡ 4294967295 - n → small_of m ≡ negsuc n
small_of-high m n h e =
    let test : nat_lt m 2147483648 ≡ false = grind (arith, nat_tests) in
    let back : 4294967295 - m ≡ n = omega arith in
    ap (λ t. cond t (pos m) (negsuc (4294967295 - m))) test ∙ ap negsuc back

small-back : (n : ℤ) → is_small n ≡ true → small_of (small_bits n % 4294967296) ≡ n
small-back (pos n) t =
    let b : n < 2147483648 = grind (arith, nat_tests) in
    let e : n % 4294967296 ≡ n = omega arith in
    ap small_of e ∙ small_of-low n b
small-back (negsuc n) t =
    let b : n < 2147483648 = grind (arith, nat_tests) in
    small_of-high ((4294967295 - n) % 4294967296) n b (omega arith)

lowered-high : (m n : ℕ) → m ≡ n + most → lowered m ≡ pos n
lowered-high m n e =
    let test : nat_lt m most ≡ false = grind (arith, nat_tests) in
    let back : m - most ≡ n = omega arith in
    ap (λ t. cond t (negsuc (most - 1 - m)) (pos (m - most))) test ∙ ap pos back

lowered-low : (m n : ℕ) → n < most → m ≡ most - 1 - n → lowered m ≡ negsuc n
lowered-low m n b e =
    let test : nat_lt m most ≡ true = grind (arith, nat_tests) in
    let back : most - 1 - m ≡ n = omega arith in
    ap (λ t. cond t (negsuc (most - 1 - m)) (pos (m - most))) test ∙ ap negsuc back

raised-back : (n : ℤ) → IsWhole n → lowered (raised n) ≡ n
raised-back (pos n) h = lowered-high (n + most) n refl
raised-back (negsuc n) h = lowered-low (most - 1 - n) n (omega (arith, ints)) refl

raised-small : (n : ℤ) → IsWhole n → raised n % 18014398509481984 ≡ raised n
raised-small (pos n) h = let b : n ≤ 9007199254740991 = omega (arith, ints) in omega arith
raised-small (negsuc n) h = omega arith

tag-is : (t r : ℕ) → t < 8 → (t + 8 * r) % 8 ≡ t
tag-is t r b = omega arith

rest-is : (t r : ℕ) → t < 8 → (t + 8 * r) / 8 ≡ r
rest-is t r b = omega arith

tagged : (t r : ℕ) → t < 8 → tagged_value ((t + 8 * r) % 8) ((t + 8 * r) / 8) ≡ tagged_value t r
tagged t r b = λ i. tagged_value (tag-is t r b i) (rest-is t r b i)

id-small : (n : ℕ) → n < 2 ^ 32 → n % 4294967296 ≡ n
id-small n b = omega arith

tagged-back : (v : Value) → IsGoodValue v → HasRange v → tagged_value (tagged_word v % 8) (tagged_word v / 8) ≡ v
tagged-back value.Undefined g h = refl
tagged-back value.Null g h = refl
tagged-back (value.Bool true) g h = refl
tagged-back (value.Bool false) g h = refl
tagged-back (value.Whole n) g h = tagged 3 (raised n) (omega arith) ∙ ap value.Whole (raised-back n g)
tagged-back (value.Text id) g h = tagged 4 id.0 (omega arith) ∙ (λ i. value.Text (record { 0 = id-small id.0 h i }))
tagged-back (value.Symbol id) g h = tagged 5 id.0 (omega arith) ∙ (λ i. value.Symbol (record { 0 = id-small id.0 h i }))
tagged-back (value.Object id) g h = tagged 6 id.0 (omega arith) ∙ (λ i. value.Object (record { 0 = id-small id.0 h i }))

small-taken : (n : ℤ) → is_at_or_above representation.Smi (of_class (cond (is_small n) class.Smi class.Whole)) ≡ true → is_small n ≡ true
small-taken n =
    elim (is_small n) as (λ b. is_at_or_above representation.Smi (of_class (cond b class.Smi class.Whole)) ≡ true → b ≡ true) [ true ↦ λ t. refl | false ↦ λ t. t ]

neither : (n : ℤ) (r : Representation) → is_at_or_above r representation.Smi ≡ false → is_at_or_above r representation.Whole ≡ false
    → is_at_or_above r (of_class (cond (is_small n) class.Smi class.Whole)) ≡ true → ⊥
neither n r s w =
    elim (is_small n) as (λ b. is_at_or_above r (of_class (cond b class.Smi class.Whole)) ≡ true → ⊥) [ true ↦ λ t. cc | false ↦ λ t. cc ]

-- a whole number is of no class that a field of objects takes
whole-in : (n : ℤ) (r : Representation) → is_at_or_above r (of_class (value_class (value.Whole n))) ≡ true → IsWhole n → value_of (word_of (value.Whole n) r) r ≡ value.Whole n
whole-in n representation.Smi t g = ap value.Whole (small-back n (small-taken n t))
whole-in n representation.Whole t g = ap value.Whole (ap lowered (raised-small n g) ∙ raised-back n g)
whole-in n representation.Tagged t g = tagged-back (value.Whole n) g tt
whole-in n representation.None t g = absurd (neither n representation.None refl refl t)
whole-in n representation.Ref t g = absurd (neither n representation.Ref refl refl t)
whole-in n representation.Pair t g = absurd (neither n representation.Pair refl refl t)

object-in : (id : ObjectId) (r : Representation) → is_at_or_above r representation.Ref ≡ true → HasRange (value.Object id) → value_of (word_of (value.Object id) r) r ≡ value.Object id
object-in id representation.Ref t h = λ i. value.Object (record { 0 = id-small id.0 h i })
object-in id representation.Tagged t h = tagged-back (value.Object id) tt h
object-in id r t h = cc

-- a value that only the tagged fields take
other-in : (v : Value) (r : Representation) → is_at_or_above r representation.Tagged ≡ true → tagged_value (tagged_word v % 8) (tagged_word v / 8) ≡ v → word_of v representation.Tagged ≡ tagged_word v → value_of (word_of v r) r ≡ v
other-in v representation.Tagged t h e = ap (λ w. tagged_value (w % 8) (w / 8)) e ∙ h
other-in v r t h e = cc

pub words_back : WordsComeBack
words_back (value.Whole n) r g h t = whole-in n r t g
words_back (value.Object id) r g h t = object-in id r t h
words_back value.Undefined r g h t = other-in value.Undefined r t (tagged-back value.Undefined g h) refl
words_back value.Null r g h t = other-in value.Null r t (tagged-back value.Null g h) refl
words_back (value.Bool b) r g h t = other-in (value.Bool b) r t (tagged-back (value.Bool b) g h) refl
words_back (value.Text id) r g h t = other-in (value.Text id) r t (tagged-back (value.Text id) g h) refl
words_back (value.Symbol id) r g h t = other-in (value.Symbol id) r t (tagged-back (value.Symbol id) g h) refl
