-- The phases of reading, each over the whole file.
use Rattle.std.proofs.Common.{◌≡◌, ◌∙◌, ◌≤◌, ◌<◌, ◌^◌, [], ℕ, Bool, true, false, List, length, take, chars, Err, IsUtf8, refl, sym, ap, arith}
use Rattle.std.specs.Str.{is_utf8, IsValidUpTo}
use Rattle.std.specs.Str.Lossy.{utf8_valid_len}
use Rattle.std.proofs.lemmas.Bool.{lt-ltb, le-ltb}
use Rattle.std.proofs.lemmas.Str.{is_utf8-from_IsUtf8, IsUtf8-from_is_utf8, utf8_valid_len-IsValidUpTo, utf8_valid_len-IsUtf8}
use Rattle.es_source.specs.Laws.{PhasesAreInOrder}
use Rattle.es_source.specs.Places.{place_after}
use Rattle.es_source.specs.Reading.{fault_at, reading_of, reading_of_characters}
use Rattle.es_source.specs.declared.faults.FaultCode.TheVariants.{TooLong, NotUtf8}

pub too_long : (bytes : List ℕ) → 2 ^ 22 < length bytes → reading_of bytes ≡ Err (fault_at TooLong (place_after []))
unfolding reading_of
too_long bytes lt = rw (lt-ltb (2 ^ 22) (length bytes) lt) refl

pub decoded : (bytes : List ℕ) → length bytes ≤ 2 ^ 22 → IsUtf8 bytes → reading_of bytes ≡ reading_of_characters (chars bytes)
unfolding reading_of
decoded bytes le utf8 = rw (le-ltb (2 ^ 22) (length bytes) le, is_utf8-from_IsUtf8 bytes utf8) refl

not_utf8 : (bytes : List ℕ) → (IsUtf8 bytes → ⊥) → (b : Bool) → is_utf8 bytes ≡ b → is_utf8 bytes ≡ false
not_utf8 bytes bad true e = absurd (bad (IsUtf8-from_is_utf8 bytes e))
not_utf8 bytes bad false e = e

pub not_decoded : (bytes front : List ℕ) → length bytes ≤ 2 ^ 22 → (IsUtf8 bytes → ⊥) → front ≡ take (utf8_valid_len bytes) bytes
    → reading_of bytes ≡ Err (fault_at NotUtf8 (place_after (chars front)))
unfolding reading_of
not_decoded bytes front le bad e =
    rw (le-ltb (2 ^ 22) (length bytes) le, not_utf8 bytes bad (is_utf8 bytes) refl) (ap (λ xs. Err (fault_at NotUtf8 (place_after (chars xs)))) (sym e))

-- bytes whose longest front that is UTF-8 is shorter are not UTF-8
cut_short : (bytes : List ℕ) (n : ℕ) → IsValidUpTo bytes n → IsUtf8 bytes → ⊥
cut_short bytes n cut utf8 =
    let whole : length bytes ≡ n = sym (utf8_valid_len-IsUtf8 bytes utf8) ∙ utf8_valid_len-IsValidUpTo bytes n cut in
    absurd (omega (arith, cut.short, whole))

pub phases_are_in_order : PhasesAreInOrder
phases_are_in_order bytes = (
  too_long bytes,
  decoded bytes,
  λ n le cut. not_decoded bytes (take n bytes) le (cut_short bytes n cut) (ap (λ k. take k bytes) (sym (utf8_valid_len-IsValidUpTo bytes n cut))),
)
