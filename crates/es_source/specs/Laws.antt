-- Laws over the definitions of tokens.
use Rattle.std.specs.Prelude.{◌≡◌, ◌≤◌, ◌<◌, ◌^◌, [], ℕ, List, true, length, take, drop, chars, nat_eq, Some, Ok, Err, Contains, IsUtf8}
use Rattle.std.specs.List.{starts_with}
use Rattle.std.specs.Str.{IsValidUpTo}
use Rattle.es_source.specs.Forms.{punctuators, longest_punctuator}
use Rattle.es_source.specs.Gaps.{separator_length, gap_of}
use Rattle.es_source.specs.Places.{place_after}
use Rattle.es_source.specs.Reading.{most_bytes, fault_at, reading_of, reading_of_characters}
use Rattle.es_source.specs.declared.faults.FaultCode.TheVariants.{TooLong, NotUtf8}

-- Behind a gap stands no white space, no line terminator and no comment.
abbrev pub GapsAreLongest : Type 0
GapsAreLongest = (cs : List ℕ) (n : ℕ) → gap_of cs ≡ Ok n → separator_length (drop n cs) ≡ Some 0

-- No punctuator at the front is longer than the one that is taken.
abbrev pub PunctuatorsAreLongest : Type 0
PunctuatorsAreLongest = (cs p : List ℕ) → Contains punctuators p → starts_with nat_eq cs p ≡ true → length p ≤ length (longest_punctuator cs)

-- What has more than 2^22 bytes is TooLong at 1:1. Of what is no longer, UTF-8 is read by its characters, and everything else is NotUtf8 at the
-- first byte after its longest front that is UTF-8.
abbrev pub PhasesAreInOrder : Type 0
PhasesAreInOrder =
    (bytes : List ℕ) →
    (most_bytes < length bytes → reading_of bytes ≡ Err (fault_at TooLong (place_after [])))
    × (length bytes ≤ most_bytes → IsUtf8 bytes → reading_of bytes ≡ reading_of_characters (chars bytes))
    × ((n : ℕ) → length bytes ≤ most_bytes → IsValidUpTo bytes n → reading_of bytes ≡ Err (fault_at NotUtf8 (place_after (chars (take n bytes)))))
