-- What a call does to a sink.
use Rattle.std.specs.Prelude.{◌≡◌, ◌++◌, ◌∷◌, [], ℕ, zero, suc, List, Option, flat_map, length}
use Rattle.std.specs.List.{AllByRecursion}
use Rattle.std.specs.Io.KnownBytes.{Appends, Keeps}
use Rattle.property_keys.specs.Counts.{counted}
use Rattle.hc_outside.specs.Causes.{Rises}
use Rattle.hc_outside.specs.Sinks.{AppendsFront}

-- what a sink tells: the bytes held, how many writes and how many flushes answered Ok, and its count of faults
pub record SinkView : Type 0 where
  pub held : Option (List ℕ)
  pub writes : ℕ
  pub flushes : ℕ
  pub faults : ℕ

abbrev pub sink_view : Option (List ℕ) → ℕ → ℕ → ℕ → SinkView
sink_view held writes flushes faults = record { held = held; writes = writes; flushes = flushes; faults = faults }

-- a sink before and after a call
pub record SinkChange : Type 0 where
  pub old : SinkView
  pub new : SinkView

abbrev pub change : SinkView → SinkView → SinkChange
change old new = record { old = old; new = new }

-- so many calls more; a count stands still at the end of its type
abbrev pub counted_times : ℕ → ℕ → ℕ
counted_times zero n = n
counted_times (suc times) n = counted (counted_times times n)

-- ---- without a failure

-- the sink did not fail, got exactly these bytes by so many writes, and was flushed once
abbrev pub Took : SinkChange → ℕ → List ℕ → Type 0
Took sink writes bytes =
    (sink.new.faults ≡ sink.old.faults) × Appends sink.old.held sink.new.held bytes
    × (sink.new.writes ≡ counted_times writes sink.old.writes) × (sink.new.flushes ≡ counted sink.old.flushes)

-- nothing was written to the sink, and it was not flushed
abbrev pub Untouched : SinkChange → Type 0
Untouched sink =
    (sink.new.faults ≡ sink.old.faults) × Keeps sink.old.held sink.new.held
    × (sink.new.writes ≡ sink.old.writes) × (sink.new.flushes ≡ sink.old.flushes)

-- the sink did not fail, and got exactly this line by one write
abbrev pub TookLine : SinkChange → List ℕ → Type 0
TookLine sink line =
    (sink.new.faults ≡ sink.old.faults) × Appends sink.old.held sink.new.held line
    × (sink.new.writes ≡ counted sink.old.writes) × (sink.new.flushes ≡ sink.old.flushes)

-- the sink did not fail, and was flushed once
abbrev pub Flushed : SinkChange → Type 0
Flushed sink =
    (sink.new.faults ≡ sink.old.faults) × Keeps sink.old.held sink.new.held
    × (sink.new.writes ≡ sink.old.writes) × (sink.new.flushes ≡ counted sink.old.flushes)

-- ---- lines

-- a line ends with a line feed
abbrev pub IsLine : List ℕ → Type 0
IsLine line = (text : List ℕ) × (line ≡ text ++ 10 ∷ [])

-- these bytes are these lines
abbrev pub AreLinesOf : List (List ℕ) → List ℕ → Type 0
AreLinesOf lines bytes = AllByRecursion IsLine lines × (flat_map (λ (line : List ℕ). line) lines ≡ bytes)

-- the sink did not fail, and got exactly these bytes, a line by each write
pub record Wrote (sink : SinkChange) (bytes : List ℕ) : Type 0 where
  pub lines : List (List ℕ)
  pub are : AreLinesOf lines bytes
  pub faults : sink.new.faults ≡ sink.old.faults
  pub held : Appends sink.old.held sink.new.held bytes
  pub writes : sink.new.writes ≡ counted_times (length lines) sink.old.writes
  pub flushes : sink.new.flushes ≡ sink.old.flushes

-- the same, and it was flushed once
abbrev pub TookLines : SinkChange → List ℕ → Type 0
TookLines sink bytes = (lines : List (List ℕ)) × AreLinesOf lines bytes × Took sink (length lines) bytes

-- ---- with one

-- a front of these bytes
abbrev pub TookFront : SinkChange → List ℕ → Type 0
TookFront sink bytes = AppendsFront sink.old.held sink.new.held bytes

-- the sink failed, and got a front of these bytes
abbrev pub Failed : SinkChange → List ℕ → Type 0
Failed sink bytes = Rises sink.old.faults sink.new.faults × TookFront sink bytes
