-- What each call does to a sink in memory.
use Rattle.std.specs.Prelude.{◌≡◌, ◌++◌, ◌/◌, ℕ, List, Result, Ok, Err, length, take, true, false}
use Rattle.property_keys.specs.Counts.{counted}
use Rattle.hc_outside.specs.declared.Fault.{Fault}
use Rattle.hc_outside.specs.declared.Fault.TheVariants.{Failed, NoMemory}
use Rattle.hc_outside.specs.Calls.{next_fails, with_call, with_fault}
use Rattle.hc_outside.specs.States.{SinkState, NeverState}

-- the first half, rounded down
abbrev pub half_of : List ℕ → List ℕ
half_of bytes = take (length bytes / 2) bytes

-- a `write` fails exactly where its call is to fail, and then appends the first half of its bytes
abbrev pub WritesBytes : {T : Type 0} → SinkState → List ℕ → Result T Fault → SinkState → Type 0
WritesBytes old bytes (Ok value) new =
    (next_fails old.calls ≡ false)
    × (new ≡ record old { bytes = old.bytes ++ bytes; writes = counted old.writes; calls = with_call old.calls })
WritesBytes old bytes (Err Failed) new =
    (next_fails old.calls ≡ true)
    × (new ≡ record old { bytes = old.bytes ++ half_of bytes; calls = with_fault old.calls })
WritesBytes old bytes (Err NoMemory) new = new ≡ old

-- a `flush` fails exactly where its call is to fail, and is never out of memory
abbrev pub Flushes : {T : Type 0} → SinkState → Result T Fault → SinkState → Type 0
Flushes old (Ok value) new = (next_fails old.calls ≡ false) × (new ≡ record old { flushes = counted old.flushes; calls = with_call old.calls })
Flushes old (Err Failed) new = (next_fails old.calls ≡ true) × (new ≡ record old { calls = with_fault old.calls })
Flushes old (Err NoMemory) new = ⊥

-- a sink that never fails appends all of the bytes, or is out of memory and as before
abbrev pub WritesAll : {T : Type 0} → NeverState → List ℕ → Result T Fault → NeverState → Type 0
WritesAll old bytes (Ok value) new = new ≡ record old { bytes = old.bytes ++ bytes; writes = counted old.writes }
WritesAll old bytes (Err Failed) new = ⊥
WritesAll old bytes (Err NoMemory) new = new ≡ old
