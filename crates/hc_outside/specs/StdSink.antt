-- What each call notes of a writer.
use Rattle.std.specs.Prelude.{◌≡◌, ℕ, Result, Ok, Err}
use Rattle.property_keys.specs.Counts.{counted}
use Rattle.hc_outside.specs.declared.Fault.{Fault}
use Rattle.hc_outside.specs.declared.Fault.TheVariants.{Failed, NoMemory}

-- the count rises by one exactly at Failed, and no call is out of memory
abbrev pub CountsFault : {T : Type 0} → ℕ → Result T Fault → ℕ → Type 0
CountsFault old (Ok value) new = new ≡ old
CountsFault old (Err Failed) new = new ≡ counted old
CountsFault old (Err NoMemory) new = ⊥
