-- What each call notes of the files of a system.
use Rattle.std.specs.Prelude.{◌≡◌, ◌+◌, ◌++◌, ◌∷◌, [], ℕ, List, Result, Ok, Err}
use Rattle.property_keys.specs.Counts.{counted}
use Rattle.hc_outside.specs.declared.Fault.{Fault}
use Rattle.hc_outside.specs.declared.Fault.TheVariants.{Failed, NoMemory}
use Rattle.hc_outside.specs.declared.FileId.{FileId}
use Rattle.hc_outside.specs.States.{RealState}

-- nothing was begun, asked for or read, and nothing failed
abbrev pub untouched : RealState
untouched = record { opened = 0; asked = []; reads = 0; count = 0 }

-- a `begin` gives the number of the files begun before
abbrev pub Opens : RealState → List ℕ → Result FileId Fault → RealState → Type 0
Opens old name (Ok id) new = (id.0 ≡ old.opened) × (new ≡ record old { opened = old.opened + 1; asked = old.asked ++ name ∷ [] })
Opens old name (Err Failed) new = new ≡ record old { asked = old.asked ++ name ∷ []; count = counted old.count }
Opens old name (Err NoMemory) new = new ≡ old

-- a `read` is counted, and is never out of memory
abbrev pub ReadsPart : {T : Type 0} → RealState → Result T Fault → RealState → Type 0
ReadsPart old (Ok value) new = new ≡ record old { reads = counted old.reads }
ReadsPart old (Err Failed) new = new ≡ record old { reads = counted old.reads; count = counted old.count }
ReadsPart old (Err NoMemory) new = ⊥
