-- What the whole scanner answers.
use Rattle.std.specs.Prelude.{◌≡◌, ℕ, List, Result, Ok, Err}
use Rattle.es_source.specs.Reading.{Reading}
use Rattle.es_source.specs.declared.faults.SourceFault.{SourceFault}
use Rattle.es_source.specs.declared.place.Place.{Place}
use Rattle.es_source.specs.declared.token.Token.{Token}
use Rattle.es_source.specs.declared.stop.ReadStop.{ReadStop}
use Rattle.es_source.specs.declared.stop.ReadStop.TheVariants.{Fault, NoMemory}

-- tokens, and the place one past the last character
abbrev pub listed : List Token → Place → Reading
listed all end = record { tokens = all; ending = end }

-- the answer is exactly what the definition gives, tokens or fault; want of memory is free
abbrev pub GivesReading : Result Reading SourceFault → Result Reading ReadStop → Type 0
GivesReading wanted (Ok reading) = wanted ≡ Ok reading
GivesReading wanted (Err (Fault fault)) = wanted ≡ Err fault
GivesReading wanted (Err NoMemory) = Unit {0}
