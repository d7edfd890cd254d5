-- One step of the scanner.
use Rattle.std.specs.Prelude.{◌≡◌, ◌++◌, ◌+◌, ℕ, Bool, List, take, Option, Some, None, Result, Ok, Err}
use Rattle.es_source.specs.Places.{place_after}
use Rattle.es_source.specs.Reading.{Next, fault_at, token_after}
use Rattle.es_source.specs.Reading.Next.{Ends, Fails, Comes}
use Rattle.es_source.specs.declared.faults.FaultCode.TheVariants.{BadToken}
use Rattle.es_source.specs.declared.faults.SourceFault.{SourceFault}
use Rattle.es_source.specs.declared.token.Token.{Token}
use Rattle.script_syntax.specs.Positions.{position_after}
use Rattle.script_syntax.specs.declared.scanning.Found.{Found}
use Rattle.es_source.specs.declared.stop.ReadStop.{ReadStop}
use Rattle.es_source.specs.declared.stop.ReadStop.TheVariants.{Fault, NoMemory}

-- what comes next after the characters before: nothing, a token with how many characters it takes with the gap before it, or a fault
abbrev pub step_of : Bool → List ℕ → List ℕ → Next → Result (Option (Token × ℕ)) SourceFault
step_of is_first before rest Ends = Ok None
step_of is_first before rest (Fails passed) = Err (fault_at BadToken (place_after (before ++ take passed rest)))
step_of is_first before rest (Comes gap form size) = Ok (Some (token_after is_first before (take gap rest) form, gap + size))

-- what the scanner answers is this step; want of memory is free
abbrev pub IsStep : Result (Option (Token × ℕ)) SourceFault → Result (Option Found) ReadStop → Type 0
IsStep wanted (Ok None) = wanted ≡ Ok None
IsStep wanted (Ok (Some found)) = wanted ≡ Ok (Some (found.token, found.size))
IsStep wanted (Err (Fault fault)) = wanted ≡ Err fault
IsStep wanted (Err NoMemory) = Unit {0}

-- the place after a token that was found
abbrev pub EndsAt : List ℕ → List ℕ → Found → Type 0
EndsAt before rest found = found.position ≡ position_after (before ++ take found.size rest)
