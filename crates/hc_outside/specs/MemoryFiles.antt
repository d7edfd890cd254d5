-- What each call does to files in memory.
use Rattle.std.specs.Prelude.{◌≡◌, ◌++◌, ◌∷◌, ◌⊎◌, [], ℕ, List, None, Some, Result, Ok, Err, length, take, drop, min, get_or, slice_set, true, false}
use Rattle.property_keys.specs.Counts.{counted}
use Rattle.hc_outside.specs.declared.Fault.{Fault}
use Rattle.hc_outside.specs.declared.Fault.TheVariants.{Failed, NoMemory}
use Rattle.hc_outside.specs.declared.FileId.{FileId}
use Rattle.hc_outside.specs.Calls.{no_calls, next_fails, with_call, with_fault}
use Rattle.hc_outside.specs.Files.{bytes_named}
use Rattle.hc_outside.specs.States.{FilesState}

-- nothing was begun, asked for or read
abbrev pub unbegun : List (List ℕ × List ℕ) → List ℕ → FilesState
unbegun named failing = record { named = named; left = []; asked = []; reads = 0; calls = no_calls failing }

-- a file was begun: the name was asked for, and its whole bytes are left
abbrev pub with_file : FilesState → List ℕ → List ℕ → FilesState
with_file s name bytes = record s { left = s.left ++ bytes ∷ []; asked = s.asked ++ name ∷ []; calls = with_call s.calls }

-- a `begin` failed: the name was asked for
abbrev pub without_file : FilesState → List ℕ → FilesState
without_file s name = record s { asked = s.asked ++ name ∷ []; calls = with_fault s.calls }

-- a `begin` fails exactly where its call is to fail or the name is unknown; the new id is the number of the files begun before
abbrev pub BeginsFile : FilesState → List ℕ → Result FileId Fault → FilesState → Type 0
BeginsFile old name (Ok id) new =
    (bytes : List ℕ) × (bytes_named old.named name ≡ Some bytes) × (next_fails old.calls ≡ false) × (id.0 ≡ length old.left)
    × (new ≡ with_file old name bytes)
BeginsFile old name (Err Failed) new = ((next_fails old.calls ≡ true) ⊎ (bytes_named old.named name ≡ None)) × (new ≡ without_file old name)
BeginsFile old name (Err NoMemory) new = new ≡ old

-- what is left of a begun file
abbrev pub left_of : FilesState → ℕ → List ℕ
left_of s file = get_or s.left file []

-- a `read` fails exactly where its call is to fail; each other one gives as many bytes as are left and fit, and is never out of memory
abbrev pub ReadsFile : FilesState → ℕ → Result ℕ Fault → List ℕ → FilesState → Type 0
ReadsFile old file (Ok n) part new =
    (next_fails old.calls ≡ false) × (n ≡ min (length part) (length (left_of old file))) × (take n part ≡ take n (left_of old file))
    × (new ≡ record old { left = slice_set old.left file (drop n (left_of old file)); reads = counted old.reads; calls = with_call old.calls })
ReadsFile old file (Err Failed) part new = (next_fails old.calls ≡ true) × (new ≡ record old { reads = counted old.reads; calls = with_fault old.calls })
ReadsFile old file (Err NoMemory) part new = ⊥
