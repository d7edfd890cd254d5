-- What a call of the host leaves, status by status.
use Rattle.std.specs.Prelude.{◌≡◌, ◌⊎◌, ◌∷◌, [], ℕ, List, Option, Some, None, codes, ⊤}
use Rattle.std.specs.Io.KnownBytes.{Keeps}
use Rattle.command_words.specs.Orders.{Order}
use Rattle.script_host.specs.declared.status.Status.{Status}
use Rattle.script_host.specs.declared.status.Status.TheVariants as status
use Rattle.script_host.specs.Answers.{Answer, Runs, Misuses, Faults, Unbuilt, CannotRead, output_of, note_of, FilesChange, IsAsked}
use Rattle.script_host.specs.Expected.{Expected}
use Rattle.script_host.specs.FileBytes.{AsksOnce}
use Rattle.script_host.specs.Sinks.{SinkChange, Failed, Took, TookFront, TookLines, Untouched}

-- the output has all of an answer's bytes, and is flushed
abbrev pub TookOutput : SinkChange → Answer → Type 0
TookOutput out (Runs e) = TookLines out e.output
TookOutput out other = Took out 0 []

-- the error output has a note, by one write
abbrev pub TookNote : SinkChange → List ℕ → Type 0
TookNote err note = Took err 1 note

-- the error output has the note of an answer that has one
abbrev pub TookNoteOf : SinkChange → List ℕ → Type 0
TookNoteOf err [] = Untouched err
TookNoteOf err (c ∷ cs) = TookNote err (c ∷ cs)

abbrev pub write_note : List ℕ
write_note = codes "hcjs: cannot write\n"

abbrev pub memory_note : List ℕ
memory_note = codes "hcjs: out of memory\n"

-- the output failed, and the note of that was tried; or the output is whole, and the note of the answer failed
abbrev pub CannotWrite : Answer → SinkChange → SinkChange → Type 0
CannotWrite answer out err =
    (Failed out (output_of answer) × (TookNote err write_note ⊎ Failed err write_note)) ⊎ (TookOutput out answer × Failed err (note_of answer))

-- want of memory leaves nothing on the output, or a front of what an answer that was asked for puts there
abbrev pub LeavesOutput : Option Order → FilesChange → SinkChange → Type 0
LeavesOutput ordered files out = Keeps out.old.held out.new.held ⊎ ((answer : Answer) × IsAsked ordered files answer × TookFront out (output_of answer))

-- and a front of that answer's note, or of the note on writing or on memory
abbrev pub LeavesNote : Option Order → FilesChange → SinkChange → Type 0
LeavesNote ordered files err =
    TookFront err memory_note ⊎ TookFront err write_note ⊎ ((answer : Answer) × IsAsked ordered files answer × TookFront err (note_of answer))

-- an answer that refuses the script, for a fault or for a construct that does not run yet
abbrev pub IsRefusal : Answer → Type 0
IsRefusal (Faults fault) = ⊤
IsRefusal (Unbuilt place) = ⊤
IsRefusal (Runs e) = ⊥
IsRefusal Misuses = ⊥
IsRefusal (CannotRead name) = ⊥

-- a run that was expected to end with this status
abbrev pub LeavesRun : Option Order → FilesChange → SinkChange → SinkChange → Status → Type 0
LeavesRun ordered files out err ended =
    (e : Expected) × (e.status ≡ ended) × IsAsked ordered files (Runs e) × TookOutput out (Runs e) × TookNoteOf err e.note

abbrev pub Leaves : Option Order → FilesChange → SinkChange → SinkChange → Status → Type 0
Leaves ordered files out err status.Finished = LeavesRun ordered files out err status.Finished
Leaves ordered files out err status.Thrown = LeavesRun ordered files out err status.Thrown
Leaves ordered files out err status.BudgetEnded = LeavesRun ordered files out err status.BudgetEnded
Leaves ordered files out err status.Usage = IsAsked ordered files Misuses × TookOutput out Misuses × TookNote err (note_of Misuses)
Leaves ordered files out err status.Refused =
    (answer : Answer) × IsRefusal answer × IsAsked ordered files answer × TookOutput out answer × TookNote err (note_of answer)
Leaves ordered files out err status.ReadFault =
    (name : List ℕ) × IsAsked ordered files (CannotRead name) × TookOutput out (CannotRead name) × TookNote err (note_of (CannotRead name))
Leaves ordered files out err status.WriteFault = (answer : Answer) × IsAsked ordered files answer × CannotWrite answer out err
Leaves ordered files out err status.NoMemory = LeavesOutput ordered files out × LeavesNote ordered files err

-- the names that files are asked for grow by the file's name alone, once, or not at all
abbrev pub AsksFor : Option (List ℕ) → List (List ℕ) → List (List ℕ) → Type 0
AsksFor None old new = new ≡ old
AsksFor (Some name) old new = AsksOnce old name new
