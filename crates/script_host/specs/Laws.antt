-- Laws of the answers to bytes and of what a call leaves, each named by a public function.
use Rattle.std.specs.Prelude.{◌≡◌, ◌≤◌, ◌⊎◌, ℕ, List, Some, ⊤}
use Rattle.es_source.specs.declared.faults.SourceFault.{SourceFault}
use Rattle.es_tree.specs.Tree.{Tree}
use Rattle.es_serve.specs.Run.{run_of}
use Rattle.hc_outside.specs.Files.{bytes_named}
use Rattle.command_words.specs.Orders.{Order, OfFile}
use Rattle.script_checker.specs.Contract.{IsTreeOf}
use Rattle.script_rules.specs.FirstFault.{HasFirstFault}
use Rattle.script_host.specs.declared.status.Status.{Status}
use Rattle.script_host.specs.declared.status.Status.TheVariants as status
use Rattle.script_host.specs.Answers.{Answer, Runs, note_of, FilesChange, IsAnswer}
use Rattle.script_host.specs.Leaves.{IsRefusal, TookOutput, TookNote, TookNoteOf, Leaves}
use Rattle.script_host.specs.Sinks.{SinkChange}
use Rattle.script_host.specs.Expected.{Expected}

-- an order of a script with these bytes has one answer
abbrev pub HasOneAnswer : Type 0
HasOneAnswer =
    (order : Order) (bytes : List ℕ) → (answer : Answer) × IsAnswer order bytes answer × ((other : Answer) → IsAnswer order bytes other → other ≡ answer)

-- the bytes have this first fault, no other and no tree
abbrev pub HasFault : List ℕ → SourceFault → Type 0
HasFault bytes f = HasFirstFault bytes (Some f) × ((g : SourceFault) → HasFirstFault bytes (Some g) → g ≡ f) × ((t : Tree) → IsTreeOf bytes t → ⊥)

-- they have this tree, no other and no first fault
abbrev pub HasTree : List ℕ → Tree → Type 0
HasTree bytes t = IsTreeOf bytes t × ((u : Tree) → IsTreeOf bytes u → u ≡ t) × ((f : SourceFault) → HasFirstFault bytes (Some f) → ⊥)

abbrev pub HasReading : List ℕ → Type 0
HasReading bytes = ((f : SourceFault) × HasFault bytes f) ⊎ ((t : Tree) × HasTree bytes t)

-- the bytes have a first fault or a tree, one alone, and not both
abbrev pub HasOneReading : Type 0
HasOneReading = (bytes : List ℕ) → HasReading bytes

-- a run of the whole file was expected to end with this status
abbrev pub RunsRight : Order → List ℕ → SinkChange → SinkChange → Status → Type 0
RunsRight order whole out err ended =
    (e : Expected) × (e.status ≡ ended) × IsAnswer order whole (Runs e) × TookOutput out (Runs e) × TookNoteOf err e.note

-- what each of these statuses says of the whole file
abbrev pub IsRightFor : Order → List ℕ → SinkChange → SinkChange → Status → Type 0
IsRightFor order whole out err status.Finished = RunsRight order whole out err status.Finished
IsRightFor order whole out err status.Thrown = RunsRight order whole out err status.Thrown
IsRightFor order whole out err status.BudgetEnded = RunsRight order whole out err status.BudgetEnded
IsRightFor order whole out err status.Refused = (answer : Answer) × IsRefusal answer × IsAnswer order whole answer × TookNote err (note_of answer)
IsRightFor order whole out err status.Usage = ⊥
IsRightFor order whole out err status.ReadFault = ⊤
IsRightFor order whole out err status.WriteFault = ⊤
IsRightFor order whole out err status.NoMemory = ⊤

-- where the files tell these bytes under the name that is ordered, the statuses speak of all of them, although no more than a part is read
abbrev pub SpeaksOfWholeFile : Type 0
SpeaksOfWholeFile =
    (order : Order) (files : FilesChange) (out err : SinkChange) (ended : Status) (all : List (List ℕ × List ℕ)) (name whole : List ℕ)
    → Leaves (Some order) files out err ended → files.held ≡ Some all → order.source ≡ OfFile name → bytes_named all name ≡ Some whole
    → IsRightFor order whole out err ended

-- a run takes at most its budget: no more turns are left at its end than there were
abbrev pub KeepsToBudget : Type 0
KeepsToBudget = (script : Tree) (turns : ℕ) → (run_of script turns).world.turns ≤ turns
