-- The parts of a call of the host: what is settled before a note, and how a note ends it.
use Rattle.std.specs.Prelude.{◌≡◌, ◌⊎◌, ℕ, List, Option, None, Result, Ok, Err}
use Rattle.std.specs.Io.KnownBytes.{Keeps}
use Rattle.hc_outside.specs.Causes.{Rises}
use Rattle.command_words.specs.Orders.{Order}
use Rattle.property_keys.specs.declared.values.Value.{Value}
use Rattle.es_tree.specs.Tree.{Tree}
use Rattle.es_model.specs.World.{World}
use Rattle.object_heap.specs.Stands.{HeapView, StandsFor}
use Rattle.script_checker.specs.Contract.{IsTreeOf}
use Rattle.script_host.specs.declared.status.Status.{Status}
use Rattle.script_host.specs.declared.status.Status.TheVariants as status
use Rattle.script_host.specs.declared.outcome.ScriptOutcome.{ScriptOutcome}
use Rattle.script_host.specs.declared.outcome.ScriptOutcome.TheVariants as script
use Rattle.script_host.specs.declared.outcome.Outcome.{Outcome}
use Rattle.script_host.specs.declared.outcome.Outcome.TheVariants as outcome
use Rattle.script_host.specs.declared.running.Ending.{Ending}
use Rattle.script_host.specs.declared.running.Ending.TheVariants as ending
use Rattle.script_host.specs.declared.running.HostStop.{HostStop}
use Rattle.script_host.specs.declared.running.HostStop.TheVariants.{WriteFault, NoMemory}
use Rattle.script_host.specs.declared.running.Ran.{Ran}
use Rattle.script_host.specs.Answers.{Answer, Runs, Misuses, Faults, Unbuilt, CannotRead, output_of, FilesChange, IsAnswer, IsAsked}
use Rattle.script_host.specs.Expected.{budget_note, expected}
use Rattle.script_host.specs.Leaves.{TookOutput, TookNote, memory_note, LeavesOutput}
use Rattle.script_host.specs.Running.{EndsAs}
use Rattle.script_host.specs.Sinks.{SinkChange, Failed, Flushed, TookFront, TookLines, Untouched, Wrote}
use Rattle.script_host.specs.Unbuilt.{unbuilt}
use Rattle.script_host.specs.Uncaught.{uncaught_note}

-- a script ran to its end, and the output has what it is expected to put there
abbrev pub HasRun : Order → List ℕ → Tree → SinkChange → Ran → Type 0
HasRun order bytes tree out ran = EndsAs tree order.budget ran × TookLines out (expected order bytes tree).output

-- the line behind a run, where there is one
abbrev pub TakesSummary : List ℕ → SinkChange → Result (Unit {0}) HostStop → Type 0
TakesSummary summary out (Ok done) = Wrote out summary
TakesSummary summary out (Err WriteFault) = Failed out summary
TakesSummary summary out (Err NoMemory) = TookFront out summary

-- the flush behind a run
abbrev pub FlushesRun : Ran → SinkChange → Result Ran HostStop → Type 0
FlushesRun ran out (Ok flushed) = (flushed ≡ ran) × Flushed out
FlushesRun ran out (Err WriteFault) = Rises out.old.faults out.new.faults × Keeps out.old.held out.new.held
FlushesRun ran out (Err NoMemory) = Keeps out.old.held out.new.held

-- the line behind a run, and the flush behind that
abbrev pub ClosesRun : Ran → List ℕ → SinkChange → Result Ran HostStop → Type 0
ClosesRun ran summary out (Ok closed) = (closed ≡ ran) × TookLines out summary
ClosesRun ran summary out (Err WriteFault) = Failed out summary
ClosesRun ran summary out (Err NoMemory) = TookFront out summary

-- a run, with the line and the flush behind it
abbrev pub SettlesRun : Order → List ℕ → Tree → SinkChange → Result Ran HostStop → Type 0
SettlesRun order bytes tree out (Ok ran) = HasRun order bytes tree out ran
SettlesRun order bytes tree out (Err WriteFault) = Failed out (expected order bytes tree).output
SettlesRun order bytes tree out (Err NoMemory) = TookFront out (expected order bytes tree).output

-- the bytes have an answer, and the output has what it puts there
abbrev pub SettlesScript : Order → List ℕ → SinkChange → Result ScriptOutcome HostStop → Type 0
SettlesScript order bytes out (Ok (script.Ran ran)) =
    (tree : Tree) × IsTreeOf bytes tree × (unbuilt tree ≡ None) × HasRun order bytes tree out ran
SettlesScript order bytes out (Ok (script.Faulty fault)) = IsAnswer order bytes (Faults fault) × TookOutput out (Faults fault)
SettlesScript order bytes out (Ok (script.Unbuilt place)) = IsAnswer order bytes (Unbuilt place) × TookOutput out (Unbuilt place)
SettlesScript order bytes out (Err WriteFault) = (answer : Answer) × IsAnswer order bytes answer × Failed out (output_of answer)
SettlesScript order bytes out (Err NoMemory) =
    Keeps out.old.held out.new.held ⊎ ((answer : Answer) × IsAnswer order bytes answer × TookFront out (output_of answer))

-- an answer is asked for, and the output has what it puts there
abbrev pub Settles : Option Order → FilesChange → SinkChange → Result Outcome HostStop → Type 0
Settles ordered files out (Ok (outcome.Script (script.Ran ran))) =
    (order : Order) × (bytes : List ℕ) × (tree : Tree) × IsAsked ordered files (Runs (expected order bytes tree)) × HasRun order bytes tree out ran
Settles ordered files out (Ok (outcome.Script (script.Faulty fault))) = IsAsked ordered files (Faults fault) × TookOutput out (Faults fault)
Settles ordered files out (Ok (outcome.Script (script.Unbuilt place))) = IsAsked ordered files (Unbuilt place) × TookOutput out (Unbuilt place)
Settles ordered files out (Ok outcome.Usage) = IsAsked ordered files Misuses × TookOutput out Misuses
Settles ordered files out (Ok (outcome.CannotRead name)) = IsAsked ordered files (CannotRead name) × TookOutput out (CannotRead name)
Settles ordered files out (Err WriteFault) = (answer : Answer) × IsAsked ordered files answer × Failed out (output_of answer)
Settles ordered files out (Err NoMemory) = LeavesOutput ordered files out

-- the status after a note that was to be written
abbrev pub EndsNoted : SinkChange → List ℕ → Status → Status → Type 0
EndsNoted err note wanted ended =
    ((ended ≡ wanted) × TookNote err note) ⊎ ((ended ≡ status.WriteFault) × Failed err note) ⊎ ((ended ≡ status.NoMemory) × TookFront err note)

-- the same of a note that is made first, which may take more memory than there is
abbrev pub EndsMade : SinkChange → List ℕ → Status → Status → Type 0
EndsMade err note wanted ended = EndsNoted err note wanted ended ⊎ ((ended ≡ status.NoMemory) × TookFront err memory_note)

-- the note on an uncaught value, by every world that the heap stands for
abbrev pub EndsUncaught : HeapView → Value → SinkChange → Status → Type 0
EndsUncaught heap v err ended = (w : World) → StandsFor heap w → EndsMade err (uncaught_note w.lists v) status.Thrown ended

abbrev pub EndsBy : Ending → HeapView → SinkChange → Status → Type 0
EndsBy ending.Finished heap err ended = (ended ≡ status.Finished) × Untouched err
EndsBy (ending.Thrown v) heap err ended = EndsUncaught heap v err ended
EndsBy ending.Halted heap err ended = EndsNoted err budget_note status.BudgetEnded ended

-- the status after a run, with its note where it has one
abbrev pub EndsRun : Ran → SinkChange → Status → Type 0
EndsRun ran err ended = EndsBy ran.ending ran.heap err ended
