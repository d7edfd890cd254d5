-- Lemmas on the end of a call: from what is settled, and what the note did, to what the call leaves.
use Rattle.std.proofs.Common.{◌≡◌, ◌∙◌, [], ℕ, List, Option, Some, None, Result, Ok, Err, inl, inr, refl, sym, ap, subst, append-nil}
use Rattle.std.specs.Io.KnownBytes.{Appends, Keeps}
use Rattle.command_words.specs.Orders.{Order}
use Rattle.property_keys.specs.Counts.{counted}
use Rattle.property_keys.specs.declared.values.Value.{Value}
use Rattle.es_tree.specs.Tree.{Tree}
use Rattle.es_model.specs.World.{Lists}
use Rattle.es_serve.specs.Run.{Run, Finished, Thrown, Halted, run_of}
use Rattle.hc_outside.specs.Causes.{Rises}
use Rattle.hc_outside.specs.Sinks.{AppendsFront}
use Rattle.hc_outside.proofs.Fronts.{front_kept}
use Rattle.object_heap.specs.Stands.{HeapView}
use Rattle.script_checker.specs.Contract.{IsTreeOf}
use Rattle.script_host.specs.declared.status.Status.{Status}
use Rattle.script_host.specs.declared.status.Status.TheVariants as status
use Rattle.script_host.specs.declared.outcome.ScriptOutcome.{ScriptOutcome}
use Rattle.script_host.specs.declared.outcome.ScriptOutcome.TheVariants as script
use Rattle.script_host.specs.declared.outcome.Outcome.{Outcome}
use Rattle.script_host.specs.declared.outcome.Outcome.TheVariants as outcome
use Rattle.script_host.specs.declared.running.Ending.{Ending}
use Rattle.script_host.specs.declared.running.Ending.TheVariants as ending
use Rattle.script_host.specs.declared.running.HostStop.{HostStop}
use Rattle.script_host.specs.declared.running.HostStop.TheVariants.{WriteFault, NoMemory}
use Rattle.script_host.specs.declared.running.Ran.{Ran}
use Rattle.script_host.specs.Answers.{Answer, Runs, Misuses, Faults, Unbuilt, CannotRead, output_of, note_of, FilesChange, IsAnswer, IsAsked, IsAskedOfScript, IsScriptOf}
use Rattle.script_host.specs.Expected.{Expected, budget_note, ending_note, ending_status, expected, expected_of, length_line, summary_of}
use Rattle.script_host.specs.Leaves.{AsksFor, IsRefusal, TookOutput, TookNoteOf, Leaves, LeavesOutput, write_note, memory_note}
use Rattle.script_host.specs.Running.{HasLast, HasWriteCause, RunsTo, TakesLine, printed_by, ended as ending_in}
use Rattle.script_host.specs.Settling.{ClosesRun, FlushesRun, HasRun, Settles, SettlesRun, SettlesScript, TakesSummary, EndsBy, EndsMade, EndsNoted, EndsRun}
use Rattle.script_host.specs.Sinks.{SinkChange, SinkView, Failed, Flushed, TookFront, TookLines, Untouched, Wrote, change}
use Rattle.script_host.specs.Unbuilt.{unbuilt}
use Rattle.script_host.specs.Uncaught.{uncaught_note}
use Rattle.script_host.proofs.Written.{front_behind, front_longer, length_is_line, lines_behind, wrote_line}

-- nothing is a front of anything, and all of it is too
front_of_nothing : (old new : Option (List ℕ)) → Keeps old new → AppendsFront old new []
front_of_nothing None new kept = tt
front_of_nothing (Some xs) None kept = kept
front_of_nothing (Some xs) (Some ys) kept = ([], [], refl, kept ∙ sym (append-nil xs))

front_of_all : (old new : Option (List ℕ)) (bytes : List ℕ) → Appends old new bytes → AppendsFront old new bytes
front_of_all None new bytes all = tt
front_of_all (Some xs) None bytes all = all
front_of_all (Some xs) (Some ys) bytes all = (bytes, [], sym (append-nil bytes), all)

-- a front of all, and then a call that keeps what is held
pub front_then_kept : (a b c : Option (List ℕ)) (all : List ℕ) → AppendsFront a b all → Keeps b c → AppendsFront a c all
front_then_kept None b c all front kept = tt
front_then_kept (Some xs) None c all front kept = absurd front
front_then_kept (Some xs) (Some ys) None all front kept = kept
front_then_kept (Some xs) (Some ys) (Some zs) all front kept = (front.0, front.1, front.2, kept ∙ front.3)

-- none of it is a front of all
pub front_of_none : (held : Option (List ℕ)) (all : List ℕ) → AppendsFront held held all
front_of_none None all = tt
front_of_none (Some xs) all = ([], all, refl, sym (append-nil xs))

-- all of it, and then a call that keeps what is held
whole_kept : (a b c : Option (List ℕ)) (all : List ℕ) → Appends a b all → Keeps b c → Appends a c all
whole_kept None b c all whole kept = tt
whole_kept (Some xs) None c all whole kept = absurd whole
whole_kept (Some xs) (Some ys) None all whole kept = kept
whole_kept (Some xs) (Some ys) (Some zs) all whole kept = kept ∙ whole

pub nothing_taken : (old new : Option (List ℕ)) → Keeps old new → Appends old new []
nothing_taken None new kept = tt
nothing_taken (Some xs) None kept = kept
nothing_taken (Some xs) (Some ys) kept = kept ∙ sym (append-nil xs)

pub appends_nothing : (held : Option (List ℕ)) → Appends held held []
appends_nothing None = tt
appends_nothing (Some xs) = sym (append-nil xs)

-- a flush that fails, for an answer with nothing on the output
pub flush_stops : (ordered : Option Order) (files : FilesChange) (out : SinkChange) (answer : Answer) (stop : HostStop) → IsAsked ordered files answer
    → [] ≡ output_of answer → Keeps out.old.held out.new.held → HasWriteCause {T = Unit {0}} out.old.faults out.new.faults (Err stop) → Settles ordered files out (Err stop)
flush_stops ordered files out answer WriteFault asked none kept cause = (answer, asked, (cause, rw (← none) (front_of_nothing out.old.held out.new.held kept)))
flush_stops ordered files out answer NoMemory asked none kept cause = inl kept

-- the same for the answer to the bytes of a script
pub script_stops : (order : Order) (bytes : List ℕ) (out : SinkChange) (answer : Answer) (stop : HostStop) → IsAnswer order bytes answer
    → [] ≡ output_of answer → Keeps out.old.held out.new.held → HasWriteCause {T = Unit {0}} out.old.faults out.new.faults (Err stop) → SettlesScript order bytes out (Err stop)
script_stops order bytes out answer WriteFault given none kept cause = (answer, given, (cause, rw (← none) (front_of_nothing out.old.held out.new.held kept)))
script_stops order bytes out answer NoMemory given none kept cause = inl kept

-- ---- a run, and the flush behind it

lines_flushed : (s t u : SinkView) (bytes : List ℕ) → Wrote (change s t) bytes → Flushed (change t u) → TookLines (change s u) bytes
lines_flushed s t u bytes wrote flushed = (
  wrote.lines,
  wrote.are,
  (
    flushed.0 ∙ wrote.faults,
    whole_kept s.held t.held u.held bytes wrote.held flushed.1,
    flushed.2 ∙ wrote.writes,
    flushed.3 ∙ ap counted wrote.flushes,
  ),
)

-- a flush that fails
pub flush_fails : (ran : Ran) (out : SinkChange) (stop : HostStop) → Keeps out.old.held out.new.held → HasWriteCause {T = Unit {0}} out.old.faults out.new.faults (Err stop)
    → FlushesRun ran out (Err stop)
flush_fails ran out WriteFault kept cause = (cause, kept)
flush_fails ran out NoMemory kept cause = kept

-- ---- the line behind a run

-- without one nothing is written
pub no_summary : (s : SinkView) → Wrote (change s s) []
no_summary s = record { lines = []; are = (tt, refl); faults = refl; held = appends_nothing s.held; writes = refl; flushes = refl }

-- with one it is
pub length_taken : (length : ℕ) (out : SinkChange) (result : Result (Unit {0}) HostStop) → TakesLine (length_line length) out result
    → TakesSummary (length_line length) out result
length_taken length out (Ok done) took = wrote_line (length_line length) out (length_is_line length) took
length_taken length out (Err WriteFault) failed = failed
length_taken length out (Err NoMemory) left = left.1

pub run_closed : (ran : Ran) (summary : List ℕ) (s t u : SinkView) (result : Result Ran HostStop) → Wrote (change s t) summary
    → FlushesRun ran (change t u) result → ClosesRun ran summary (change s u) result
run_closed ran summary s t u (Ok closed) wrote ends = (ends.0, lines_flushed s t u summary wrote ends.1)
run_closed ran summary s t u (Err WriteFault) wrote ends =
    (subst (λ n. Rises n u.faults) wrote.faults ends.0, front_kept s.held t.held u.held summary wrote.held ends.1)
run_closed ran summary s t u (Err NoMemory) wrote ends = front_kept s.held t.held u.held summary wrote.held ends

pub run_ended : (order : Order) (bytes : List ℕ) (tree : Tree) (ran : Ran) (s t u : SinkView) (result : Result Ran HostStop)
    → RunsTo tree order.budget (change s t) (Ok ran) → ClosesRun ran (summary_of order.source bytes) (change t u) result
    → SettlesRun order bytes tree (change s u) result
run_ended order bytes tree ran s t u (Ok closed) runs ends =
    subst (HasRun order bytes tree (change s u)) (sym ends.0)
    (runs.0, lines_behind s t u (printed_by tree order.budget) (summary_of order.source bytes) runs.1 ends.1)
run_ended order bytes tree ran s t u (Err WriteFault) runs ends =
    (subst (λ n. Rises n u.faults) runs.1.faults ends.0, front_behind s.held t.held u.held (printed_by tree order.budget) (summary_of order.source bytes) runs.1.held ends.1)
run_ended order bytes tree ran s t u (Err NoMemory) runs ends =
    front_behind s.held t.held u.held (printed_by tree order.budget) (summary_of order.source bytes) runs.1.held ends

-- a run whose output failed
pub run_fails : (order : Order) (bytes : List ℕ) (tree : Tree) (out : SinkChange) → RunsTo tree order.budget out (Err WriteFault)
    → SettlesRun order bytes tree out (Err WriteFault)
run_fails order bytes tree out failed =
    (failed.0, front_longer out.old.held out.new.held (printed_by tree order.budget) (summary_of order.source bytes) failed.1)

-- a run without memory, and then a call that keeps what is held
pub run_lacks : (order : Order) (bytes : List ℕ) (tree : Tree) (s t u : SinkView) → RunsTo tree order.budget (change s t) (Err NoMemory)
    → Keeps t.held u.held → SettlesRun order bytes tree (change s u) (Err NoMemory)
run_lacks order bytes tree s t u left kept =
    front_then_kept s.held t.held u.held (expected order bytes tree).output
    (front_longer s.held t.held (printed_by tree order.budget) (summary_of order.source bytes) left.1) kept

-- ---- the script

-- a run that its output or want of memory stops
pub run_stops : (order : Order) (bytes : List ℕ) (out : SinkChange) (tree : Tree) (stop : HostStop) → IsTreeOf bytes tree → unbuilt tree ≡ None
    → SettlesRun order bytes tree out (Err stop) → SettlesScript order bytes out (Err stop)
run_stops order bytes out tree WriteFault is built failed = (Runs (expected order bytes tree), (tree, is, built, refl), failed)
run_stops order bytes out tree NoMemory is built front = inr (Runs (expected order bytes tree), (tree, is, built, refl), front)

-- what the bytes ask for, the order and the file ask for
asked : (ordered : Option Order) (files : FilesChange) (order : Order) (bytes : List ℕ) (answer : Answer)
    → ((given : Answer) → IsAnswer order bytes given → IsAskedOfScript ordered files given) → IsAnswer order bytes answer → IsAsked ordered files answer
asked ordered files order bytes (Runs e) file given = file (Runs e) given
asked ordered files order bytes (Faults fault) file given = file (Faults fault) given
asked ordered files order bytes (Unbuilt place) file given = file (Unbuilt place) given
asked ordered files order bytes Misuses file given = absurd given
asked ordered files order bytes (CannotRead name) file given = absurd given

pub script_ends : (ordered : Option Order) (files : FilesChange) (order : Order) (bytes : List ℕ) (out : SinkChange) (end : ScriptOutcome)
    → ((given : Answer) → IsAnswer order bytes given → IsAskedOfScript ordered files given) → SettlesScript order bytes out (Ok end)
    → Settles ordered files out (Ok (outcome.Script end))
script_ends ordered files order bytes out (script.Ran ran) file settled =
    (order, bytes, settled.0, file (Runs (expected order bytes settled.0)) (settled.0, settled.1, settled.2, refl), settled.3)
script_ends ordered files order bytes out (script.Faulty fault) file settled = (file (Faults fault) settled.0, settled.1)
script_ends ordered files order bytes out (script.Unbuilt place) file settled = (file (Unbuilt place) settled.0, settled.1)

output_left : (ordered : Option Order) (files : FilesChange) (order : Order) (bytes : List ℕ) (out : SinkChange)
    → ((given : Answer) → IsAnswer order bytes given → IsAskedOfScript ordered files given) → SettlesScript order bytes out (Err NoMemory) → LeavesOutput ordered files out
output_left ordered files order bytes out file (inl kept) = inl kept
output_left ordered files order bytes out file (inr front) = inr (front.0, asked ordered files order bytes front.0 file front.1, front.2)

pub script_fails : (ordered : Option Order) (files : FilesChange) (order : Order) (bytes : List ℕ) (out : SinkChange) (stop : HostStop)
    → ((given : Answer) → IsAnswer order bytes given → IsAskedOfScript ordered files given) → SettlesScript order bytes out (Err stop) → Settles ordered files out (Err stop)
script_fails ordered files order bytes out WriteFault file failed = (failed.0, asked ordered files order bytes failed.0 file failed.1, failed.2)
script_fails ordered files order bytes out NoMemory file left = output_left ordered files order bytes out file left

-- what an order of a file or of a generated script asks for, where its bytes were had without a fault of the files
pub of_script : (order : Order) (files : FilesChange) (bytes : List ℕ) → files.after ≡ files.before → IsScriptOf order.source files bytes
    → (given : Answer) → IsAnswer order bytes given → IsAskedOfScript (Some order) files given
of_script order files bytes quiet is given answer = (order, bytes, refl, quiet, is, answer)

-- the outcome of a script as one of the call
abbrev pub on_script : Result ScriptOutcome HostStop → Result Outcome HostStop
on_script (Ok end) = Ok (outcome.Script end)
on_script (Err stop) = Err stop

pub script_settled : (order : Order) (files : FilesChange) (bytes : List ℕ) (out : SinkChange) (result : Result ScriptOutcome HostStop)
    → files.after ≡ files.before → IsScriptOf order.source files bytes → SettlesScript order bytes out result
    → Settles (Some order) files out (on_script result)
script_settled order files bytes out (Ok end) quiet is settled =
    script_ends (Some order) files order bytes out end (of_script order files bytes quiet is) settled
script_settled order files bytes out (Err stop) quiet is settled =
    script_fails (Some order) files order bytes out stop (of_script order files bytes quiet is) settled

-- ---- the note

-- what the output took whole, it took a front of
took_front : (out : SinkChange) (answer : Answer) → TookOutput out answer → TookFront out (output_of answer)
took_front out (Runs e) took = front_of_all out.old.held out.new.held e.output took.2.1
took_front out Misuses took = front_of_all out.old.held out.new.held [] took.1
took_front out (Faults fault) took = front_of_all out.old.held out.new.held [] took.1
took_front out (Unbuilt place) took = front_of_all out.old.held out.new.held [] took.1
took_front out (CannotRead name) took = front_of_all out.old.held out.new.held [] took.1

-- a note that fails, after an output that is whole
note_fails : (ordered : Option Order) (files : FilesChange) (out err : SinkChange) (answer : Answer) → IsAsked ordered files answer → TookOutput out answer
    → Failed err (note_of answer) → Leaves ordered files out err status.WriteFault
note_fails ordered files out err answer asked took failed = (answer, asked, inr (took, failed))

note_stops : (ordered : Option Order) (files : FilesChange) (out err : SinkChange) (answer : Answer) → IsAsked ordered files answer → TookOutput out answer
    → TookFront err (note_of answer) → Leaves ordered files out err status.NoMemory
note_stops ordered files out err answer asked took front =
    (inr (answer, asked, took_front out answer took), inr (inr (answer, asked, front)))

-- there is no memory for the note
note_lacks : (ordered : Option Order) (files : FilesChange) (out err : SinkChange) (answer : Answer) → IsAsked ordered files answer → TookOutput out answer
    → TookFront err memory_note → Leaves ordered files out err status.NoMemory
note_lacks ordered files out err answer asked took front = (inr (answer, asked, took_front out answer took), inl front)

pub refused_ends : (ordered : Option Order) (files : FilesChange) (out err : SinkChange) (answer : Answer) (ended : Status) → IsRefusal answer → IsAsked ordered files answer
    → TookOutput out answer → EndsMade err (note_of answer) status.Refused ended → Leaves ordered files out err ended
refused_ends ordered files out err answer ended refuses asked took (inl (inl e)) = rw e.0 (answer, refuses, asked, took, e.1)
refused_ends ordered files out err answer ended refuses asked took (inl (inr (inl e))) = rw e.0 (note_fails ordered files out err answer asked took e.1)
refused_ends ordered files out err answer ended refuses asked took (inl (inr (inr e))) = rw e.0 (note_stops ordered files out err answer asked took e.1)
refused_ends ordered files out err answer ended refuses asked took (inr e) = rw e.0 (note_lacks ordered files out err answer asked took e.1)

pub usage_ends : (ordered : Option Order) (files : FilesChange) (out err : SinkChange) (ended : Status) → IsAsked ordered files Misuses → TookOutput out Misuses
    → EndsNoted err (note_of Misuses) status.Usage ended → Leaves ordered files out err ended
usage_ends ordered files out err ended asked took (inl e) = rw e.0 (asked, took, e.1)
usage_ends ordered files out err ended asked took (inr (inl e)) = rw e.0 (note_fails ordered files out err Misuses asked took e.1)
usage_ends ordered files out err ended asked took (inr (inr e)) = rw e.0 (note_stops ordered files out err Misuses asked took e.1)

pub cannot_read_ends : (ordered : Option Order) (files : FilesChange) (out err : SinkChange) (name : List ℕ) (ended : Status) → IsAsked ordered files (CannotRead name)
    → TookOutput out (CannotRead name) → EndsMade err (note_of (CannotRead name)) status.ReadFault ended → Leaves ordered files out err ended
cannot_read_ends ordered files out err name ended asked took (inl (inl e)) = rw e.0 (name, asked, took, e.1)
cannot_read_ends ordered files out err name ended asked took (inl (inr (inl e))) = rw e.0 (note_fails ordered files out err (CannotRead name) asked took e.1)
cannot_read_ends ordered files out err name ended asked took (inl (inr (inr e))) = rw e.0 (note_stops ordered files out err (CannotRead name) asked took e.1)
cannot_read_ends ordered files out err name ended asked took (inr e) = rw e.0 (note_lacks ordered files out err (CannotRead name) asked took e.1)

-- the output failed, and the note of that was tried
pub write_fault_ends : (ordered : Option Order) (files : FilesChange) (out err : SinkChange) (answer : Answer) (ended : Status) → IsAsked ordered files answer
    → Failed out (output_of answer) → EndsNoted err write_note status.WriteFault ended → Leaves ordered files out err ended
write_fault_ends ordered files out err answer ended asked failed (inl e) = rw e.0 (answer, asked, inl (failed, inl e.1))
write_fault_ends ordered files out err answer ended asked failed (inr (inl e)) = rw e.0 (answer, asked, inl (failed, inr e.1))
write_fault_ends ordered files out err answer ended asked failed (inr (inr e)) = rw e.0 (inr (answer, asked, failed.1), inr (inl e.1))

-- ---- the end of a run

finished_ends : (ordered : Option Order) (files : FilesChange) (out err : SinkChange) (e : Expected) (left : Status) → e.status ≡ status.Finished → e.note ≡ [] → IsAsked ordered files (Runs e)
    → TookOutput out (Runs e) → (left ≡ status.Finished) × Untouched err → Leaves ordered files out err left
finished_ends ordered files out err e left is none asked took ends = rw ends.0 (e, is, asked, took, subst (TookNoteOf err) (sym none) ends.1)

halted_ends : (ordered : Option Order) (files : FilesChange) (out err : SinkChange) (e : Expected) (left : Status) → e.status ≡ status.BudgetEnded → e.note ≡ budget_note → IsAsked ordered files (Runs e)
    → TookOutput out (Runs e) → EndsNoted err budget_note status.BudgetEnded left → Leaves ordered files out err left
halted_ends ordered files out err e left is note asked took (inl x) = rw x.0 (e, is, asked, took, subst (TookNoteOf err) (sym note) x.1)
halted_ends ordered files out err e left is note asked took (inr (inl x)) = rw x.0 (note_fails ordered files out err (Runs e) asked took (subst (Failed err) (sym note) x.1))
halted_ends ordered files out err e left is note asked took (inr (inr x)) = rw x.0 (note_stops ordered files out err (Runs e) asked took (subst (TookFront err) (sym note) x.1))

thrown_ends : (ordered : Option Order) (files : FilesChange) (out err : SinkChange) (e : Expected) (l : Lists) (v : Value) (left : Status) → e.status ≡ status.Thrown → e.note ≡ uncaught_note l v
    → IsAsked ordered files (Runs e) → TookOutput out (Runs e) → EndsMade err (uncaught_note l v) status.Thrown left → Leaves ordered files out err left
thrown_ends ordered files out err e l v left is note asked took (inl (inl x)) = rw x.0 (e, is, asked, took, subst (TookNoteOf err) (sym note) x.1)
thrown_ends ordered files out err e l v left is note asked took (inl (inr (inl x))) = rw x.0 (note_fails ordered files out err (Runs e) asked took (subst (Failed err) (sym note) x.1))
thrown_ends ordered files out err e l v left is note asked took (inl (inr (inr x))) = rw x.0 (note_stops ordered files out err (Runs e) asked took (subst (TookFront err) (sym note) x.1))
thrown_ends ordered files out err e l v left is note asked took (inr x) = rw x.0 (note_lacks ordered files out err (Runs e) asked took x.1)

run_by : (ordered : Option Order) (files : FilesChange) (out err : SinkChange) (run : Run) (summary : List ℕ) (e : Expected) (end : Ending) (heap : HeapView) (left : Status) → e ≡ expected_of run summary
    → IsAsked ordered files (Runs e) → TookOutput out (Runs e) → ending_in end ≡ run.ending → HasLast (ending_in end) heap run.world → EndsBy end heap err left
    → Leaves ordered files out err left
run_by ordered files out err run summary e ending.Finished heap left same asked took is last ends =
    finished_ends ordered files out err e left (ap (λ (x : Expected). x.status) same ∙ ap ending_status (sym is)) (ap (λ (x : Expected). x.note) same ∙ ap (ending_note run.world.lists) (sym is)) asked took ends
run_by ordered files out err run summary e (ending.Thrown v) heap left same asked took is last ends =
    thrown_ends ordered files out err e run.world.lists v left (ap (λ (x : Expected). x.status) same ∙ ap ending_status (sym is)) (ap (λ (x : Expected). x.note) same ∙ ap (ending_note run.world.lists) (sym is)) asked took (ends run.world last)
run_by ordered files out err run summary e ending.Halted heap left same asked took is last ends =
    halted_ends ordered files out err e left (ap (λ (x : Expected). x.status) same ∙ ap ending_status (sym is)) (ap (λ (x : Expected). x.note) same ∙ ap (ending_note run.world.lists) (sym is)) asked took ends

pub run_noted : (ordered : Option Order) (files : FilesChange) (out err : SinkChange) (order : Order) (bytes : List ℕ) (tree : Tree) (ran : Ran) (left : Status)
    → IsAsked ordered files (Runs (expected order bytes tree)) → HasRun order bytes tree out ran → EndsRun ran err left → Leaves ordered files out err left
run_noted ordered files out err order bytes tree ran left asked has ends =
    run_by ordered files out err (run_of tree order.budget) (summary_of order.source bytes) (expected order bytes tree) ran.ending ran.heap left refl asked has.1 has.0.0 has.0.1 ends

-- ---- names

pub asks_nothing : (name : Option (List ℕ)) (names : List (List ℕ)) → AsksFor name names names
asks_nothing None names = refl
asks_nothing (Some name) names = inr refl
