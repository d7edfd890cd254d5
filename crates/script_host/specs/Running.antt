-- What a run of a script leaves.
use Rattle.std.specs.Prelude.{◌≡◌, ℕ, List, Result, Ok, Err}
use Rattle.es_tree.specs.Tree.{Tree}
use Rattle.es_model.specs.Completions.{Completion, Throw}
use Rattle.es_model.specs.StartWorld.{start_world}
use Rattle.es_model.specs.World.{World, with_turns}
use Rattle.es_serve.specs.Run.{Ending, Finished, Thrown, Halted, run_of, script_outcome}
use Rattle.hc_outside.specs.Causes.{Rises}
use Rattle.object_heap.specs.Stands.{HeapView, StandsFor}
use Rattle.dispatcher.specs.declared.dispatching.Dispatcher.{Dispatcher}
use Rattle.dispatcher.specs.Dispatching.{HasStepsLeft, outcome_left}
use Rattle.script_host.specs.declared.running.Ending.{Ending as EndingIs}
use Rattle.script_host.specs.declared.running.Ending.TheVariants as ending_is
use Rattle.script_host.specs.declared.running.HostStop.{HostStop}
use Rattle.script_host.specs.declared.running.HostStop.TheVariants.{WriteFault, NoMemory}
use Rattle.script_host.specs.declared.running.Ran.{Ran}
use Rattle.script_host.specs.Sinks.{SinkChange, Failed, TookFront, TookLine, Wrote}

-- ---- the end

-- the ending that the code gives, as the run has it
abbrev pub ended : EndingIs → Ending
ended ending_is.Finished = Finished
ended (ending_is.Thrown v) = Thrown v
ended ending_is.Halted = Halted

abbrev pub answer_ending : Completion → Ending
answer_ending (Throw v) = Thrown v
answer_ending other = Finished

-- the heap has the last world; after a halt the turns that are left are not compared
abbrev pub HasLast : Ending → HeapView → World → Type 0
HasLast Finished heap w = StandsFor heap w
HasLast (Thrown v) heap w = StandsFor heap w
HasLast Halted heap w = (left : ℕ) × StandsFor heap (with_turns w left)

-- the ending and the last world are the run's
abbrev pub EndsAs : Tree → ℕ → Ran → Type 0
EndsAs script budget ran = (ended ran.ending ≡ (run_of script budget).ending) × HasLast (ended ran.ending) ran.heap (run_of script budget).world

-- ---- what is printed

-- all that the run prints
abbrev pub printed_by : Tree → ℕ → List ℕ
printed_by script budget = (run_of script budget).world.printed

-- A line was written by one write. After a failure and for want of memory a front of it was.
abbrev pub TakesLine : List ℕ → SinkChange → Result (Unit {0}) HostStop → Type 0
TakesLine line out (Ok done) = TookLine out line
TakesLine line out (Err WriteFault) = Failed out line
TakesLine line out (Err NoMemory) = (out.new.faults ≡ out.old.faults) × TookFront out line

-- The run came to its end, and all that it prints was written, each line by one write. After a failure and for want of memory a front of it was.
abbrev pub RunsTo : Tree → ℕ → SinkChange → Result Ran HostStop → Type 0
RunsTo script budget out (Ok ran) = EndsAs script budget ran × Wrote out (printed_by script budget)
RunsTo script budget out (Err WriteFault) = Failed out (printed_by script budget)
RunsTo script budget out (Err NoMemory) = (out.new.faults ≡ out.old.faults) × TookFront out (printed_by script budget)

-- a heap that stands for the start world, and a dispatcher with the whole script before it
pub record IsAtStart (script : Tree) (budget : ℕ) (heap : HeapView) (d : Dispatcher) : Type 0 where
  pub stands : StandsFor heap (start_world script budget)
  pub left : outcome_left script d (start_world script budget) ≡ script_outcome script budget
  pub steps : HasStepsLeft script d (start_world script budget)

-- a call that writes failed where the count rose; in every other ending the count is as before
abbrev pub HasWriteCause : {T : Type 0} → ℕ → ℕ → Result T HostStop → Type 0
HasWriteCause before now (Ok value) = now ≡ before
HasWriteCause before now (Err WriteFault) = Rises before now
HasWriteCause before now (Err NoMemory) = now ≡ before
