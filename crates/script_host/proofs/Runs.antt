-- The run of a script between two lines, and its ends, over plain variables.
use Rattle.std.proofs.Common.{◌≡◌, ◌++◌, ◌∙◌, [], ℕ, List, Option, Some, None, Ok, Err, zero, suc, refl, sym, ap, subst}
use Rattle.std.specs.Io.KnownBytes.{Appends}
use Rattle.property_keys.specs.declared.values.Value.{Value}
use Rattle.es_tree.specs.Tree.{Tree}
use Rattle.es_model.specs.declared.answers.Completion.{Completion as Answered}
use Rattle.es_model.specs.declared.answers.Stop.TheVariants.{Halted}
use Rattle.es_model.specs.Changes.{printed_more}
use Rattle.es_model.specs.Completions.{Completion, Normal, Break, Continue, Return, Throw, answered}
use Rattle.es_model.specs.Grows.{HasPrinted}
use Rattle.es_model.specs.Outcomes.{world_of}
use Rattle.es_model.specs.Program.{Outcome, Ended, Halt, one_more, plus}
use Rattle.es_model.specs.StartWorld.{start_world}
use Rattle.es_model.specs.Unwinding.{Reaches}
use Rattle.es_model.specs.World.{World}
use Rattle.es_model.proofs.Carried.{world-plus}
use Rattle.es_model.proofs.Rests.{printed-more, printed-script}
use Rattle.es_model.proofs.Unwound.{reaches_same, reaches_then}
use Rattle.es_serve.specs.Lines.{line_bytes}
use Rattle.es_serve.specs.Run.{ending_of, run_of, script_outcome}
use Rattle.es_serve.specs.Run as run
use Rattle.hc_outside.specs.Causes.{Rises}
use Rattle.hc_outside.specs.Sinks.{AppendsFront}
use Rattle.hc_outside.proofs.Fronts.{front_after}
use Rattle.object_heap.specs.Stands.{HaltsWithin, HeapView, StandsFor, goes_printed}
use Rattle.dispatcher.specs.declared.dispatching.Dispatcher.{Dispatcher}
use Rattle.dispatcher.specs.declared.dispatching.Event.TheVariants.{Prints, Ends}
use Rattle.dispatcher.specs.Dispatching.{ComesTo, HasStepsLeft, outcome_left}
use Rattle.dispatcher.proofs.Printing.{prints-on}
use Rattle.script_host.specs.declared.running.Ending.{Ending}
use Rattle.script_host.specs.declared.running.Ending.TheVariants as ending_is
use Rattle.script_host.specs.declared.running.HostStop.{HostStop}
use Rattle.script_host.specs.declared.running.HostStop.TheVariants.{WriteFault, NoMemory}
use Rattle.script_host.specs.Running.{HasLast, IsAtStart, RunsTo, TakesLine, answer_ending, ended, printed_by}
use Rattle.script_host.specs.Sinks.{SinkChange, SinkView, TookFront, TookLine, Wrote, change}
use Rattle.script_host.proofs.Written.{is_line, wrote_more}
use Rattle.script_host.proofs.Settled.{appends_nothing}

-- The heap stands for a world, what the dispatcher has before it is all that is left of the run from there, and the output has what was printed up to there.
pub record StandsRun (script : Tree) (budget : ℕ) (heap : HeapView) (d : Dispatcher) (out : SinkChange) : Type 0 where
  pub world : World
  pub same : world.script ≡ script
  pub stands : StandsFor heap world
  pub reached : Reaches (script_outcome script budget) (outcome_left script d world)
  pub steps : HasStepsLeft script d world
  pub wrote : Wrote out world.printed

pub run_starts : (script : Tree) (budget : ℕ) (heap : HeapView) (d : Dispatcher) (s : SinkView) → IsAtStart script budget heap d → StandsRun script budget heap d (change s s)
run_starts script budget heap d s point = record {
  world = start_world script budget;
  same = refl;
  stands = point.stands;
  reached = reaches_same _ _ (sym point.left);
  steps = point.steps;
  wrote = record { lines = []; are = (tt, refl); faults = refl; held = appends_nothing s.held; writes = refl; flushes = refl };
}

-- ---- what is printed later

-- the last world of an outcome that goes on from here has what is printed here, and more
prints-later : (script : Tree) (budget : ℕ) (d : Dispatcher) (w : World) → Reaches (script_outcome script budget) (outcome_left script d w) → HasPrinted w (world_of (script_outcome script budget))
prints-later script budget d w e =
    let later = prints-on script d w in
    (later.0, ap (λ (o : Outcome). (world_of o).printed) e.same ∙ ap (λ (v : World). v.printed) (world-plus e.served (outcome_left script d w)) ∙ later.1)

front_of_part : (old new : Option (List ℕ)) (part rest all : List ℕ) → all ≡ part ++ rest → Appends old new part → AppendsFront old new all
front_of_part None new part rest all e whole = tt
front_of_part (Some xs) None part rest all e whole = whole
front_of_part (Some xs) (Some ys) part rest all e whole = (part, rest, e, whole)

-- what was written so far is a front of all that is printed
pub run_front : (script : Tree) (budget : ℕ) (heap : HeapView) (d : Dispatcher) (out : SinkChange) → StandsRun script budget heap d out → TookFront out (printed_by script budget)
run_front script budget heap d out point =
    let later = prints-later script budget d point.world point.reached in
    front_of_part out.old.held out.new.held point.world.printed later.0 (printed_by script budget) later.1 point.wrote.held

-- ---- a line

-- after a line was written
pub run_goes_on : (script : Tree) (budget : ℕ) (a b : HeapView) (d e : Dispatcher) (line : List Value) (s t u : SinkView) → (point : StandsRun script budget a d (change s t))
    → ComesTo script (outcome_left script d point.world) a b point.world (Ok (Prints line e)) → ((w : World) → StandsFor b w → TookLine (change t u) (line_bytes w.lists line))
    → StandsRun script budget b e (change s u)
run_goes_on script budget a b d e line s t u point (v, goes, stays, reached, steps) took =
    let bytes : List ℕ = line_bytes v.lists line in record {
      world = printed_more v bytes;
      same = printed-script v bytes ∙ stays.script ∙ point.same;
      stands = (goes_printed b v bytes goes.stands).stands;
      reached = reaches_then _ _ _ point.reached reached;
      steps = steps;
      wrote = wrote_more s t u point.world.printed bytes (printed_more v bytes).printed (printed-more v bytes ∙ ap (λ x. x ++ bytes) stays.printed) point.wrote (is_line v.lists line) (took v goes.stands);
    }

line-front : (script : Tree) (budget : ℕ) (a b : HeapView) (d e : Dispatcher) (line : List Value) (s t u : SinkView) → (point : StandsRun script budget a d (change s t))
    → (comes : ComesTo script (outcome_left script d point.world) a b point.world (Ok (Prints line e))) → AppendsFront t.held u.held (line_bytes comes.0.lists line)
    → AppendsFront s.held u.held (printed_by script budget)
line-front script budget a b d e line s t u point (v, goes, stays, reached, steps) front =
    let bytes : List ℕ = line_bytes v.lists line in
    let later = prints-later script budget e (printed_more v bytes) (reaches_then _ _ _ point.reached reached) in
    let parts : printed_by script budget ≡ point.world.printed ++ bytes ++ later.0 =
    later.1 ∙ ap (λ x. x ++ later.0) (printed-more v bytes ∙ ap (λ x. x ++ bytes) stays.printed) in
    front_after s.held t.held u.held point.world.printed bytes later.0 (printed_by script budget) parts point.wrote.held front

-- a line that was not written whole
pub run_line_stops : (script : Tree) (budget : ℕ) (a b : HeapView) (d e : Dispatcher) (line : List Value) (s t u : SinkView) (stop : HostStop) → (point : StandsRun script budget a d (change s t))
    → ComesTo script (outcome_left script d point.world) a b point.world (Ok (Prints line e)) → ((w : World) → StandsFor b w → TakesLine (line_bytes w.lists line) (change t u) (Err stop))
    → RunsTo script budget (change s u) (Err stop)
run_line_stops script budget a b d e line s t u WriteFault point comes takes =
    let failed = takes comes.0 comes.1.stands in
    (subst (λ n. Rises n u.faults) point.wrote.faults failed.0, line-front script budget a b d e line s t u point comes failed.1)
run_line_stops script budget a b d e line s t u NoMemory point comes takes =
    let left = takes comes.0 comes.1.stands in
    (left.0 ∙ point.wrote.faults, line-front script budget a b d e line s t u point comes left.1)

-- ---- the end

ending-one_more : (o : Outcome) → ending_of (one_more o) ≡ ending_of o
ending-one_more (Ended (Normal r) w n) = refl
ending-one_more (Ended Break w n) = refl
ending-one_more (Ended Continue w n) = refl
ending-one_more (Ended (Return v) w n) = refl
ending-one_more (Ended (Throw v) w n) = refl
ending-one_more (Halt w n) = refl

ending-plus : (n : ℕ) (o : Outcome) → ending_of (plus n o) ≡ ending_of o
ending-plus zero o = refl
ending-plus (suc n) o = ending-one_more (plus n o) ∙ ending-plus n o

ending-answer : (c : Completion) (w : World) (n : ℕ) → ending_of (Ended c w n) ≡ answer_ending c
ending-answer (Normal r) w n = refl
ending-answer Break w n = refl
ending-answer Continue w n = refl
ending-answer (Return v) w n = refl
ending-answer (Throw v) w n = refl

last-stands : (c : Completion) (heap : HeapView) (w : World) → StandsFor heap w → HasLast (answer_ending c) heap w
last-stands (Normal r) heap w h = h
last-stands Break heap w h = h
last-stands Continue heap w h = h
last-stands (Return v) heap w h = h
last-stands (Throw v) heap w h = h

-- an outcome that all of the run comes to
ends-as : (script : Tree) (budget : ℕ) (o : Outcome) → Reaches (script_outcome script budget) o
    → ((run_of script budget).ending ≡ ending_of o) × ((run_of script budget).world ≡ world_of o)
ends-as script budget o e = (ap ending_of e.same ∙ ending-plus e.served o, ap world_of e.same ∙ world-plus e.served o)

-- all that is printed is written
wrote-all : (script : Tree) (budget : ℕ) (out : SinkChange) (w v : World) → Wrote out w.printed → v.printed ≡ w.printed → (run_of script budget).world ≡ v → Wrote out (printed_by script budget)
wrote-all script budget out w v wrote stays last = subst (Wrote out) (sym (ap (λ (x : World). x.printed) last ∙ stays)) wrote

pub run_ends : (script : Tree) (budget : ℕ) (a b : HeapView) (d : Dispatcher) (c : Answered) (ending : Ending) (out : SinkChange) → (point : StandsRun script budget a d out)
    → ComesTo script (outcome_left script d point.world) a b point.world (Ok (Ends c)) → ended ending ≡ answer_ending (answered c)
    → RunsTo script budget out (Ok (record { ending = ending; heap = b }))
run_ends script budget a b d c ending out point (v, goes, stays, reached) is =
    let ends = ends-as script budget (Ended (answered c) v 0) (reaches_then _ _ _ point.reached reached) in
    let last : HasLast (ended ending) b v = subst (λ x. HasLast x b v) (sym is) (last-stands (answered c) b v goes.stands) in (
      (
        is ∙ sym (ends.0 ∙ ending-answer (answered c) v 0),
        subst (λ x. HasLast (ended ending) b x) (sym ends.1) last,
      ),
      wrote-all script budget out point.world v point.wrote stays.printed ends.1,
    )

pub run_halts : (script : Tree) (budget : ℕ) (a b : HeapView) (d : Dispatcher) (out : SinkChange) → (point : StandsRun script budget a d out)
    → ComesTo script (outcome_left script d point.world) a b point.world (Err Halted)
    → RunsTo script budget out (Ok (record { ending = ending_is.Halted; heap = b }))
unfolding HaltsWithin
run_halts script budget a b d out point (v, halts, stays, reached) =
    let ends = ends-as script budget (Halt v 0) (reaches_then _ _ _ point.reached reached) in
    let last : HasLast run.Halted b v = (halts.within.0, halts.within.1.stands) in (
      (
        sym ends.0,
        subst (λ x. HasLast run.Halted b x) (sym ends.1) last,
      ),
      wrote-all script budget out point.world v point.wrote stays.printed ends.1,
    )
