-- The first turns of scripts, of bodies and of constructions, over plain variables: a call goes on at the same stage, in the world to which the heap has gone.
use Rattle.std.proofs.Common.{◌≡◌, ◌≤◌, ℕ, Bool, true, false, cond, Option, Some, None, List, [], ◌++◌, length, slice_get, Result, Ok, Err, refl, sym, ◌∙◌, ap, subst}
use Rattle.std.specs.Prelude.{codes, is_some}
use Rattle.std.proofs.lemmas.Option.{slice_get_within}
use Rattle.es_tree.specs.declared.body.Body.{Body}
use Rattle.es_tree.specs.declared.facts.FunctionFacts.{FunctionFacts}
use Rattle.es_tree.specs.declared.numbers.FunctionNo.{FunctionNo}
use Rattle.es_tree.specs.Tree.{Tree, top_names}
use Rattle.property_keys.specs.declared.identifiers.ObjectId.{ObjectId}
use Rattle.property_keys.specs.declared.keys.PropKey.TheVariants.{Name}
use Rattle.property_keys.specs.declared.values.Value.{Value}
use Rattle.property_keys.specs.declared.values.Value.TheVariants as value
use Rattle.es_model.specs.declared.answers.Completion.{Completion as Answer}
use Rattle.es_model.specs.declared.answers.Completion.TheVariants as answer
use Rattle.es_model.specs.declared.answers.Stop.{Stop}
use Rattle.es_model.specs.declared.answers.Stop.TheVariants.{Halted, NoMemory}
use Rattle.es_model.specs.declared.answers.Turn.{Turn}
use Rattle.es_model.specs.declared.answers.Turn.TheVariants.{Ask, Done}
use Rattle.es_model.specs.declared.kinds.CellNo.{CellNo}
use Rattle.es_model.specs.declared.intrinsics.Class.TheVariants as class
use Rattle.es_model.specs.declared.requests.Request.{Request}
use Rattle.es_model.specs.declared.requests.Request.TheVariants.{Call, Construct, Read}
use Rattle.es_model.specs.declared.running.Part.{Part}
use Rattle.es_model.specs.declared.running.Part.TheVariants as part_of
use Rattle.es_model.specs.declared.running.Running.{Running}
use Rattle.es_model.specs.Completions.{Completion, Throw, answered}
use Rattle.es_model.specs.Changes.{Interning, changed}
use Rattle.es_model.specs.Fits.{IsKnownCompletion}
use Rattle.es_model.specs.Known.{AreKnown, IfThere, IsKnown, IsObject}
use Rattle.es_model.specs.Kept.{FitsTask, IsKept, IsLater}
use Rattle.es_model.specs.Program.{Of, Program, Outcome, Server, Statements, Task, after, done, one_more, part, run}
use Rattle.es_model.specs.Sound.{IsSound}
use Rattle.es_model.specs.Stages.{AtAsk, AtEnd, AtHalt, AtPart, Stage, outcome_at, stage_of, world_at}
use Rattle.es_model.specs.Unwinding.{Stays}
use Rattle.es_model.specs.World.{World, new_object, number_of}
use Rattle.es_model.specs.programs.Abrupt.{or_throw}
use Rattle.es_model.proofs.Belonging.{names-stay}
use Rattle.es_model.proofs.StageFacts.{outcome-stage}
use Rattle.es_model.proofs.Unwound.{reaches_same, stage-stays, unwind-none}
use Rattle.object_heap.specs.Retains.{Retains}
use Rattle.object_heap.specs.Stands.{HeapView, StandsFor, Goes, goes_none}
use Rattle.object_heap.specs.Turns.{IsTurnOf}
use Rattle.object_heap.proofs.Turns.{IsKeptStage, kept_stage, later_stage}
use Rattle.function_objects.specs.Constructing.{constructed_world, noted_world, prototype_result, prototype_world, with_prototype}
use Rattle.function_objects.specs.Receivers.{bound_value, bound_world}
use Rattle.function_objects.proofs.Bound.{bound_stage}
use Rattle.function_objects.proofs.Constructed.{constructed_stage, noted_stage, prototype_later, prototype_stage}
use Rattle.evaluator.specs.declared.frames.Construction.{Construction}
use Rattle.evaluator.specs.declared.frames.Current.TheVariants.{At}
use Rattle.evaluator.specs.declared.frames.EvalFrame.{EvalFrame}
use Rattle.evaluator.specs.declared.frames.EvalFrame.TheVariants as frame
use Rattle.evaluator.specs.declared.frames.Pending.{Pending}
use Rattle.evaluator.specs.declared.items.Job.TheVariants as job
use Rattle.evaluator.specs.Contexts.{Context, context}
use Rattle.evaluator.specs.Entering.{Declares, Enters}
use Rattle.evaluator.specs.Functions.{body_ended, call_found, call_program, construct_answered, construct_failed, construct_found, construct_given, construct_on, construct_program, declare_functions, ended_by, enter_function, evaluate_found, facts_of, note_by, run_body, run_part, running, script_body, script_program}
use Rattle.evaluator.specs.Machine.{eval_rest, meaning, pending_rest}
use Rattle.evaluator.specs.Names.{NamesTurn, names_of_construction}
use Rattle.evaluator.specs.Scopes.{fresh_cells, world_with}
use Rattle.evaluator.specs.Soundness.{FitsEnd, KeepsConstruction, KeepsCurrent, KeepsItems, StaysSoundTurn, StopsKept}
use Rattle.evaluator.proofs.Belonging.{construction_named, heap_later}
use Rattle.evaluator.proofs.Entering.{cells_stage}
use Rattle.evaluator.proofs.FunctionsKept.{call_fits, call_program_kept, construct_fits, construct_program_kept, script-kept}
use Rattle.evaluator.proofs.Looped.{turn_then}
use Rattle.evaluator.proofs.Sounding.{sound_turn_then}

-- ---- the same stage

pub stays_on : (p q : Program) (w v : World) → stage_of p w ≡ stage_of q v → Stays w v
stays_on p q w v e =
    let before = stage-stays p w in
    let behind = stage-stays q v in record {
      script = sym behind.script ∙ ap (λ s. (world_at s).script) (sym e) ∙ before.script;
      printed = sym behind.printed ∙ ap (λ s. (world_at s).printed) (sym e) ∙ before.printed;
    }

pub later_on : (a b : HeapView) (p q : Program) (w v : World) → Retains a b → StandsFor a w → Goes a b w v → stage_of p w ≡ stage_of q v → IsLater w v
later_on a b p q w v r h g e = record { lists = heap_later a b w v r h g.stands; script = (stays_on p q w v e).script }

-- ---- the turn

pub turn_on : (script : Tree) (S : Server) (n : ℕ) (a b c : HeapView) (w v : World) (p q : Program) (r : Result (Turn EvalFrame) Stop) → Goes a b w v → stage_of p w ≡ stage_of q v →
    IsTurnOf (eval_rest script) b c v S n (run S q n v) r → IsTurnOf (eval_rest script) a c w S n (run S p n w) r
turn_on script S n a b c w v p q r g e h =
    turn_then script a b c w v S n (run S p n w) (run S q n v) r g (stays_on p q w v e) (reaches_same _ _ (outcome-stage S n p w ∙ ap (outcome_at S n) e ∙ sym (outcome-stage S n q v))) h

-- at its end
pub turn_ends : (script : Tree) (S : Server) (n : ℕ) (a b : HeapView) (w v : World) (p : Program) (d : Answer) → Goes a b w v → stage_of p w ≡ AtEnd (answered d) v → IsTurnOf (eval_rest script) a b w S n (run S p n w) (Ok (Done d))
turn_ends script S n a b w v p d g e = (v, g, stays_on p (done (answered d)) w v e, reaches_same _ _ (outcome-stage S n p w ∙ ap (outcome_at S n) e))

-- where a part is entered for which there is no turn
pub turn_stops : (script : Tree) (S : Server) (n : ℕ) (a b : HeapView) (w : World) (p : (Context → Program) → Program) (next : Context → Program) (inner : Context) (stop : Stop) → Enters a b w p inner (Err stop) →
    IsTurnOf (eval_rest script) a b w S n (run S (p next) n w) (Err stop)
turn_stops script S n a b w p next inner NoMemory h = tt
turn_stops script S n a b w p next inner Halted (v, g, e) =
    (v, g, subst (λ s. Stays w (world_at s)) (e next) (stage-stays (p next) w), reaches_same _ _ (outcome-stage S n (p next) w ∙ ap (outcome_at S n) (e next)))

-- the statements of a part, with no item that waits
pub turn_begins : (script : Tree) (body : Running) (cells : List CellNo) (list : Part) (S : Server) (n : ℕ) (a b : HeapView) (w : World) (r : Result (Turn EvalFrame) Stop) → StandsFor a w →
    IsTurnOf (eval_rest script) a b w S n (meaning (context script body cells) S n [] (At (job.Statements list 0)) w) r → IsTurnOf (eval_rest script) a b w S n (run S (run_part (context script body cells) list) n w) r
turn_begins script body cells list S n a b w r h t =
    let here : Context = context script body cells in
    let o : Outcome = S n (Statements body cells list 0) w in
    let e : run S (run_part here list) n w ≡ one_more (meaning here S n [] (At (job.Statements list 0)) w) =
    ap (λ x. one_more (after x (λ c u. run S (body_ended here c) n u))) (sym (unwind-none (pending_rest here S n) o)) in
    turn_then script a a b w w S n _ _ r (goes_none a w h) (record { script = refl; printed = refl }) (record { served = 1; same = e }) t

pub no_items : (script : Tree) (body : Running) (cells : List CellNo) (list : Part) (ps : List Pending) (S : Server) (n : ℕ) (a b : HeapView) (w : World) (r : Result (Turn EvalFrame) Stop) → ps ≡ [] →
    IsTurnOf (eval_rest script) a b w S n (meaning (context script body cells) S n ps (At (job.Statements list 0)) w) r → IsTurnOf (eval_rest script) a b w S n (meaning (context script body cells) S n [] (At (job.Statements list 0)) w) r
no_items script body cells list ps S n a b w r empty h = subst (λ l. IsTurnOf (eval_rest script) a b w S n (meaning (context script body cells) S n l (At (job.Statements list 0)) w) r) empty h

-- ---- soundness

pub stopped_on : (p q : Program) (w v : World) → stage_of p w ≡ stage_of q v → StopsKept p w → StopsKept q v
stopped_on p q w v e (t, r, u, kept, same) = (t, r, u, kept, same ∙ e)

stopped-at : (p : Program) (w : World) (s : Stage) → stage_of p w ≡ s → StopsKept p w → (t : Task) × IsKeptStage (FitsTask t) s
stopped-at p w s e (t, q, u, kept, same) = (t, subst (IsKeptStage (FitsTask t)) (same ∙ e) (kept_stage (FitsTask t) q u kept))

pub sound_on : (constructs : Bool) (script : Tree) (a b c : HeapView) (w v : World) (p q : Program) (r : Result (Turn EvalFrame) Stop) → Retains a b → StandsFor a w → Goes a b w v → stage_of p w ≡ stage_of q v →
    StaysSoundTurn constructs script b c v r → StaysSoundTurn constructs script a c w r
sound_on constructs script a b c w v p q r retains h g e turn = sound_turn_then constructs script a b c w v r g (later_on a b p q w v retains h g e) turn

-- at its end
pub sound_ends : (constructs : Bool) (script : Tree) (a b : HeapView) (w v : World) (p : Program) (d : Answer) → Goes a b w v → stage_of p w ≡ AtEnd (answered d) v → StopsKept p w →
    ((t : Task) → FitsTask t v.lists (answered d) → FitsEnd constructs v.lists (answered d)) → StaysSoundTurn constructs script a b w (Ok (Done d))
sound_ends constructs script a b w v p d g e kept fits =
    let (t, stage) = stopped-at p w (AtEnd (answered d) v) e kept in (v, g, subst (λ s. IsLater w (world_at s)) e (later_stage p w), stage.0, fits t stage.1)

-- where a part is entered for which there is no turn
pub sound_halts : (constructs : Bool) (script : Tree) (a b : HeapView) (w : World) (p : (Context → Program) → Program) (next : Context → Program) (inner : Context) (stop : Stop) → Enters a b w p inner (Err stop) → StopsKept (p next) w →
    StaysSoundTurn constructs script a b w (Err stop)
sound_halts constructs script a b w p next inner NoMemory h kept = tt
sound_halts constructs script a b w p next inner Halted (v, g, e) kept =
    let (t, intact) = stopped-at (p next) w (AtHalt v) (e next) kept in (v, g, subst (λ s. IsLater w (world_at s)) (e next) (later_stage (p next) w), intact)

-- where the statements of a part begin, what they name is there
pub part_kept : (here : Context) (list : Part) (w : World) → StopsKept (run_part here list) w → KeepsCurrent here w (At (job.Statements list 0))
part_kept here list w kept =
    let (t, stage) = stopped-at (run_part here list) w (AtPart (Statements here.body here.cells list 0) (body_ended here) w) refl kept in (stage.0, stage.1)

pub constructs_there : (here : Context) (list : Part) (w : World) → KeepsCurrent here w (At (job.Statements list 0)) → IfThere (IsObject w.lists) here.body.constructs
constructs_there here list w h = h.1.0.constructs

pub items_none : (here : Context) (list : Part) (w : World) (ps : List Pending) → ps ≡ [] → KeepsCurrent here w (At (job.Statements list 0)) → KeepsItems here w ps
items_none here list w ps empty h = subst (λ l. KeepsItems here w l) (sym empty) (constructs_there here list w h)

-- ---- the body of a function

pub body_throws : (here : Context) (f : FunctionNo) (facts : FunctionFacts) (code : Body) (vs : List Value) (w : World) → slice_get here.script.bodies f.0 ≡ Some code → code.arguments ≡ true →
    stage_of (run_body here f facts vs) w ≡ stage_of (body_ended here (Throw value.Undefined)) w
body_throws here f facts code vs w found names =
    ap (λ (x : Option Body). stage_of (evaluate_found here f facts x vs) w) found
    ∙ ap (λ (b : Bool). stage_of (cond b (body_ended here (Throw value.Undefined)) (enter_function here facts code vs (λ (x : Context). run_part x (part_of.Body f)))) w) names

pub body_enters : (here : Context) (f : FunctionNo) (facts : FunctionFacts) (code : Body) (vs : List Value) (w : World) → slice_get here.script.bodies f.0 ≡ Some code → code.arguments ≡ false →
    stage_of (run_body here f facts vs) w ≡ stage_of (enter_function here facts code vs (λ (x : Context). run_part x (part_of.Body f))) w
body_enters here f facts code vs w found names =
    ap (λ (x : Option Body). stage_of (evaluate_found here f facts x vs) w) found
    ∙ ap (λ (b : Bool). stage_of (cond b (body_ended here (Throw value.Undefined)) (enter_function here facts code vs (λ (x : Context). run_part x (part_of.Body f)))) w) names

pub enters_in : (script : Tree) (body : Running) (cells : List CellNo) (facts : FunctionFacts) (code : Body) (vs : List Value) (a b : HeapView) (w : World) (inner : Context) (r s : Result Unit Stop) → cells ≡ [] → r ≡ s →
    Enters a b w (enter_function (context script body cells) facts code vs) inner r → Enters a b w (enter_function (context script body []) facts code vs) inner s
enters_in script body cells facts code vs a b w inner r s none ends h =
    subst (λ l. Enters a b w (enter_function (context script body l) facts code vs) inner s) none (subst (λ x. Enters a b w (enter_function (context script body cells) facts code vs) inner x) ends h)

-- a stage, where it is an end, is that of a body
abbrev EndsBody : (constructs : Bool) → Stage → Type 0
EndsBody b (AtEnd c v) = FitsEnd b v.lists c
EndsBody b other = Unit {0}

noted-throw : (script : Tree) (facts : Option FunctionFacts) (w : World) → EndsBody true (stage_of (note_by script facts (done (Throw value.Undefined))) w)
noted-throw script None w = tt
noted-throw script (Some facts) w = tt

thrown-ends : (script : Tree) (body : Running) (made : Option ObjectId) (w : World) → EndsBody (is_some made) (stage_of (ended_by script body made (Throw value.Undefined)) w)
thrown-ends script body None w = tt
thrown-ends script body (Some o) w = noted-throw script (facts_of script body.function) w

-- the end of a body that throws undefined fits
pub thrown_fits : (here : Context) (w v : World) (d : Answer) → stage_of (body_ended here (Throw value.Undefined)) w ≡ AtEnd (answered d) v → FitsEnd (is_some here.body.constructs) v.lists (answered d)
thrown_fits here w v d e = subst (EndsBody (is_some here.body.constructs)) e (thrown-ends here.script here.body here.body.constructs w)

-- ---- the start of a script

pub script_stage : (script : Tree) (body : Running) (top cells : List CellNo) (w : World) → body ≡ script_body script → cells ≡ [] → top ≡ [] ++ fresh_cells (top_names script) w →
    stage_of (script_program script) w ≡ stage_of (declare_functions (context script body top) script.script.declared (run_part (context script body cells) part_of.Script)) (world_with (top_names script) w)
script_stage script body top cells w is none made =
    let u : World = world_with (top_names script) w in
    let rest : Running → List CellNo → List CellNo → Program = λ (b : Running) (l m : List CellNo). declare_functions (context script b l) script.script.declared (run_part (context script b m) part_of.Script) in
    cells_stage (top_names script) [] (λ (l : List CellNo). rest (script_body script) l []) w ∙ ap (λ l. stage_of (rest (script_body script) l []) u) (sym made) ∙ ap (λ m. stage_of (rest (script_body script) top m) u) (sym none)
    ∙ ap (λ b. stage_of (rest b top cells) u) (sym is)

-- the declared functions are those of the script
pub declares_in : (here : Context) (code own : Body) (a b : HeapView) (w : World) (r s : Result Unit Stop) → code ≡ own → r ≡ s → Declares here code.declared a b w r → Declares here own.declared a b w s
declares_in here code own a b w r s is ends h = subst (λ (x : Body). Declares here x.declared a b w s) is (subst (λ (x : Result Unit Stop). Declares here code.declared a b w x) ends h)

pub script_stopped : (script : Tree) (w : World) → w.script ≡ script → IsSound w → StopsKept (script_program script) w
script_stopped script w same sound =
    (Statements (script_body script) [] part_of.Script 0, script_program script, w, subst (λ (t : Tree). IsKept IsKnownCompletion (script_program t) w) same (script-kept w sound), refl)

-- the script's own code constructs nothing
pub script_turn : (script : Tree) (a b : HeapView) (w : World) (r : Result (Turn EvalFrame) Stop) (body : Running) → body ≡ script_body script → StaysSoundTurn (is_some body.constructs) script a b w r → StaysSoundTurn false script a b w r
script_turn script a b w r body is h = subst (λ (x : Running). StaysSoundTurn (is_some x.constructs) script a b w r) is h

-- ---- a call

pub call_none : (script : Tree) (f : FunctionNo) (callee : ObjectId) (this : Value) (vs : List Value) (w : World) → None ≡ slice_get script.functions f.0 → stage_of (call_program script f callee this vs) w ≡ AtEnd (Throw value.Undefined) w
call_none script f callee this vs w none = ap (λ (x : Option FunctionFacts). stage_of (call_found script f callee this vs x) w) (sym none)

pub call_stage : (script : Tree) (f : FunctionNo) (callee : ObjectId) (this : Value) (vs : List Value) (facts : FunctionFacts) (receiver : Value) (body : Running) (w : World) → Some facts ≡ slice_get script.functions f.0 →
    receiver ≡ bound_value facts.strict this w → body ≡ running f facts callee receiver None →
    stage_of (call_program script f callee this vs) w ≡ stage_of (run_body (context script body []) f facts vs) (bound_world facts.strict this w)
call_stage script f callee this vs facts receiver body w found is runs =
    let u : World = bound_world facts.strict this w in
    let next : Value → Program = λ (r : Value). run_body (context script (running f facts callee r None) []) f facts vs in
    ap (λ (x : Option FunctionFacts). stage_of (call_found script f callee this vs x) w) (sym found) ∙ bound_stage facts.strict this next w ∙ ap (λ r. stage_of (next r) u) (sym is)
    ∙ ap (λ (b : Running). stage_of (run_body (context script b []) f facts vs) u) (sym runs)

pub call_stopped : (script : Tree) (f : FunctionNo) (callee : ObjectId) (this : Value) (vs : List Value) (w : World) → w.script ≡ script → IsSound w → top_names script ≤ length w.lists.cells → IsObject w.lists callee → IsKnown w.lists this →
    AreKnown w.lists vs → StopsKept (call_program script f callee this vs) w
call_stopped script f callee this vs w same sound top there known all =
    let t : Task = Of (Call (value.Object callee) this vs) in
    (t, call_program script f callee this vs, w, call_program_kept t script w f callee this vs (call_fits (value.Object callee) this vs) same sound top there known all, refl)

-- the body of a call gives what a call gives
pub called_turn : (script : Tree) (a b : HeapView) (w : World) (r : Result (Turn EvalFrame) Stop) (f : FunctionNo) (facts : FunctionFacts) (callee : ObjectId) (this : Value) (made : Option ObjectId) (body : Running) →
    body ≡ running f facts callee this made → StaysSoundTurn (is_some body.constructs) script a b w r → StaysSoundTurn (is_some made) script a b w r
called_turn script a b w r f facts callee this made body is h = subst (λ (x : Running). StaysSoundTurn (is_some x.constructs) script a b w r) is h

-- ---- a construction

pub construct_none : (script : Tree) (f : FunctionNo) (callee : ObjectId) (vs : List Value) (target : ObjectId) (w : World) → None ≡ slice_get script.functions f.0 →
    stage_of (construct_program script f callee vs target) w ≡ AtEnd (Throw value.Undefined) w
construct_none script f callee vs target w none = ap (λ (x : Option FunctionFacts). stage_of (construct_found script f callee vs target x) w) (sym none)

pub answered_none : (script : Tree) (f : FunctionNo) (callee : ObjectId) (vs : List Value) (target : ObjectId) (c : Completion) (w : World) → None ≡ slice_get script.functions f.0 →
    stage_of (construct_answered script f callee vs target c) w ≡ AtEnd (Throw value.Undefined) w
answered_none script f callee vs target c w none = ap (λ (x : Option FunctionFacts). stage_of (construct_given script f callee vs target x c) w) (sym none)

-- the prototype of the new target is asked for
pub construct_asks : (script : Tree) (k : Construction) (q : Request) (facts : FunctionFacts) (w : World) → Some facts ≡ slice_get script.functions k.function.0 →
    q ≡ Read k.target (Name (number_of w.lists (codes "prototype"))) (value.Object k.target) None →
    stage_of (construct_program script k.function k.callee k.arguments k.target) w
    ≡ AtAsk q (construct_answered script k.function k.callee k.arguments k.target) (changed (Interning (codes "prototype")) w)
construct_asks script k q facts w found is =
    let u : World = changed (Interning (codes "prototype")) w in
    let rest : Option FunctionFacts → Completion → Program = λ (x : Option FunctionFacts) (c : Completion). construct_given script k.function k.callee k.arguments k.target x c in
    ap (λ (x : Option FunctionFacts). stage_of (construct_found script k.function k.callee k.arguments k.target x) w) (sym found) ∙ ap (λ p. AtAsk p (rest (Some facts)) u) (sym is) ∙ ap (λ x. AtAsk q (rest x) u) found

pub construct_turn : (script : Tree) (S : Server) (n : ℕ) (a b : HeapView) (w v : World) (p : Program) (q : Request) (k : Construction) → Goes a b w v →
    stage_of p w ≡ AtAsk q (construct_answered script k.function k.callee k.arguments k.target) v → IsTurnOf (eval_rest script) a b w S n (run S p n w) (Ok (Ask q (frame.Constructing k)))
construct_turn script S n a b w v p q k g e = (v, g, subst (λ s. Stays w (world_at s)) e (stage-stays p w), reaches_same _ _ (outcome-stage S n p w ∙ ap (outcome_at S n) e))

pub construct_sound : (script : Tree) (a b : HeapView) (w v : World) (q : Request) (k : Construction) → w.script ≡ script → IsSound w → top_names script ≤ length w.lists.cells → IsObject w.lists k.callee → AreKnown w.lists k.arguments →
    IsObject w.lists k.target → Goes a b w v →
    stage_of (construct_program script k.function k.callee k.arguments k.target) w ≡ AtAsk q (construct_answered script k.function k.callee k.arguments k.target) v →
    StaysSoundTurn true script a b w (Ok (Ask q (frame.Constructing k)))
construct_sound script a b w v q k same sound top callee all target g e =
    let p : Program = construct_program script k.function k.callee k.arguments k.target in
    let t : Task = Of (Construct k.callee k.arguments k.target) in
    let kept : IsKept (FitsTask t) p w = construct_program_kept t script w k.function k.callee k.arguments k.target (construct_fits k.callee k.arguments k.target) same sound top callee all target in
    let stage : IsKeptStage (FitsTask t) (AtAsk q (construct_answered script k.function k.callee k.arguments k.target) v) = subst (IsKeptStage (FitsTask t)) e (kept_stage (FitsTask t) p w kept) in
    (v, g, subst (λ s. IsLater w (world_at s)) e (later_stage p w), stage.0, stage.1, stage.2, refl)

pub construct_stopped : (script : Tree) (f : FunctionNo) (callee : ObjectId) (vs : List Value) (target : ObjectId) (w : World) → w.script ≡ script → IsSound w → top_names script ≤ length w.lists.cells → IsObject w.lists callee →
    AreKnown w.lists vs → IsObject w.lists target → StopsKept (construct_program script f callee vs target) w
construct_stopped script f callee vs target w same sound top there all known =
    let t : Task = Of (Construct callee vs target) in
    (t, construct_program script f callee vs target, w, construct_program_kept t script w f callee vs target (construct_fits callee vs target) same sound top there all known, refl)

-- what it names is there in each world that the heap stands for
pub construct_named : (script : Tree) (a b : HeapView) (w v : World) (q : Request) (k : Construction) (facts : FunctionFacts) → Some facts ≡ slice_get script.functions k.function.0 →
    q ≡ Read k.target (Name (number_of w.lists (codes "prototype"))) (value.Object k.target) None → top_names script ≤ length w.lists.cells → IsObject w.lists k.callee → AreKnown w.lists k.arguments → IsObject w.lists k.target →
    Retains a b → StandsFor a w → StandsFor b v → NamesTurn script v.lists (Ok (Ask q (frame.Constructing k)))
construct_named script a b w v q k facts found is top callee all target r h hv =
    subst (λ x. NamesTurn script v.lists (Ok (Ask x (frame.Constructing k)))) (sym is)
    (tt, names-stay script (names_of_construction k) w.lists v.lists (heap_later a b w v r h hv) (construction_named script w.lists k top (slice_get_within script.functions k.function.0 facts (sym found)) callee all target))

-- ---- the body of a constructor

pub construct_stage : (script : Tree) (f : FunctionNo) (facts : FunctionFacts) (callee : ObjectId) (vs : List Value) (proto o : ObjectId) (body : Running) (w : World) → w.script ≡ script → o ≡ new_object w.lists →
    body ≡ running f facts callee (value.Object o) (Some o) →
    stage_of (construct_on script f facts callee vs proto) w ≡ stage_of (run_body (context script body []) f facts vs) (constructed_world facts proto w)
construct_stage script f facts callee vs proto o body w same is runs =
    let u : World = constructed_world facts proto w in
    let next : ObjectId → Program = λ (p : ObjectId). run_body (context script (running f facts callee (value.Object p) (Some p)) []) f facts vs in
    constructed_stage script facts proto next w same ∙ ap (λ p. stage_of (next p) u) (sym is) ∙ ap (λ (b : Running). stage_of (run_body (context script b []) f facts vs) u) (sym runs)

-- ---- with the answer

answered-as : (script : Tree) (f : FunctionNo) (facts : FunctionFacts) (callee : ObjectId) (vs : List Value) (target : ObjectId) (c : Completion) (w : World) (r : Result ObjectId Completion) → Some facts ≡ slice_get script.functions f.0 →
    r ≡ prototype_result class.Object target c w →
    stage_of (construct_answered script f callee vs target c) w ≡ stage_of (with_prototype (construct_on script f facts callee vs) (construct_failed script facts) r) (prototype_world target c w)
answered-as script f facts callee vs target c w r found is =
    ap (λ (x : Option FunctionFacts). stage_of (construct_given script f callee vs target x c) w) (sym found) ∙ prototype_stage class.Object target (construct_on script f facts callee vs) (construct_failed script facts) c w
    ∙ ap (λ x. stage_of (with_prototype (construct_on script f facts callee vs) (construct_failed script facts) x) (prototype_world target c w)) (sym is)

pub answered_goes : (script : Tree) (f : FunctionNo) (facts : FunctionFacts) (callee : ObjectId) (vs : List Value) (target : ObjectId) (c : Completion) (w : World) (r : Result ObjectId Value) (proto : ObjectId) → Some facts ≡ slice_get script.functions f.0 →
    or_throw r ≡ prototype_result class.Object target c w → r ≡ Ok proto →
    stage_of (construct_answered script f callee vs target c) w ≡ stage_of (construct_on script f facts callee vs proto) (prototype_world target c w)
answered_goes script f facts callee vs target c w r proto found is fine = answered-as script f facts callee vs target c w (Ok proto) found (sym (ap or_throw fine) ∙ is)

pub answered_throws : (script : Tree) (f : FunctionNo) (facts : FunctionFacts) (callee : ObjectId) (vs : List Value) (target : ObjectId) (c : Completion) (w : World) (r : Result ObjectId Value) (thrown : Value) → w.script ≡ script →
    Some facts ≡ slice_get script.functions f.0 → or_throw r ≡ prototype_result class.Object target c w → r ≡ Err thrown →
    stage_of (construct_answered script f callee vs target c) w ≡ AtEnd (Throw thrown) (noted_world facts (prototype_world target c w))
answered_throws script f facts callee vs target c w r thrown same found is fails =
    let u : World = prototype_world target c w in
    answered-as script f facts callee vs target c w (Err (Throw thrown)) found (sym (ap or_throw fails) ∙ is) ∙ noted_stage script facts (done (Throw thrown)) u ((prototype_later target c w).script ∙ same)

pub construction_stopped : (script : Tree) (w : World) (k : Construction) (c : Completion) → KeepsConstruction script w k c → StopsKept (construct_answered script k.function k.callee k.arguments k.target c) w
construction_stopped script w k c kept = (Of (Construct k.callee k.arguments k.target), construct_answered script k.function k.callee k.arguments k.target c, w, kept, refl)

-- what a construction throws is there
pub throw_sound : (script : Tree) (a b : HeapView) (w v : World) (k : Construction) (c : Completion) (thrown : Value) → KeepsConstruction script w k c → Goes a b w v →
    stage_of (construct_answered script k.function k.callee k.arguments k.target c) w ≡ AtEnd (Throw thrown) v → StaysSoundTurn true script a b w (Ok (Done (answer.Throw thrown)))
throw_sound script a b w v k c thrown kept g e =
    let p : Program = construct_answered script k.function k.callee k.arguments k.target c in
    let t : Task = Of (Construct k.callee k.arguments k.target) in
    let stage : IsKeptStage (FitsTask t) (AtEnd (Throw thrown) v) = subst (IsKeptStage (FitsTask t)) e (kept_stage (FitsTask t) p w kept) in
    (v, g, subst (λ s. IsLater w (world_at s)) e (later_stage p w), stage.0, stage.1)
