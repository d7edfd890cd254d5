-- The machine keeps worlds sound, over plain variables.
use Rattle.std.proofs.Common.{◌≡◌, ℕ, ◌≤◌, Bool, true, List, [], ◌∷◌, ◌++◌, length, take, drop, Option, Some, None, Result, Ok, Err, refl, sym, ◌∙◌, ap, subst}
use Rattle.std.specs.Prelude.{is_some}
use Rattle.std.proofs.Math.Seq.{take-length}
use Rattle.std.proofs.lemmas.List.{take-append-le, take-append-drop, length-take-le}
use Rattle.property_keys.specs.declared.identifiers.ObjectId.{ObjectId}
use Rattle.es_tree.specs.declared.facts.FunctionFacts.{FunctionFacts}
use Rattle.es_tree.specs.Tree.{Tree}
use Rattle.es_model.specs.declared.answers.Completion.{Completion as Answer}
use Rattle.es_model.specs.declared.answers.Stop.{Stop}
use Rattle.es_model.specs.declared.answers.Stop.TheVariants.{Halted, NoMemory}
use Rattle.es_model.specs.declared.answers.Turn.{Turn}
use Rattle.es_model.specs.declared.answers.Turn.TheVariants.{Ask, Done}
use Rattle.es_model.specs.declared.kinds.CellNo.{CellNo}
use Rattle.es_model.specs.declared.requests.Request.{Request}
use Rattle.es_model.specs.declared.running.Running.{Running}
use Rattle.es_model.specs.Completions.{Completion, answered}
use Rattle.es_model.specs.Fits.{Fits, IsKnownCompletion, IsKnownRequest}
use Rattle.es_model.specs.Kept.{FitsTask, IsKept, IsKnownTask, IsLater}
use Rattle.es_model.specs.Known.{IfThere, IsObject}
use Rattle.es_model.specs.Program.{Program, done, part, Task}
use Rattle.es_model.specs.Sound.{IsSound}
use Rattle.es_model.specs.Stages.{Stage, AtEnd, AtHalt, AtAsk, AtPart, AtNest, AtPrint, stage_of, world_at}
use Rattle.es_model.specs.World.{Lists, World}
use Rattle.es_model.proofs.Keeping.{later_none, later_then}
use Rattle.es_model.proofs.KnownLater.{there-map, object-later}
use Rattle.object_heap.specs.Stands.{HeapView, StandsFor, Goes, goes_none, goes_then, halts_then}
use Rattle.function_objects.proofs.Constructed.{noted_kept}
use Rattle.object_heap.proofs.Turns.{IsKeptStage, kept_stage, later_stage}
use Rattle.evaluator.specs.declared.frames.Current.{Current}
use Rattle.evaluator.specs.declared.frames.Current.TheVariants.{At, EndedBy}
use Rattle.evaluator.specs.declared.frames.EvalFrame.{EvalFrame}
use Rattle.evaluator.specs.declared.frames.EvalFrame.TheVariants as frame
use Rattle.evaluator.specs.declared.frames.Next.{Next}
use Rattle.evaluator.specs.declared.frames.Next.TheVariants.{GoOn, Asks, Ends}
use Rattle.evaluator.specs.declared.frames.Pending.{Pending}
use Rattle.evaluator.specs.declared.items.Asked.{Asked}
use Rattle.evaluator.specs.declared.items.Ending.{Ending}
use Rattle.evaluator.specs.declared.items.Item.{Item}
use Rattle.evaluator.specs.declared.items.Item.TheVariants as item
use Rattle.evaluator.specs.declared.items.Job.{Job}
use Rattle.evaluator.specs.declared.items.Job.TheVariants as job
use Rattle.evaluator.specs.declared.items.Plan.TheVariants as plan
use Rattle.evaluator.specs.declared.items.StatementItem.{StatementItem}
use Rattle.evaluator.specs.Contexts.{Context, context, with_cells}
use Rattle.evaluator.specs.Entering.{Answers}
use Rattle.evaluator.specs.Frames.{IsStacked, Waiting}
use Rattle.evaluator.specs.Functions.{body_ended, constructed_end, ended_by, facts_of, note_by}
use Rattle.evaluator.specs.Machine.{IsInner, within}
use Rattle.evaluator.specs.Plans.{Plans, ended, item_program, job_program, statement_item, task_of}
use Rattle.evaluator.specs.Soundness.{FitsEnd, KeepsAsked, KeepsCurrent, KeepsFrame, KeepsItem, KeepsItems, KeepsRest, StaysSoundNext, StaysSoundTurn}
use Rattle.evaluator.proofs.Driven.{grown, outside, stacked-low}
use Rattle.evaluator.proofs.FunctionsKept.{body_end_known, constructed_end_known}
use Rattle.evaluator.proofs.TasksKept.{node-kept, round-kept, statements-kept}
use Rattle.evaluator.proofs.WordsKept.{completion-stays, object-stays}

-- ---- the items in later worlds, and with other cells behind those that they see

made-later : (w v : World) (made : Option ObjectId) → IsLater w v → IfThere (IsObject w.lists) made → IfThere (IsObject v.lists) made
made-later w v made l h = there-map (IsObject w.lists) (IsObject v.lists) (object-later w.lists v.lists l.lists) made h

pub items_later : (here : Context) (w v : World) (ps : List Pending) → IsLater w v → KeepsItems here w ps → KeepsItems here v ps
items_later here w v [] l h = made-later w v here.body.constructs l h
items_later here w v (p ∷ ps) l h = (λ c u s later known. h.0 c u s (later_then w v u l later) known, items_later here w v ps l h.1)

-- what an item sees with more cells behind
sees-same : (here : Context) (more : List CellNo) (depth : ℕ) → depth ≤ length here.cells → within (with_cells here (here.cells ++ more)) depth ≡ within here depth
sees-same here more depth low = ap (with_cells here) (take-append-le depth here.cells more low)

items-more : (here : Context) (more : List CellNo) (v : World) (low : ℕ) (ps : List Pending) → IsStacked low ps (length here.cells) → KeepsItems here v ps → KeepsItems (with_cells here (here.cells ++ more)) v ps
items-more here more v low [] s h = h
items-more here more v low (p ∷ ps) s h = (
  λ c u su later known. subst (λ x. IsKept IsKnownCompletion (item_program x p.item c) u) (sym (sees-same here more p.depth (stacked-low p.depth ps (length here.cells) s.1))) (h.0 c u su later known),
  items-more here more v p.depth ps s.1 h.1,
)

items-fewer : (here : Context) (more : List CellNo) (v : World) (low : ℕ) (ps : List Pending) → IsStacked low ps (length here.cells) → KeepsItems (with_cells here (here.cells ++ more)) v ps → KeepsItems here v ps
items-fewer here more v low [] s h = h
items-fewer here more v low (p ∷ ps) s h = (
  λ c u su later known. subst (λ x. IsKept IsKnownCompletion (item_program x p.item c) u) (sees-same here more p.depth (stacked-low p.depth ps (length here.cells) s.1)) (h.0 c u su later known),
  items-fewer here more v p.depth ps s.1 h.1,
)

items-inner : (outer inner : Context) (v : World) (ps : List Pending) → IsInner outer inner → IsStacked 0 ps (length outer.cells) → KeepsItems outer v ps → KeepsItems inner v ps
items-inner outer inner v ps is s h =
    subst (λ x. KeepsItems x v ps) (ap (with_cells outer) (sym (grown outer.cells inner.cells is.front)) ∙ sym is.same) (items-more outer (drop (length outer.cells) inner.cells) v 0 ps s h)

pub items_cut : (here : Context) (depth : ℕ) (v : World) (ps : List Pending) → depth ≤ length here.cells → IsStacked 0 ps depth → KeepsItems here v ps → KeepsItems (within here depth) v ps
items_cut here depth v ps high s h =
    let cut : Context = within here depth in
    let long : length cut.cells ≡ depth = length-take-le depth here.cells high in
    items-fewer cut (drop depth here.cells) v 0 ps (subst (λ d. IsStacked 0 ps d) (sym long) s)
    (subst (λ l. KeepsItems (with_cells here l) v ps) (sym (take-append-drop depth here.cells)) h)

-- ---- a plan is followed

fits-job : (here : Context) (j : Job) (l : Lists) (c : Completion) → IsKnownCompletion l c → FitsTask (task_of here j) l c
fits-job here (job.Node name m) l c h = h
fits-job here (job.Round m) l c h = h
fits-job here (job.Statements list i) l c h = h

-- an item that waits for a part of a program that keeps worlds sound
item-waits : (inner : Context) (v : World) (t : Task) (k : Completion → Program) (j : Job) (rest : Completion → Program) → task_of inner j ≡ t → rest ≡ k → IsKept IsKnownCompletion (part t k) v →
    (c : Completion) (u : World) → IsSound u → IsLater v u → IsKnownCompletion u.lists c → IsKept IsKnownCompletion (rest c) u
item-waits inner v t k j rest is same h c u s later known =
    subst (λ (f : Completion → Program). IsKept IsKnownCompletion (f c) u) (sym same) (h.2 c u s later (subst (λ x. FitsTask x u.lists c) is (fits-job inner j u.lists c known)))

items-push : (here : Context) (v : World) (ps : List Pending) (p : Pending) → KeepsItems here v ps → KeepsItem here v p → KeepsItems here v (ps ++ p ∷ [])
items-push here v [] p h k = (k, h)
items-push here v (q ∷ qs) p h k = (h.0, items-push here v qs p h.1 k)

-- the items below, in the world after a plan and with the cells that are in force then
items-below : (outer inner : Context) (w v : World) (ps : List Pending) → IsInner outer inner → IsStacked 0 ps (length outer.cells) → IsLater w v → KeepsItems outer w ps → KeepsItems inner v ps
items-below outer inner w v ps is s later h = items-inner outer inner v ps is s (items_later outer w v ps later h)

-- where a program that keeps worlds sound stops, above items that do
abbrev pub Stopped : Context → World → List Pending → Stage → Type 0
Stopped inner w ps stage = IsLater w (world_at stage) × IsKeptStage IsKnownCompletion stage × KeepsItems inner (world_at stage) ps

pub stopped : (outer inner : Context) (p : Program) (w : World) (ps : List Pending) (before : ℕ) → IsInner outer inner → before ≡ length outer.cells → IsStacked 0 ps before → IsKept IsKnownCompletion p w → KeepsItems outer w ps →
    Stopped inner w ps (stage_of p w)
stopped outer inner p w ps before is long s kept items =
    let later : IsLater w (world_at (stage_of p w)) = later_stage p w in
    (later, kept_stage IsKnownCompletion p w kept, items-below outer inner w (world_at (stage_of p w)) ps is (subst (λ d. IsStacked 0 ps d) long s) later items)

pub wait_sound : (outer inner : Context) (old new : HeapView) (w : World) (stage : Stage) (ps qs : List Pending) (j : Job) (i : Item) (depth : ℕ) → depth ≡ length inner.cells →
    Stopped inner w ps stage → Plans outer inner old new w stage (Ok (plan.Wait j i)) →
    qs ≡ ps ++ record { item = i; depth = depth } ∷ [] → StaysSoundNext inner old new w qs (Ok (GoOn (At j)))
wait_sound outer inner old new w (AtPart t k v) ps qs j i depth long (later, kept, below) h pushed =
    let p : Pending = record { item = i; depth = depth } in
    let all : within inner depth ≡ inner = ap (λ m. with_cells inner (take m inner.cells)) long ∙ ap (with_cells inner) (take-length inner.cells) in
    let top : KeepsItem inner v p = λ c u s l known. subst (λ x. IsKept IsKnownCompletion (item_program x i c) u) (sym all) (item-waits inner v t k j (item_program inner i) h.0 h.1 kept c u s l known) in
    (v, h.2, later, (kept.0, subst (λ x. IsKnownTask v.script v.lists x) (sym h.0) kept.1), subst (λ l. KeepsItems inner v l) (sym pushed) (items-push inner v ps p below top))
wait_sound outer inner old new w (AtEnd c v) ps qs j i depth long s h pushed = absurd h
wait_sound outer inner old new w (AtHalt v) ps qs j i depth long s h pushed = absurd h
wait_sound outer inner old new w (AtAsk q k v) ps qs j i depth long s h pushed = absurd h
wait_sound outer inner old new w (AtNest p q v) ps qs j i depth long s h pushed = absurd h
wait_sound outer inner old new w (AtPrint y p v) ps qs j i depth long s h pushed = absurd h

pub enter_sound : (outer inner : Context) (old new : HeapView) (w : World) (stage : Stage) (ps qs : List Pending) (j : Job) (i : StatementItem) (depth d : ℕ) → IsInner outer inner → depth ≡ length outer.cells →
    Stopped inner w ps stage → Plans outer inner old new w stage (Ok (plan.Enter j i d)) →
    qs ≡ ps ++ record { item = item.Statement i; depth = depth } ∷ [] → StaysSoundNext inner old new w qs (Ok (GoOn (At j)))
enter_sound outer inner old new w (AtPart t k v) ps qs j i depth d is long (later, kept, below) h pushed =
    let p : Pending = record { item = item.Statement i; depth = depth } in
    let top : KeepsItem inner v p = λ c u s l known. subst (λ x. IsKept IsKnownCompletion (statement_item x i c) u) (sym (outside outer inner depth is long)) (item-waits inner v t k j (statement_item outer i) h.0 h.1 kept c u s l known) in
    (v, h.3, later, (kept.0, subst (λ x. IsKnownTask v.script v.lists x) (sym h.0) kept.1), subst (λ l. KeepsItems inner v l) (sym pushed) (items-push inner v ps p below top))
enter_sound outer inner old new w (AtEnd c v) ps qs j i depth d is long s h pushed = absurd h
enter_sound outer inner old new w (AtHalt v) ps qs j i depth d is long s h pushed = absurd h
enter_sound outer inner old new w (AtAsk q k v) ps qs j i depth d is long s h pushed = absurd h
enter_sound outer inner old new w (AtNest p q v) ps qs j i depth d is long s h pushed = absurd h
enter_sound outer inner old new w (AtPrint y p v) ps qs j i depth d is long s h pushed = absurd h

pub last_sound : (outer inner : Context) (old new : HeapView) (w : World) (stage : Stage) (ps : List Pending) (j : Job) → Stopped inner w ps stage → Plans outer inner old new w stage (Ok (plan.Last j)) →
    StaysSoundNext inner old new w ps (Ok (GoOn (At j)))
last_sound outer inner old new w (AtPart t k v) ps j (later, kept, below) h = (v, h.2, later, (kept.0, subst (λ x. IsKnownTask v.script v.lists x) (sym h.0) kept.1), below)
last_sound outer inner old new w (AtEnd c v) ps j s h = absurd h
last_sound outer inner old new w (AtHalt v) ps j s h = absurd h
last_sound outer inner old new w (AtAsk q k v) ps j s h = absurd h
last_sound outer inner old new w (AtNest p q v) ps j s h = absurd h
last_sound outer inner old new w (AtPrint y p v) ps j s h = absurd h

pub ask_sound : (outer inner : Context) (old new : HeapView) (w : World) (stage : Stage) (ps : List Pending) (q : Request) (i : Asked) → Stopped inner w ps stage → Plans outer inner old new w stage (Ok (plan.Ask q i)) →
    StaysSoundNext inner old new w ps (Ok (Asks q i))
ask_sound outer inner old new w (AtAsk p k v) ps q i (later, kept, below) h =
    let asks : KeepsAsked inner v q i = λ c u s l fits. subst (λ (f : Completion → Program). IsKept IsKnownCompletion (f c) u) (sym h.1) (kept.2 c u s l (subst (λ x. Fits u.lists x c) h.0 fits)) in
    (v, h.2, later, kept.0, subst (λ x. IsKnownRequest v.lists x) (sym h.0) kept.1, asks, below)
ask_sound outer inner old new w (AtEnd c v) ps q i s h = absurd h
ask_sound outer inner old new w (AtHalt v) ps q i s h = absurd h
ask_sound outer inner old new w (AtPart t k v) ps q i s h = absurd h
ask_sound outer inner old new w (AtNest p k v) ps q i s h = absurd h
ask_sound outer inner old new w (AtPrint y p v) ps q i s h = absurd h

pub end_sound : (outer inner : Context) (old new : HeapView) (w : World) (stage : Stage) (ps : List Pending) (e : Ending) → Stopped inner w ps stage → Plans outer inner old new w stage (Ok (plan.Ends e)) →
    StaysSoundNext inner old new w ps (Ok (GoOn (EndedBy e)))
end_sound outer inner old new w (AtEnd c v) ps e (later, kept, below) h = (v, h.1, later, (kept.0, subst (λ x. IsKnownCompletion v.lists x) (sym h.0) kept.1), below)
end_sound outer inner old new w (AtAsk p k v) ps e s h = absurd h
end_sound outer inner old new w (AtHalt v) ps e s h = absurd h
end_sound outer inner old new w (AtPart t k v) ps e s h = absurd h
end_sound outer inner old new w (AtNest p k v) ps e s h = absurd h
end_sound outer inner old new w (AtPrint y p v) ps e s h = absurd h

stop-stage : (outer inner here : Context) (old new : HeapView) (w : World) (stage : Stage) (ps : List Pending) (stop : Stop) → IsLater w (world_at stage) → IsKeptStage IsKnownCompletion stage → Plans outer inner old new w stage (Err stop) →
    StaysSoundNext here old new w ps (Err stop)
stop-stage outer inner here old new w stage ps NoMemory later kept h = tt
stop-stage outer inner here old new w (AtHalt v) ps Halted later kept h = (v, h, later, kept)
stop-stage outer inner here old new w (AtEnd c v) ps Halted later kept h = absurd h
stop-stage outer inner here old new w (AtAsk p k v) ps Halted later kept h = absurd h
stop-stage outer inner here old new w (AtPart t k v) ps Halted later kept h = absurd h
stop-stage outer inner here old new w (AtNest p k v) ps Halted later kept h = absurd h
stop-stage outer inner here old new w (AtPrint y p v) ps Halted later kept h = absurd h

pub stop_sound : (outer inner here : Context) (p : Program) (old new : HeapView) (w : World) (ps : List Pending) (stop : Stop) → IsKept IsKnownCompletion p w → Plans outer inner old new w (stage_of p w) (Err stop) →
    StaysSoundNext here old new w ps (Err stop)
stop_sound outer inner here p old new w ps stop kept h = stop-stage outer inner here old new w (stage_of p w) ps stop (later_stage p w) (kept_stage IsKnownCompletion p w kept) h

-- ---- a job, an end

pub job_kept : (here : Context) (w : World) (j : Job) → w.script ≡ here.script → KeepsCurrent here w (At j) → IsKept IsKnownCompletion (job_program here j) w
job_kept here w (job.Node name m) same h = subst (λ t. IsKept IsKnownCompletion (job_program (context t here.body here.cells) (job.Node name m)) w) same (node-kept w here.body here.cells name m h.0 h.1)
job_kept here w (job.Round m) same h = subst (λ t. IsKept IsKnownCompletion (job_program (context t here.body here.cells) (job.Round m)) w) same (round-kept w here.body here.cells m h.0 h.1)
job_kept here w (job.Statements list i) same h = subst (λ t. IsKept IsKnownCompletion (job_program (context t here.body here.cells) (job.Statements list i)) w) same (statements-kept w here.body here.cells list i h.0 h.1)

pub item_kept : (here : Context) (w : World) (p : Pending) (e : Ending) → KeepsItem here w p → KeepsCurrent here w (EndedBy e) → IsKept IsKnownCompletion (item_program (within here p.depth) p.item (ended e)) w
item_kept here w p e h k = h (ended e) w k.0 (later_none w) k.1

items-popped : (here : Context) (v : World) (ps : List Pending) (p : Pending) → KeepsItems here v (ps ++ p ∷ []) → KeepsItems here v ps × KeepsItem here v p
items-popped here v [] p h = (h.1, h.0)
items-popped here v (q ∷ qs) p h = let r = items-popped here v qs p h.1 in ((h.0, r.0), r.1)

pub items_popped : (here : Context) (v : World) (fs ps : List Pending) (p : Pending) → fs ≡ ps ++ p ∷ [] → KeepsItems here v fs → KeepsItems here v ps × KeepsItem here v p
items_popped here v fs ps p popped h = items-popped here v ps p (subst (λ l. KeepsItems here v l) popped h)

-- at the bottom of the items, the object that a constructor makes
items-bottom : (here : Context) (v : World) (ps : List Pending) → KeepsItems here v ps → IfThere (IsObject v.lists) here.body.constructs
items-bottom here v [] h = h
items-bottom here v (p ∷ ps) h = items-bottom here v ps h.1

note-kept : (constructs : Bool) (w : World) (script : Tree) (facts : Option FunctionFacts) (c : Completion) → IsSound w → ((v : World) → IsLater w v → FitsEnd constructs v.lists c) → IsKept (FitsEnd constructs) (note_by script facts (done c)) w
note-kept constructs w script None c s fits = (s, fits w (later_none w))
note-kept constructs w script (Some facts) c s fits = noted_kept (FitsEnd constructs) script facts (done c) w s (λ u su l. (su, fits u l))

end-kept : (w : World) (script : Tree) (body : Running) (made : Option ObjectId) (c : Completion) → IsSound w → IsKnownCompletion w.lists c → IfThere (IsObject w.lists) made → IsKept (FitsEnd (is_some made)) (ended_by script body made c) w
end-kept w script body None c s known there = (s, body_end_known w.lists c known)
end-kept w script body (Some o) c s known there =
    note-kept true w script (facts_of script body.function) (constructed_end o c) s (λ v l. constructed_end_known v.lists o c (object-stays w v l o there) (completion-stays w v l c known))

-- an end with no item that waits
pub body_sound : (here : Context) (a b : HeapView) (w : World) (ps qs : List Pending) (e : Ending) (answer : Answer) → Answers a b w (body_ended here (ended e)) answer → KeepsCurrent here w (EndedBy e) → KeepsItems here w ps →
    StaysSoundNext here a b w qs (Ok (Ends answer))
body_sound here a b w ps qs e answer (v, g, at) k items =
    let p : Program = body_ended here (ended e) in
    let P : Lists → Completion → Type 0 = FitsEnd (is_some here.body.constructs) in
    let kept : IsKept P p w = end-kept w here.script here.body here.body.constructs (ended e) k.0 k.1 (items-bottom here w ps items) in
    let stage : IsKeptStage P (AtEnd (answered answer) v) = subst (IsKeptStage P) at (kept_stage P p w kept) in
    let later : IsLater w v = subst (λ s. IsLater w (world_at s)) at (later_stage p w) in
    (v, g, later, stage.0, stage.1)

-- ---- the loop

pub sound_first : (here : Context) (a : HeapView) (w : World) (ps : List Pending) (now : Current) → StandsFor a w → KeepsCurrent here w now → KeepsItems here w ps → StaysSoundNext here a a w ps (Ok (GoOn now))
sound_first here a w ps now h k items = (w, goes_none a w h, later_none w, k, items)

sound-then : (here : Context) (a b c : HeapView) (w v : World) (ps : List Pending) (result : Result Next Stop) → Goes a b w v → IsLater w v → StaysSoundNext here b c v ps result → StaysSoundNext here a c w ps result
sound-then here a b c w v ps (Ok (GoOn now)) g l (u, h, m, k, items) = (u, goes_then a b c w v u g h, later_then w v u l m, k, items)
sound-then here a b c w v ps (Ok (Asks q i)) g l (u, h, m, s, known, asks, items) = (u, goes_then a b c w v u g h, later_then w v u l m, s, known, asks, items)
sound-then here a b c w v ps (Ok (Ends d)) g l (u, h, m, s, known) = (u, goes_then a b c w v u g h, later_then w v u l m, s, known)
sound-then here a b c w v ps (Err Halted) g l (u, h, m, i) = (u, halts_then a b c w v u g h, later_then w v u l m, i)
sound-then here a b c w v ps (Err NoMemory) g l h = tt

-- one more step, which came to this
pub sound_on : (script : Tree) (body : Running) (a b c : HeapView) (w : World) (cells1 cells2 : List CellNo) (ps1 ps2 : List Pending) (now1 : Current) (result next : Result Next Stop) → w.script ≡ script →
    StaysSoundNext (context script body cells1) a b w ps1 (Ok (GoOn now1)) → result ≡ next →
    ((v : World) → v.script ≡ script → StandsFor b v → KeepsCurrent (context script body cells1) v now1 → KeepsItems (context script body cells1) v ps1 → StaysSoundNext (context script body cells2) b c v ps2 result) →
    StaysSoundNext (context script body cells2) a c w ps2 next
sound_on script body a b c w cells1 cells2 ps1 ps2 now1 result next same (v, g, l, k, items) is step =
    sound-then (context script body cells2) a b c w v ps2 next g l (subst (λ x. StaysSoundNext (context script body cells2) b c v ps2 x) is (step v (l.script ∙ same) g.stands k items))

-- a frame that waits keeps what was asked and the items
pub sound_asks : (script : Tree) (body : Running) (a b : HeapView) (w : World) (cells : List CellNo) (ps : List Pending) (q : Request) (i : Asked) (f : Waiting) →
    f ≡ record { body = body; cells = cells; pending = ps; asked = i } → StaysSoundNext (context script body cells) a b w ps (Ok (Asks q i)) → StaysSoundTurn (is_some body.constructs) script a b w (Ok (Ask q (frame.Body f)))
sound_asks script body a b w cells ps q i f is (v, g, l, s, known, asks, items) =
    subst (λ x. StaysSoundTurn (is_some body.constructs) script a b w (Ok (Ask q (frame.Body x)))) (sym is) (v, g, l, s, known, (asks, items), refl)

pub sound_stops : (constructs : Bool) (script : Tree) (here : Context) (a b : HeapView) (w : World) (ps : List Pending) (stop : Stop) → StaysSoundNext here a b w ps (Err stop) → StaysSoundTurn constructs script a b w (Err stop)
sound_stops constructs script here a b w ps Halted h = h
sound_stops constructs script here a b w ps NoMemory h = tt

-- ---- a turn after a step

pub sound_turn_then : (constructs : Bool) (script : Tree) (a b c : HeapView) (w v : World) (result : Result (Turn EvalFrame) Stop) → Goes a b w v → IsLater w v → StaysSoundTurn constructs script b c v result →
    StaysSoundTurn constructs script a c w result
sound_turn_then constructs script a b c w v (Ok (Done d)) g l (u, h, m, s, known) = (u, goes_then a b c w v u g h, later_then w v u l m, s, known)
sound_turn_then constructs script a b c w v (Ok (Ask q f)) g l (u, h, m, s, known, kept, same) = (u, goes_then a b c w v u g h, later_then w v u l m, s, known, kept, same)
sound_turn_then constructs script a b c w v (Err Halted) g l (u, h, m, i) = (u, halts_then a b c w v u g h, later_then w v u l m, i)
sound_turn_then constructs script a b c w v (Err NoMemory) g l h = tt

pub sound_goes : (constructs : Bool) (script : Tree) (here : Context) (a b c : HeapView) (w : World) (ps : List Pending) (now : Current) (result : Result (Turn EvalFrame) Stop) → w.script ≡ script →
    StaysSoundNext here a b w ps (Ok (GoOn now)) →
    ((v : World) → v.script ≡ script → StandsFor b v → KeepsCurrent here v now → KeepsItems here v ps → StaysSoundTurn constructs script b c v result) → StaysSoundTurn constructs script a c w result
sound_goes constructs script here a b c w ps now result same (v, g, l, k, items) next = sound_turn_then constructs script a b c w v result g l (next v (l.script ∙ same) g.stands k items)

-- an answer that fits, in a later sound world, goes on with a frame
pub frame_goes_on : (script : Tree) (v : World) (q : Request) (f : EvalFrame) → KeepsFrame script v q f → (c : Completion) (u : World) → IsSound u → IsLater v u → Fits u.lists q c → KeepsRest script u f c
frame_goes_on script v q (frame.Body f) h c u s l fits = (h.0 c u s l fits, items_later (context script f.body f.cells) v u f.pending l h.1)
frame_goes_on script v q (frame.Constructing k) h c u s l fits = h c u s l fits
