-- The loop of the machine, over plain variables.
use Rattle.std.proofs.Common.{◌≡◌, ℕ, ◌+◌, ◌≤◌, List, length, Result, Ok, Err, refl, sym, ◌∙◌, ap, subst, arith}
use Rattle.es_tree.specs.Tree.{Tree}
use Rattle.es_model.specs.declared.answers.Completion.{Completion as Answer}
use Rattle.es_model.specs.declared.answers.Stop.{Stop}
use Rattle.es_model.specs.declared.answers.Stop.TheVariants.{Halted, NoMemory}
use Rattle.es_model.specs.declared.answers.Turn.{Turn}
use Rattle.es_model.specs.declared.answers.Turn.TheVariants.{Ask, Done}
use Rattle.es_model.specs.declared.kinds.CellNo.{CellNo}
use Rattle.es_model.specs.declared.requests.Request.{Request}
use Rattle.es_model.specs.declared.running.Running.{Running}
use Rattle.es_model.specs.Completions.{answered}
use Rattle.es_model.specs.World.{World}
use Rattle.es_model.specs.Program.{Program, Of, Outcome, Ended, Server, one_more, plus, after, run}
use Rattle.es_model.specs.Stages.{stage_of, outcome_at, world_at}
use Rattle.es_model.specs.Unwinding.{Reaches, Nears, Stays}
use Rattle.es_model.proofs.StageFacts.{outcome-stage}
use Rattle.es_model.proofs.Unwound.{plus-plus, reaches_then, nears_reaches, stays_none, stays_then, stage-stays}
use Rattle.object_heap.specs.Stands.{HeapView, StandsFor, Goes, goes_none, goes_then, halts_then}
use Rattle.object_heap.specs.Turns.{IsTurnOf}
use Rattle.evaluator.specs.declared.frames.Current.{Current}
use Rattle.evaluator.specs.declared.frames.Current.TheVariants.{At, EndedBy}
use Rattle.evaluator.specs.declared.frames.EvalFrame.{EvalFrame}
use Rattle.evaluator.specs.declared.frames.EvalFrame.TheVariants as frame
use Rattle.evaluator.specs.declared.frames.Next.{Next}
use Rattle.evaluator.specs.declared.frames.Next.TheVariants.{GoOn, Asks, Ends}
use Rattle.evaluator.specs.declared.frames.Pending.{Pending}
use Rattle.evaluator.specs.declared.items.Asked.{Asked}
use Rattle.evaluator.specs.Contexts.{Context, context}
use Rattle.evaluator.specs.Frames.{Waiting}
use Rattle.evaluator.specs.Machine.{IsNext, eval_rest, height, meaning, unwound}
use Rattle.evaluator.specs.Plans.{Plans, asked_program}
use Rattle.evaluator.proofs.Driven.{stop_next}

-- from the world at the start a world in which what is in hand is all that is left, and steps enough are left
abbrev pub Stood : ℕ → ℕ → Tree → Running → Server → ℕ → HeapView → HeapView → World → List CellNo → List Pending → Current → List CellNo → List Pending → Current → Type 0
Stood x most script body S n a b w cells ps now cells1 ps1 now1 =
    (v : World) × Goes a b w v × Stays w v
    × Nears x (height ps1 now1 + most) (meaning (context script body cells) S n ps now w) (meaning (context script body cells1) S n ps1 now1 v)

height-most : (ps : List Pending) (now : Current) → height ps now ≤ length ps + 2
height-most ps (At j) = omega arith
height-most ps (EndedBy e) = omega arith

pub stood_first : (left most : ℕ) (script : Tree) (body : Running) (S : Server) (n : ℕ) (a : HeapView) (w : World) (cells : List CellNo) (ps : List Pending) (now : Current) →
    most + length ps ≤ left → StandsFor a w → Stood (left + 3) most script body S n a a w cells ps now cells ps now
stood_first left most script body S n a w cells ps now all h =
    let high = height-most ps now in (w, goes_none a w h, stays_none w, record { served = 0; same = refl; falls = omega arith })

pub stood_on : (left less most : ℕ) (script : Tree) (body : Running) (S : Server) (n : ℕ) (a b c : HeapView) (w : World) (cells : List CellNo) (ps : List Pending) (now : Current) (cells1 cells2 : List CellNo) (ps1 ps2 : List Pending) (now1 now2 : Current) (result : Result Next Stop) →
    left ≡ less + 1 → w.script ≡ script → Stood (left + 3) most script body S n a b w cells ps now cells1 ps1 now1 → result ≡ Ok (GoOn now2) →
    ((v : World) → v.script ≡ script → StandsFor b v →
    IsNext (context script body cells2) S n (height ps1 now1) (meaning (context script body cells1) S n ps1 now1 v) b c v ps2 result) →
    Stood (less + 3) most script body S n a c w cells ps now cells2 ps2 now2
stood_on left less most script body S n a b c w cells ps now cells1 cells2 ps1 ps2 now1 now2 result one same (v, g, st, e) is next =
    let (u, h, sd, f) =
    subst (λ x. IsNext (context script body cells2) S n (height ps1 now1) (meaning (context script body cells1) S n ps1 now1 v) b c v ps2 x) is (next v (st.script ∙ same) g.stands) in
    let falls = e.falls in
    let falls' = f.falls in (
      u,
      goes_then a b c w v u g h,
      stays_then w v u st sd,
      record {
        served = e.served + f.served;
        same = e.same ∙ ap (plus e.served) f.same ∙ plus-plus e.served f.served (meaning (context script body cells2) S n ps2 now2 u);
        falls = omega arith;
      },
    )

-- a frame that waits stands for what is left
pub frame_turn : (script : Tree) (body : Running) (S : Server) (n : ℕ) (a c : HeapView) (w : World) (o : Outcome) (cells : List CellNo) (ps : List Pending) (q : Request) (i : Asked) (f : Waiting) →
    f ≡ record { body = body; cells = cells; pending = ps; asked = i } →
    ((v : World) × Goes a c w v × Stays w v
    × Reaches o (one_more (after (S n (Of q) v) (λ d u. unwound (context script body cells) S n ps (run S (asked_program (context script body cells) i d) n u))))) →
    IsTurnOf (eval_rest script) a c w S n o (Ok (Ask q (frame.Body f)))
frame_turn script body S n a c w o cells ps q i f is h = subst (λ x. IsTurnOf (eval_rest script) a c w S n o (Ok (Ask q (frame.Body x)))) (sym is) h

-- ---- a turn after another call, and after some parts

pub turn_then : (script : Tree) (a b c : HeapView) (w v : World) (S : Server) (n : ℕ) (o p : Outcome) (r : Result (Turn EvalFrame) Stop) → Goes a b w v → Stays w v → Reaches o p →
    IsTurnOf (eval_rest script) b c v S n p r → IsTurnOf (eval_rest script) a c w S n o r
turn_then script a b c w v S n o p (Ok (Done d)) g st e (u, h, su, f) = (u, goes_then a b c w v u g h, stays_then w v u st su, reaches_then o p _ e f)
turn_then script a b c w v S n o p (Ok (Ask q i)) g st e (u, h, su, f) = (u, goes_then a b c w v u g h, stays_then w v u st su, reaches_then o p _ e f)
turn_then script a b c w v S n o p (Err Halted) g st e (u, h, su, f) = (u, halts_then a b c w v u g h, stays_then w v u st su, reaches_then o p _ e f)
turn_then script a b c w v S n o p (Err NoMemory) g st e h = tt

-- where a step is the last
step_turn : (x : ℕ) (here : Context) (S : Server) (n : ℕ) (o : Outcome) (a b : HeapView) (w : World) (ps : List Pending) (stop : Stop) → IsNext here S n x o a b w ps (Err stop) →
    IsTurnOf (eval_rest here.script) a b w S n o (Err stop)
step_turn x here S n o a b w ps Halted h = h
step_turn x here S n o a b w ps NoMemory h = tt

pub err_turn : (x : ℕ) (script : Tree) (body : Running) (cells : List CellNo) (S : Server) (n : ℕ) (o : Outcome) (a b : HeapView) (w : World) (ps : List Pending) (stop : Stop) →
    IsNext (context script body cells) S n x o a b w ps (Err stop) → IsTurnOf (eval_rest script) a b w S n o (Err stop)
err_turn x script body cells S n o a b w ps stop h = step_turn x (context script body cells) S n o a b w ps stop h

pub stood_stops : (x most : ℕ) (script : Tree) (body : Running) (S : Server) (n : ℕ) (a b c : HeapView) (w : World) (cells : List CellNo) (ps : List Pending) (now : Current) (cells1 cells2 : List CellNo) (ps1 ps2 : List Pending) (now1 : Current) (stop : Stop) (result : Result Next Stop) →
    w.script ≡ script → Stood x most script body S n a b w cells ps now cells1 ps1 now1 → result ≡ Err stop →
    ((v : World) → v.script ≡ script → StandsFor b v →
    IsNext (context script body cells2) S n (height ps1 now1) (meaning (context script body cells1) S n ps1 now1 v) b c v ps2 result) →
    IsTurnOf (eval_rest script) a c w S n (meaning (context script body cells) S n ps now w) (Err stop)
stood_stops x most script body S n a b c w cells ps now cells1 cells2 ps1 ps2 now1 stop result same (v, g, st, e) is next =
    turn_then script a b c w v S n _ _ (Err stop) g st (nears_reaches _ _ _ _ e)
    (err_turn (height ps1 now1) script body cells2 S n _ b c v ps2 stop
    (subst (λ y. IsNext (context script body cells2) S n (height ps1 now1) (meaning (context script body cells1) S n ps1 now1 v) b c v ps2 y) is (next v (st.script ∙ same) g.stands)))

pub stood_asks : (x most : ℕ) (script : Tree) (body : Running) (S : Server) (n : ℕ) (a b c : HeapView) (w : World) (cells : List CellNo) (ps : List Pending) (now : Current) (cells1 cells2 : List CellNo) (ps1 ps2 : List Pending) (now1 : Current) (q : Request) (i : Asked) (result : Result Next Stop) →
    w.script ≡ script → Stood x most script body S n a b w cells ps now cells1 ps1 now1 → result ≡ Ok (Asks q i) →
    ((v : World) → v.script ≡ script → StandsFor b v →
    IsNext (context script body cells2) S n (height ps1 now1) (meaning (context script body cells1) S n ps1 now1 v) b c v ps2 result) →
    ((v : World) × Goes a c w v × Stays w v
    × Reaches (meaning (context script body cells) S n ps now w)
    (one_more (after (S n (Of q) v) (λ d u. unwound (context script body cells2) S n ps2 (run S (asked_program (context script body cells2) i d) n u)))))
stood_asks x most script body S n a b c w cells ps now cells1 cells2 ps1 ps2 now1 q i result same (v, g, st, e) is next =
    let (u, h, su, f) =
    subst (λ y. IsNext (context script body cells2) S n (height ps1 now1) (meaning (context script body cells1) S n ps1 now1 v) b c v ps2 y) is (next v (st.script ∙ same) g.stands) in
    (u, goes_then a b c w v u g h, stays_then w v u st su, reaches_then _ _ _ (nears_reaches _ _ _ _ e) f)

pub stood_ends : (x most : ℕ) (script : Tree) (body : Running) (S : Server) (n : ℕ) (a b c : HeapView) (w : World) (cells : List CellNo) (ps : List Pending) (now : Current) (cells1 cells2 : List CellNo) (ps1 ps2 : List Pending) (now1 : Current) (d : Answer) (result : Result Next Stop) →
    w.script ≡ script → Stood x most script body S n a b w cells ps now cells1 ps1 now1 → result ≡ Ok (Ends d) →
    ((v : World) → v.script ≡ script → StandsFor b v →
    IsNext (context script body cells2) S n (height ps1 now1) (meaning (context script body cells1) S n ps1 now1 v) b c v ps2 result) →
    (v : World) × Goes a c w v × Stays w v × Reaches (meaning (context script body cells) S n ps now w) (Ended (answered d) v 0)
stood_ends x most script body S n a b c w cells ps now cells1 cells2 ps1 ps2 now1 d result same (v, g, st, e) is next =
    let (u, h, su, f) =
    subst (λ y. IsNext (context script body cells2) S n (height ps1 now1) (meaning (context script body cells1) S n ps1 now1 v) b c v ps2 y) is (next v (st.script ∙ same) g.stands) in
    (u, goes_then a b c w v u g h, stays_then w v u st su, reaches_then _ _ _ (nears_reaches _ _ _ _ e) f)

-- the loop goes on from a step
pub step_goes : (x : ℕ) (script : Tree) (body : Running) (cells : List CellNo) (S : Server) (n : ℕ) (o : Outcome) (a b c : HeapView) (w : World) (ps : List Pending) (now : Current) (result : Result (Turn EvalFrame) Stop) → w.script ≡ script →
    IsNext (context script body cells) S n x o a b w ps (Ok (GoOn now)) →
    ((v : World) → v.script ≡ script → StandsFor b v → IsTurnOf (eval_rest script) b c v S n (meaning (context script body cells) S n ps now v) result) →
    IsTurnOf (eval_rest script) a c w S n o result
step_goes x script body cells S n o a b c w ps now result same (v, g, st, e) next =
    turn_then script a b c w v S n o _ result g st (nears_reaches _ _ _ _ e) (next v (st.script ∙ same) g.stands)

-- ---- an answer

pub asked_step : (x : ℕ) (here : Context) (S : Server) (n : ℕ) (a b : HeapView) (w : World) (p : Program) (ps qs : List Pending) (result : Result Next Stop) →
    (Stays w (world_at (stage_of p w)) → IsNext here S n x (unwound here S n ps (outcome_at S n (stage_of p w))) a b w qs result) →
    IsNext here S n x (unwound here S n ps (run S p n w)) a b w qs result
asked_step x here S n a b w p ps qs result next =
    subst (λ y. IsNext here S n x (unwound here S n ps y) a b w qs result) (sym (outcome-stage S n p w)) (next (stage-stays p w))

pub asked_stops : (script : Tree) (body : Running) (cells : List CellNo) (S : Server) (n : ℕ) (a b : HeapView) (w : World) (p : Program) (ps : List Pending) (stop : Stop) →
    Plans (context script body cells) (context script body cells) a b w (stage_of p w) (Err stop) → IsTurnOf (eval_rest script) a b w S n (unwound (context script body cells) S n ps (run S p n w)) (Err stop)
asked_stops script body cells S n a b w p ps stop h =
    let here : Context = context script body cells in
    err_turn 0 script body cells S n _ a b w ps stop (asked_step 0 here S n a b w p ps ps (Err stop) (λ st. stop_next 0 here here here S n a b w (stage_of p w) ps ps stop h st))
