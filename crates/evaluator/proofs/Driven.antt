-- Steps of the machine, over plain variables.
use Rattle.std.proofs.Common.{◌≡◌, ℕ, ◌+◌, ◌≤◌, List, [], ◌∷◌, ◌++◌, length, take, drop, Result, Ok, Err, refl, sym, ◌∙◌, ap, subst, arith, length-append}
use Rattle.std.proofs.Math.Seq.{take-length}
use Rattle.std.proofs.lemmas.List.{take-append-le, take-append-drop, length-take-le}
use Rattle.es_model.specs.declared.answers.Completion.{Completion as Answer}
use Rattle.es_model.specs.declared.answers.Stop.{Stop}
use Rattle.es_model.specs.declared.answers.Stop.TheVariants.{Halted, NoMemory}
use Rattle.es_model.specs.declared.kinds.CellNo.{CellNo}
use Rattle.es_model.specs.declared.requests.Request.{Request}
use Rattle.es_model.specs.Completions.{Completion}
use Rattle.es_model.specs.World.{World}
use Rattle.es_model.specs.Program.{Program, Of, Outcome, Ended, Halt, Server, one_more, after, run}
use Rattle.es_model.specs.Stages.{Stage, AtEnd, AtHalt, AtAsk, AtPart, AtNest, AtPrint, stage_of, outcome_at, world_at}
use Rattle.es_model.specs.Unwinding.{Nears, Stays, unwind}
use Rattle.es_model.proofs.Composing.{after-one_more, after-after, after-ended}
use Rattle.es_model.proofs.StageFacts.{outcome-stage}
use Rattle.es_model.proofs.Unwound.{unwind-none, unwind-push, unwind-one_more, unwind-after, unwind-halt, reaches_same, stage-stays}
use Rattle.object_heap.specs.Stands.{HeapView}
use Rattle.evaluator.specs.declared.frames.Current.TheVariants.{At, EndedBy}
use Rattle.evaluator.specs.declared.frames.Next.{Next}
use Rattle.evaluator.specs.declared.frames.Next.TheVariants.{GoOn, Asks, Ends}
use Rattle.evaluator.specs.declared.frames.Pending.{Pending}
use Rattle.evaluator.specs.declared.items.Asked.{Asked}
use Rattle.evaluator.specs.declared.items.Ending.{Ending}
use Rattle.evaluator.specs.declared.items.Item.{Item}
use Rattle.evaluator.specs.declared.items.Item.TheVariants as item
use Rattle.evaluator.specs.declared.items.Job.{Job}
use Rattle.evaluator.specs.declared.items.Plan.TheVariants as plan
use Rattle.evaluator.specs.declared.items.StatementItem.{StatementItem}
use Rattle.evaluator.specs.Contexts.{Context, context, with_cells}
use Rattle.evaluator.specs.Entering.{Answers}
use Rattle.evaluator.specs.Functions.{body_ended}
use Rattle.evaluator.specs.Frames.{IsStacked}
use Rattle.evaluator.specs.Machine.{IsInner, IsNext, IsServer, height, meaning, pending_rest, unwound, within}
use Rattle.evaluator.specs.Plans.{Plans, asked_program, ended, item_program, job_program, statement_item, task_of}

-- ---- items below an outcome, and the end of the body below them

unwound-one_more : (here : Context) (S : Server) (n : ℕ) (ps : List Pending) (o : Outcome) → unwound here S n ps (one_more o) ≡ one_more (unwound here S n ps o)
unwound-one_more here S n ps o =
    ap (λ x. after x (λ c w. run S (body_ended here c) n w)) (unwind-one_more (pending_rest here S n) ps o) ∙ after-one_more (unwind (pending_rest here S n) ps o) (λ c w. run S (body_ended here c) n w)

unwound-push : (here : Context) (S : Server) (n : ℕ) (ps : List Pending) (p : Pending) (o : Outcome) → unwound here S n (ps ++ p ∷ []) o ≡ unwound here S n ps (after o (pending_rest here S n p))
unwound-push here S n ps p o = ap (λ x. after x (λ c w. run S (body_ended here c) n w)) (unwind-push (pending_rest here S n) ps p o)

unwound-after : (here : Context) (S : Server) (n : ℕ) (ps : List Pending) (o : Outcome) (f : Completion → World → Outcome) →
    unwound here S n ps (after o f) ≡ after o (λ c w. unwound here S n ps (f c w))
unwound-after here S n ps o f =
    ap (λ x. after x (λ c w. run S (body_ended here c) n w)) (unwind-after (pending_rest here S n) ps o f)
    ∙ after-after o (λ c w. unwind (pending_rest here S n) ps (f c w)) (λ c w. run S (body_ended here c) n w)

unwound-halt : (here : Context) (S : Server) (n : ℕ) (ps : List Pending) (w : World) → unwound here S n ps (Halt w 0) ≡ Halt w 0
unwound-halt here S n ps w = ap (λ x. after x (λ c u. run S (body_ended here c) n u)) (unwind-halt (pending_rest here S n) ps w 0)

-- ---- the cells that waiting items see

pub stacked_push : (low : ℕ) (ps : List Pending) (p : Pending) (high : ℕ) → IsStacked low ps p.depth → p.depth ≤ high → IsStacked low (ps ++ p ∷ []) high
stacked_push low [] p high h l = (h, l)
stacked_push low (q ∷ qs) p high h l = (h.0, stacked_push q.depth qs p high h.1 l)

pub stacked_pop : (low : ℕ) (ps : List Pending) (p : Pending) (high : ℕ) → IsStacked low (ps ++ p ∷ []) high → IsStacked low ps p.depth × (p.depth ≤ high)
stacked_pop low [] p high h = h
stacked_pop low (q ∷ qs) p high h = let r = stacked_pop q.depth qs p high h.1 in ((h.0, r.0), r.1)

pub stacked_more : (low : ℕ) (ps : List Pending) (high higher : ℕ) → IsStacked low ps high → high ≤ higher → IsStacked low ps higher
stacked_more low [] high higher h l = omega (arith, h)
stacked_more low (q ∷ qs) high higher h l = (h.0, stacked_more q.depth qs high higher h.1 l)

pub stacked-low : (low : ℕ) (ps : List Pending) (high : ℕ) → IsStacked low ps high → low ≤ high
stacked-low low [] high h = h
stacked-low low (q ∷ qs) high h = let a = h.0 in let b = stacked-low q.depth qs high h.1 in omega arith

-- more cells behind those that they see change nothing for them
unwind-same : (here : Context) (more : List CellNo) (S : Server) (n low : ℕ) (ps : List Pending) (o : Outcome) → IsStacked low ps (length here.cells) →
    unwind (pending_rest (with_cells here (here.cells ++ more)) S n) ps o ≡ unwind (pending_rest here S n) ps o
unfolding unwind
unwind-same here more S n low [] o h = refl
unwind-same here more S n low (q ∷ qs) o h =
    ap (λ x. after x (pending_rest (with_cells here (here.cells ++ more)) S n q)) (unwind-same here more S n q.depth qs o h.1)
    ∙ ap (λ (cells : List CellNo). after (unwind (pending_rest here S n) qs o) (λ c w. run S (item_program (with_cells here cells) q.item c) n w))
    (take-append-le q.depth here.cells more (stacked-low q.depth qs (length here.cells) h.1))

unwound-same : (here : Context) (more : List CellNo) (S : Server) (n : ℕ) (ps : List Pending) (o : Outcome) → IsStacked 0 ps (length here.cells) →
    unwound (with_cells here (here.cells ++ more)) S n ps o ≡ unwound here S n ps o
unwound-same here more S n ps o h = ap (λ x. after x (λ c w. run S (body_ended here c) n w)) (unwind-same here more S n 0 ps o h)

-- ---- an inner scope

pub grown : (old new : List CellNo) → take (length old) new ≡ old → new ≡ old ++ drop (length old) new
grown old new e = sym (take-append-drop (length old) new) ∙ ap (λ l. l ++ drop (length old) new) e

pub grown-length : (old new : List CellNo) → take (length old) new ≡ old → length old ≤ length new
grown-length old new e =
    let l : length new ≡ length (old ++ drop (length old) new) = ap length (grown old new e) in
    let m = length-append old (drop (length old) new) in omega arith

-- what waits outside is the same with the names of the inner scope in force
more-cells : (outer inner : Context) (S : Server) (n : ℕ) (ps : List Pending) (o : Outcome) → IsInner outer inner → IsStacked 0 ps (length outer.cells) →
    unwound outer S n ps o ≡ unwound inner S n ps o
more-cells outer inner S n ps o is s =
    sym (unwound-same outer (drop (length outer.cells) inner.cells) S n ps o s)
    ∙ ap (λ l. unwound (with_cells outer l) S n ps o) (sym (grown outer.cells inner.cells is.front)) ∙ ap (λ x. unwound x S n ps o) (sym is.same)

-- ---- a plan is followed

-- a part with an item that waits for it
part-next : (here : Context) (S : Server) (n : ℕ) (ps qs : List Pending) (p : Pending) (j : Job) (k : Completion → Program) (v : World) →
    (λ c u. run S (k c) n u) ≡ pending_rest here S n p → qs ≡ ps ++ p ∷ [] →
    Nears (length ps + 2) (height qs (At j)) (unwound here S n ps (one_more (after (S n (task_of here j) v) (λ c u. run S (k c) n u)))) (meaning here S n qs (At j) v)
part-next here S n ps qs p j k v rest pushed =
    let longer : length qs ≡ length ps + 1 = ap length pushed ∙ length-append ps (p ∷ []) in
    record {
      served = 1;
      falls = omega arith;
      same = unwound-one_more here S n ps (after (S n (task_of here j) v) (λ c u. run S (k c) n u))
          ∙ ap one_more (ap (λ f. unwound here S n ps (after (S n (task_of here j) v) f)) rest ∙ sym (unwound-push here S n ps p (S n (task_of here j) v))
          ∙ ap (λ l. unwound here S n l (S n (task_of here j) v)) (sym pushed));
    }

pub wait_next : (outer inner : Context) (S : Server) (n : ℕ) (old new : HeapView) (w : World) (stage : Stage) (ps qs : List Pending) (j : Job) (i : Item) (depth : ℕ) →
    depth ≡ length inner.cells → Plans outer inner old new w stage (Ok (plan.Wait j i)) → Stays w (world_at stage) → qs ≡ ps ++ record { item = i; depth = depth } ∷ [] →
    IsNext inner S n (length ps + 2) (unwound inner S n ps (outcome_at S n stage)) old new w qs (Ok (GoOn (At j)))
wait_next outer inner S n old new w (AtPart t k v) ps qs j i depth long h st pushed =
    let p : Pending = record { item = i; depth = depth } in
    let all : take depth inner.cells ≡ inner.cells = ap (λ m. take m inner.cells) long ∙ take-length inner.cells in
    let rest : (λ c u. run S (k c) n u) ≡ pending_rest inner S n p =
    ap (λ (f : Completion → Program). (λ c u. run S (f c) n u)) (sym h.1) ∙ ap (λ (l : List CellNo). (λ c u. run S (item_program (with_cells inner l) i c) n u)) (sym all) in (
      v,
      h.2,
      st,
      subst (λ x. Nears (length ps + 2) (height qs (At j)) (unwound inner S n ps (one_more (after (S n x v) (λ c u. run S (k c) n u)))) (meaning inner S n qs (At j) v)) h.0
          (part-next inner S n ps qs p j k v rest pushed),
    )
wait_next outer inner S n old new w (AtEnd c v) ps qs j i depth long h st pushed = absurd h
wait_next outer inner S n old new w (AtHalt v) ps qs j i depth long h st pushed = absurd h
wait_next outer inner S n old new w (AtAsk q k v) ps qs j i depth long h st pushed = absurd h
wait_next outer inner S n old new w (AtNest p q v) ps qs j i depth long h st pushed = absurd h
wait_next outer inner S n old new w (AtPrint y p v) ps qs j i depth long h st pushed = absurd h

-- the names that an item of the scope around sees
pub outside : (outer inner : Context) (depth : ℕ) → IsInner outer inner → depth ≡ length outer.cells → within inner depth ≡ outer
outside outer inner depth is long =
    ap (λ x. with_cells x (take depth inner.cells)) is.same ∙ ap (with_cells outer) (ap (λ d. take d inner.cells) long ∙ is.front)

pub enter_next : (outer inner : Context) (S : Server) (n : ℕ) (old new : HeapView) (w : World) (stage : Stage) (ps qs : List Pending) (j : Job) (i : StatementItem) (depth d : ℕ) →
    IsInner outer inner → depth ≡ length outer.cells → Plans outer inner old new w stage (Ok (plan.Enter j i d)) → Stays w (world_at stage) →
    qs ≡ ps ++ record { item = item.Statement i; depth = depth } ∷ [] →
    IsNext inner S n (length ps + 2) (unwound inner S n ps (outcome_at S n stage)) old new w qs (Ok (GoOn (At j)))
enter_next outer inner S n old new w (AtPart t k v) ps qs j i depth d is long h st pushed =
    let p : Pending = record { item = item.Statement i; depth = depth } in
    let rest : (λ c u. run S (k c) n u) ≡ pending_rest inner S n p =
    ap (λ (f : Completion → Program). (λ c u. run S (f c) n u)) (sym h.1) ∙ ap (λ (x : Context). (λ c u. run S (statement_item x i c) n u)) (sym (outside outer inner depth is long)) in (
      v,
      h.3,
      st,
      subst (λ x. Nears (length ps + 2) (height qs (At j)) (unwound inner S n ps (one_more (after (S n x v) (λ c u. run S (k c) n u)))) (meaning inner S n qs (At j) v)) h.0
          (part-next inner S n ps qs p j k v rest pushed),
    )
enter_next outer inner S n old new w (AtEnd c v) ps qs j i depth d is long h st pushed = absurd h
enter_next outer inner S n old new w (AtHalt v) ps qs j i depth d is long h st pushed = absurd h
enter_next outer inner S n old new w (AtAsk q k v) ps qs j i depth d is long h st pushed = absurd h
enter_next outer inner S n old new w (AtNest p q v) ps qs j i depth d is long h st pushed = absurd h
enter_next outer inner S n old new w (AtPrint y p v) ps qs j i depth d is long h st pushed = absurd h

pub last_next : (outer inner : Context) (S : Server) (n : ℕ) (old new : HeapView) (w : World) (stage : Stage) (ps qs : List Pending) (j : Job) → qs ≡ ps →
    Plans outer inner old new w stage (Ok (plan.Last j)) → Stays w (world_at stage) →
    IsNext inner S n (length ps + 2) (unwound inner S n ps (outcome_at S n stage)) old new w ps (Ok (GoOn (At j)))
last_next outer inner S n old new w (AtPart t k v) ps qs j is h st = (
  v,
  h.2,
  st,
  record {
    served = 1;
    falls = omega arith;
    same = unwound-one_more inner S n ps (after (S n t v) (λ c u. run S (k c) n u)) ∙ ap one_more (ap (λ x. unwound inner S n ps (after (S n x v) (λ c u. run S (k c) n u))) (sym h.0)
        ∙ ap (λ (f : Completion → Program). unwound inner S n ps (after (S n (task_of inner j) v) (λ c u. run S (f c) n u))) (sym h.1)
        ∙ ap (unwound inner S n ps) (after-ended (S n (task_of inner j) v)));
  },
)
last_next outer inner S n old new w (AtEnd c v) ps qs j is h st = absurd h
last_next outer inner S n old new w (AtHalt v) ps qs j is h st = absurd h
last_next outer inner S n old new w (AtAsk q k v) ps qs j is h st = absurd h
last_next outer inner S n old new w (AtNest p q v) ps qs j is h st = absurd h
last_next outer inner S n old new w (AtPrint y p v) ps qs j is h st = absurd h

pub ask_next : (outer inner : Context) (S : Server) (n : ℕ) (old new : HeapView) (w : World) (stage : Stage) (ps : List Pending) (q : Request) (i : Asked) →
    Plans outer inner old new w stage (Ok (plan.Ask q i)) → Stays w (world_at stage) →
    IsNext inner S n (length ps + 2) (unwound inner S n ps (outcome_at S n stage)) old new w ps (Ok (Asks q i))
ask_next outer inner S n old new w (AtAsk p k v) ps q i h st = (
  v,
  h.2,
  st,
  reaches_same _ _ (ap (λ x. unwound inner S n ps (one_more (after (S n (Of x) v) (λ c u. run S (k c) n u)))) (sym h.0)
      ∙ ap (λ (f : Completion → Program). unwound inner S n ps (one_more (after (S n (Of q) v) (λ c u. run S (f c) n u)))) (sym h.1)
      ∙ unwound-one_more inner S n ps (after (S n (Of q) v) (λ c u. run S (asked_program inner i c) n u))
      ∙ ap one_more (unwound-after inner S n ps (S n (Of q) v) (λ c u. run S (asked_program inner i c) n u))),
)
ask_next outer inner S n old new w (AtEnd c v) ps q i h st = absurd h
ask_next outer inner S n old new w (AtHalt v) ps q i h st = absurd h
ask_next outer inner S n old new w (AtPart t k v) ps q i h st = absurd h
ask_next outer inner S n old new w (AtNest p k v) ps q i h st = absurd h
ask_next outer inner S n old new w (AtPrint y p v) ps q i h st = absurd h

pub end_next : (outer inner : Context) (S : Server) (n : ℕ) (old new : HeapView) (w : World) (stage : Stage) (ps : List Pending) (e : Ending) →
    Plans outer inner old new w stage (Ok (plan.Ends e)) → Stays w (world_at stage) →
    IsNext inner S n (length ps + 2) (unwound inner S n ps (outcome_at S n stage)) old new w ps (Ok (GoOn (EndedBy e)))
end_next outer inner S n old new w (AtEnd c v) ps e h st = (v, h.1, st, record { served = 0; falls = omega arith; same = ap (λ x. unwound inner S n ps (Ended x v 0)) (sym h.0) })
end_next outer inner S n old new w (AtAsk p k v) ps e h st = absurd h
end_next outer inner S n old new w (AtHalt v) ps e h st = absurd h
end_next outer inner S n old new w (AtPart t k v) ps e h st = absurd h
end_next outer inner S n old new w (AtNest p k v) ps e h st = absurd h
end_next outer inner S n old new w (AtPrint y p v) ps e h st = absurd h

pub stop_next : (a : ℕ) (outer inner here : Context) (S : Server) (n : ℕ) (old new : HeapView) (w : World) (stage : Stage) (ps qs : List Pending) (stop : Stop) →
    Plans outer inner old new w stage (Err stop) → Stays w (world_at stage) → IsNext inner S n a (unwound here S n ps (outcome_at S n stage)) old new w qs (Err stop)
stop_next a outer inner here S n old new w stage ps qs NoMemory h st = tt
stop_next a outer inner here S n old new w (AtHalt v) ps qs Halted h st = (v, h, st, reaches_same _ _ (unwound-halt here S n ps v))
stop_next a outer inner here S n old new w (AtEnd c v) ps qs Halted h st = absurd h
stop_next a outer inner here S n old new w (AtAsk p k v) ps qs Halted h st = absurd h
stop_next a outer inner here S n old new w (AtPart t k v) ps qs Halted h st = absurd h
stop_next a outer inner here S n old new w (AtNest p k v) ps qs Halted h st = absurd h
stop_next a outer inner here S n old new w (AtPrint y p v) ps qs Halted h st = absurd h

pub stacked_wait : (ps qs : List Pending) (i : Item) (depth high : ℕ) → depth ≤ high → IsStacked 0 ps depth → qs ≡ ps ++ record { item = i; depth = depth } ∷ [] → IsStacked 0 qs high
stacked_wait ps qs i depth high long s pushed =
    subst (λ l. IsStacked 0 l high) (sym pushed) (stacked_push 0 ps (record { item = i; depth = depth }) high s long)

-- ---- a job

job-outcome : (here : Context) (S : Server) (n : ℕ) (w : World) (ps : List Pending) (j : Job) → IsServer S → w.script ≡ here.script →
    unwound here S n ps (S n (task_of here j) w) ≡ unwound here S n ps (outcome_at S n (stage_of (job_program here j) w))
job-outcome here S n w ps j is same =
    ap (unwound here S n ps)
    (is.serves here.body here.cells j n w ∙ ap (λ t. run S (job_program (context t here.body here.cells) j) n w) same ∙ outcome-stage S n (job_program here j) w)

pub job_step : (x : ℕ) (outer inner : Context) (S : Server) (n : ℕ) (w : World) (ps qs : List Pending) (j : Job) (a b : HeapView) (result : Result Next Stop) → IsServer S → w.script ≡ outer.script →
    IsStacked 0 ps (length outer.cells) → IsInner outer inner →
    (Stays w (world_at (stage_of (job_program outer j) w)) → IsNext inner S n x (unwound inner S n ps (outcome_at S n (stage_of (job_program outer j) w))) a b w qs result) →
    IsNext inner S n x (unwound outer S n ps (S n (task_of outer j) w)) a b w qs result
job_step x outer inner S n w ps qs j a b result is same s e next =
    subst (λ o. IsNext inner S n x o a b w qs result)
    (sym (job-outcome outer S n w ps j is same ∙ more-cells outer inner S n ps (outcome_at S n (stage_of (job_program outer j) w)) e s))
    (next (stage-stays (job_program outer j) w))

pub job_stops : (x : ℕ) (outer inner : Context) (S : Server) (n : ℕ) (w : World) (ps qs : List Pending) (j : Job) (a b : HeapView) (stop : Stop) → IsServer S → w.script ≡ outer.script →
    Plans outer inner a b w (stage_of (job_program outer j) w) (Err stop) →
    IsNext inner S n x (unwound outer S n ps (S n (task_of outer j) w)) a b w qs (Err stop)
job_stops x outer inner S n w ps qs j a b stop is same h =
    subst (λ o. IsNext inner S n x o a b w qs (Err stop)) (sym (job-outcome outer S n w ps j is same))
    (stop_next x outer inner outer S n a b w (stage_of (job_program outer j) w) ps qs stop h (stage-stays (job_program outer j) w))

-- ---- an item: the cells are cut to those that it sees

item-outcome : (here : Context) (S : Server) (n : ℕ) (w : World) (ps : List Pending) (p : Pending) (e : Ending) → IsStacked 0 ps p.depth → p.depth ≤ length here.cells →
    unwound here S n ps (pending_rest here S n p (ended e) w) ≡ unwound (within here p.depth) S n ps (outcome_at S n (stage_of (item_program (within here p.depth) p.item (ended e)) w))
item-outcome here S n w ps p e s high =
    let cut : Context = within here p.depth in
    let long : length cut.cells ≡ p.depth = length-take-le p.depth here.cells high in
    let whole : here.cells ≡ cut.cells ++ drop p.depth here.cells = sym (take-append-drop p.depth here.cells) in
    let o : Outcome = pending_rest here S n p (ended e) w in
    ap (λ l. unwound (with_cells here l) S n ps o) whole ∙ unwound-same cut (drop p.depth here.cells) S n ps o (subst (λ d. IsStacked 0 ps d) (sym long) s)
    ∙ ap (unwound cut S n ps) (outcome-stage S n (item_program cut p.item (ended e)) w)

pub item_step : (x : ℕ) (here inner : Context) (S : Server) (n : ℕ) (w : World) (ps qs : List Pending) (p : Pending) (e : Ending) (a b : HeapView) (result : Result Next Stop) →
    IsStacked 0 ps p.depth → p.depth ≤ length here.cells → IsInner (within here p.depth) inner →
    (Stays w (world_at (stage_of (item_program (within here p.depth) p.item (ended e)) w)) →
    IsNext inner S n x (unwound inner S n ps (outcome_at S n (stage_of (item_program (within here p.depth) p.item (ended e)) w))) a b w qs result) →
    IsNext inner S n x (unwound here S n ps (pending_rest here S n p (ended e) w)) a b w qs result
item_step x here inner S n w ps qs p e a b result s high is next =
    let cut : Context = within here p.depth in
    let long : length cut.cells ≡ p.depth = length-take-le p.depth here.cells high in
    let seen : IsStacked 0 ps (length cut.cells) = subst (λ d. IsStacked 0 ps d) (sym long) s in
    subst (λ o. IsNext inner S n x o a b w qs result)
    (sym (item-outcome here S n w ps p e s high ∙ more-cells cut inner S n ps (outcome_at S n (stage_of (item_program cut p.item (ended e)) w)) is seen))
    (next (stage-stays (item_program cut p.item (ended e)) w))

pub item_stops : (x : ℕ) (here inner : Context) (S : Server) (n : ℕ) (w : World) (ps qs : List Pending) (p : Pending) (e : Ending) (a b : HeapView) (stop : Stop) →
    IsStacked 0 ps p.depth → p.depth ≤ length here.cells → Plans (within here p.depth) inner a b w (stage_of (item_program (within here p.depth) p.item (ended e)) w) (Err stop) →
    IsNext inner S n x (unwound here S n ps (pending_rest here S n p (ended e) w)) a b w qs (Err stop)
item_stops x here inner S n w ps qs p e a b stop s high h =
    let cut : Context = within here p.depth in
    subst (λ o. IsNext inner S n x o a b w qs (Err stop)) (sym (item-outcome here S n w ps p e s high))
    (stop_next x cut inner cut S n a b w (stage_of (item_program cut p.item (ended e)) w) ps qs stop h (stage-stays (item_program cut p.item (ended e)) w))

-- an end with no item that waits, which is the body's, and one with an item
pub end_step : (here : Context) (S : Server) (n : ℕ) (a b : HeapView) (w : World) (ps qs : List Pending) (e : Ending) (answer : Answer) → length ps ≡ 0 → Answers a b w (body_ended here (ended e)) answer →
    IsNext here S n (length ps + 1) (meaning here S n ps (EndedBy e) w) a b w qs (Ok (Ends answer))
end_step here S n a b w [] qs e answer none (v, g, at) =
    let p : Program = body_ended here (ended e) in (
      v,
      g,
      subst (λ s. Stays w (world_at s)) at (stage-stays p w),
      reaches_same _ _ (ap (λ x. after x (λ c u. run S (body_ended here c) n u)) (unwind-none (pending_rest here S n) (Ended (ended e) w 0)) ∙ (outcome-stage S n p w ∙ ap (outcome_at S n) at)),
    )
end_step here S n a b w (p ∷ ps) qs e answer none h = absurd (omega arith)

-- the item that the newest end wakes, and those below it
pub popped_stack : (fs ps : List Pending) (p : Pending) (high : ℕ) → fs ≡ ps ++ p ∷ [] → IsStacked 0 fs high → IsStacked 0 ps p.depth × (p.depth ≤ high)
popped_stack fs ps p high popped s = stacked_pop 0 ps p high (subst (λ l. IsStacked 0 l high) popped s)

pub pop_step : (here inner : Context) (S : Server) (n : ℕ) (a b : HeapView) (w : World) (fs ps qs : List Pending) (p : Pending) (e : Ending) (result : Result Next Stop) → fs ≡ ps ++ p ∷ [] →
    IsNext inner S n (length ps + 2) (unwound here S n ps (pending_rest here S n p (ended e) w)) a b w qs result →
    IsNext inner S n (length fs + 1) (meaning here S n fs (EndedBy e) w) a b w qs result
pop_step here inner S n a b w fs ps qs p e result popped next =
    let longer : length fs ≡ length ps + 1 = ap length popped ∙ length-append ps (p ∷ []) in
    subst (λ x. IsNext inner S n x (meaning here S n fs (EndedBy e) w) a b w qs result) (let same : length ps + 2 ≡ length fs + 1 = omega arith in same)
    (subst (λ o. IsNext inner S n (length ps + 2) o a b w qs result)
    (sym (unwound-push here S n ps p (Ended (ended e) w 0)) ∙ ap (λ l. unwound here S n l (Ended (ended e) w 0)) (sym popped)) next)

pub stacked_none : (ps qs : List Pending) (high : ℕ) → IsStacked 0 ps high → qs ≡ ps → IsStacked 0 qs high
stacked_none ps qs high s e = subst (λ l. IsStacked 0 l high) (sym e) s
