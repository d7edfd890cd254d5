-- Steps of the dispatcher, over plain variables.
use Rattle.std.proofs.Common.{◌≡◌, ℕ, ◌+◌, List, [], ◌∷◌, ◌++◌, Result, Ok, Err, length, arith, refl, sym, ◌∙◌, ap, subst}
use Rattle.std.proofs.lemmas.List.{length-append}
use Rattle.es_tree.specs.Tree.{Tree}
use Rattle.es_model.specs.declared.answers.Completion.{Completion as Answer}
use Rattle.es_model.specs.declared.answers.Stop.{Stop}
use Rattle.es_model.specs.declared.answers.Stop.TheVariants.{Halted, NoMemory}
use Rattle.es_model.specs.declared.answers.Turn.TheVariants.{Ask, Done}
use Rattle.es_model.specs.declared.requests.Request.{Request}
use Rattle.es_model.specs.Completions.{answered}
use Rattle.es_model.specs.Program.{Of, Outcome, Ended, Halt, Server, one_more, after}
use Rattle.es_model.specs.Unwinding.{Reaches, Stays, unwind}
use Rattle.es_model.specs.World.{World}
use Rattle.es_model.proofs.Unwound.{unwind-none, unwind-push, unwind-one_more, unwind-plus, unwind-halt, reaches_same, reaches_then, nears_same, nears_after, stays_none, stays_then}
use Rattle.object_heap.specs.Stands.{HeapView, StandsFor, Goes, goes_none, goes_then, halts_then}
use Rattle.object_heap.specs.Turns.{IsTurnOf}
use Rattle.dispatcher.specs.declared.frames.Frame.{Frame}
use Rattle.dispatcher.specs.declared.state.Entry.{Entry}
use Rattle.dispatcher.specs.declared.state.State.TheVariants.{Serving, Returning}
use Rattle.dispatcher.specs.declared.state.Next.{Next}
use Rattle.dispatcher.specs.declared.state.Next.TheVariants.{GoOn, Prints, Ends}
use Rattle.dispatcher.specs.Rests.{frame_rest}
use Rattle.dispatcher.specs.Stack.{Leads, entry_rest, meaning}

reaches-unwound : (script : Tree) (S : Server) (fs : List Entry) (o p : Outcome) → Reaches o p → Reaches (unwind (entry_rest script S) fs o) (unwind (entry_rest script S) fs p)
reaches-unwound script S fs o p e = record { served = e.served; same = ap (unwind (entry_rest script S) fs) e.same ∙ unwind-plus (entry_rest script S) fs e.served p }

-- ---- a turn is taken

pub ask_leads : (script : Tree) (S : Server) (fs gs : List Entry) (o : Outcome) (old new : HeapView) (w : World) (q : Request) (f : Frame) (n : ℕ) →
    IsTurnOf (frame_rest script) old new w S n o (Ok (Ask q f)) → gs ≡ fs ++ record { frame = f; nested = n } ∷ [] →
    Leads script S (length fs + 2) (unwind (entry_rest script S) fs o) old new w gs (Ok (GoOn (Serving q n)))
ask_leads script S fs gs o old new w q f n (v, g, l, e) pushed =
    let entry : Entry = record { frame = f; nested = n } in
    let x : Outcome = S n (Of q) v in
    let longer : length gs ≡ length fs + 1 = ap length pushed ∙ length-append fs (entry ∷ []) in (
      v,
      g,
      l,
      nears_after _ _ _ _ _ (reaches-unwound script S fs o (one_more (after x (entry_rest script S entry))) e) (record {
        served = 1;
        same = unwind-one_more (entry_rest script S) fs (after x (entry_rest script S entry)) ∙
            ap one_more (sym (unwind-push (entry_rest script S) fs entry x) ∙ ap (λ y. unwind (entry_rest script S) y x) (sym pushed));
        falls = omega arith;
      }),
    )

pub done_leads : (script : Tree) (S : Server) (fs : List Entry) (o : Outcome) (old new : HeapView) (w : World) (c : Answer) (n : ℕ) →
    IsTurnOf (frame_rest script) old new w S n o (Ok (Done c)) → Leads script S (length fs + 2) (unwind (entry_rest script S) fs o) old new w fs (Ok (GoOn (Returning c)))
done_leads script S fs o old new w c n (v, g, l, e) =
    (v, g, l, nears_after _ _ _ _ _ (reaches-unwound script S fs o (Ended (answered c) v 0) e) (nears_same _ _ _ _ refl (omega arith)))

pub stop_leads : (script : Tree) (S : Server) (x : ℕ) (fs gs : List Entry) (o : Outcome) (old new : HeapView) (w : World) (stop : Stop) (n : ℕ) →
    IsTurnOf (frame_rest script) old new w S n o (Err stop) → Leads script S x (unwind (entry_rest script S) fs o) old new w gs (Err stop)
stop_leads script S x fs gs o old new w Halted n (v, h, l, e) =
    (v, h, l, reaches_then _ _ _ (reaches-unwound script S fs o (Halt v 0) e) (reaches_same _ _ (unwind-halt (entry_rest script S) fs v 0)))
stop_leads script S x fs gs o old new w NoMemory n h = tt

-- ---- one call after another

pub leads_then : (script : Tree) (S : Server) (x : ℕ) (o p : Outcome) (a b c : HeapView) (u v : World) (fs : List Entry) (r : Result Next Stop) →
    Reaches o p → Goes a b u v → Stays u v → Leads script S x p b c v fs r → Leads script S x o a c u fs r
leads_then script S x o p a b c u v fs (Ok (GoOn state)) e g k (y, h, l, f) = (y, goes_then a b c u v y g h, stays_then u v y k l, nears_after x _ o p _ e f)
leads_then script S x o p a b c u v fs (Ok (Prints line)) e g k (y, h, l, f) = (y, goes_then a b c u v y g h, stays_then u v y k l, nears_after x _ o p _ e f)
leads_then script S x o p a b c u v fs (Ok (Ends d)) e g k (y, h, l, f) = (y, goes_then a b c u v y g h, stays_then u v y k l, reaches_then o p _ e f)
leads_then script S x o p a b c u v fs (Err Halted) e g k (y, h, l, f) = (y, halts_then a b c u v y g h, stays_then u v y k l, reaches_then o p _ e f)
leads_then script S x o p a b c u v fs (Err NoMemory) e g k h = tt

-- ---- an answer

pub none_ends : (script : Tree) (S : Server) (x : ℕ) (fs gs : List Entry) (heap : HeapView) (c : Answer) (w : World) → length fs ≡ 0 → StandsFor heap w →
    Leads script S x (meaning script S fs (Returning c) w) heap heap w gs (Ok (Ends c))
none_ends script S x [] gs heap c w none h = (w, goes_none heap w h, stays_none w, reaches_same _ _ (unwind-none (entry_rest script S) (Ended (answered c) w 0)))
none_ends script S x (e ∷ fs) gs heap c w none h = absurd (omega arith)

pub give_leads : (script : Tree) (S : Server) (fs hs gs : List Entry) (e : Entry) (c : Answer) (a b : HeapView) (w : World) (r : Result Next Stop) → fs ≡ hs ++ e ∷ [] →
    Leads script S (length hs + 2) (unwind (entry_rest script S) hs (entry_rest script S e (answered c) w)) a b w gs r →
    Leads script S (length fs + 1) (meaning script S fs (Returning c) w) a b w gs r
give_leads script S fs hs gs e c a b w r popped h =
    let longer : length fs ≡ length hs + 1 = ap length popped ∙ length-append hs (e ∷ []) in
    subst (λ x. Leads script S x (meaning script S fs (Returning c) w) a b w gs r) (let same : length hs + 2 ≡ length fs + 1 = omega arith in same)
    (subst (λ o. Leads script S (length hs + 2) o a b w gs r)
    (sym (unwind-push (entry_rest script S) hs e (Ended (answered c) w 0)) ∙ ap (λ l. unwind (entry_rest script S) l (Ended (answered c) w 0)) (sym popped)) h)
