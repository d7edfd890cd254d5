-- What is left goes on behind what was printed.
use Rattle.std.proofs.Common.{◌≡◌, ℕ, List, [], ◌∷◌, ◌++◌, refl, sym, subst, ap, ◌∙◌}
use Rattle.std.proofs.lemmas.List.{append-nil, append_assoc}
use Rattle.es_tree.specs.Tree.{Tree}
use Rattle.es_model.specs.Changes.{changed, charged}
use Rattle.es_model.specs.Completions.{Completion}
use Rattle.es_model.specs.Grows.{HasPrinted}
use Rattle.es_model.specs.Outcomes.{world_of}
use Rattle.es_model.specs.Program.{Program, Of, Outcome, Ended, Halt, after, run}
use Rattle.es_model.specs.Unwinding.{unwind}
use Rattle.es_model.specs.World.{World}
use Rattle.es_model.proofs.Carried.{IsCarried, run-carried, world-plus}
use Rattle.es_model.proofs.Rests.{leaves-changed, charged-printed, printed-more}
use Rattle.evaluator.specs.declared.frames.EvalFrame.TheVariants as frame
use Rattle.evaluator.specs.declared.frames.Pending.{Pending}
use Rattle.evaluator.specs.Contexts.{Context, context}
use Rattle.evaluator.specs.Functions.{body_ended, construct_answered, script_program}
use Rattle.evaluator.specs.Machine.{pending_rest, unwound, within}
use Rattle.evaluator.specs.Plans.{asked_program, item_program}
use Rattle.core_builtins.specs.Rests as core
use Rattle.ordinary_object.specs.Rests as ordinary
use Rattle.plain_builtins.specs.Rests as plain
use Rattle.es_serve.specs.Serve.{model}
use Rattle.es_serve.proofs.Models.{keeps-printed}
use Rattle.dispatcher.specs.declared.frames.Frame.{Frame}
use Rattle.dispatcher.specs.declared.frames.Frame.TheVariants.{Ordinary, Plain, Core, Running}
use Rattle.dispatcher.specs.declared.state.State.{State}
use Rattle.dispatcher.specs.declared.state.State.TheVariants.{Starting, Serving, Returning}
use Rattle.dispatcher.specs.Dispatching.{PrintsOn}
use Rattle.dispatcher.specs.Rests.{frame_rest}
use Rattle.dispatcher.specs.Stack.{entry_rest, in_hand}

prints-nothing : (w v : World) → v.printed ≡ w.printed → HasPrinted w v
prints-nothing w v e = ([], e ∙ sym (append-nil w.printed))

printed-then : (a b c : World) → HasPrinted a b → HasPrinted b c → HasPrinted a c
printed-then a b c p q = (p.0 ++ q.0, q.1 ∙ ap (λ s. s ++ q.0) p.1 ∙ append_assoc a.printed p.0 q.0)

carried : IsCarried HasPrinted
carried = record {
  none = λ w. prints-nothing w w refl;
  then = printed-then;
  change = λ op w. prints-nothing w (changed op w) (leaves-changed op w).printed;
  charge = λ w n. prints-nothing w (charged w n) (charged-printed w n);
  print = λ w bytes. (bytes, printed-more w bytes);
}

printed-after : (w : World) (o : Outcome) (next : Completion → World → Outcome) → HasPrinted w (world_of o) → ((c : Completion) (v : World) → HasPrinted v (world_of (next c v))) → HasPrinted w (world_of (after o next))
printed-after w (Ended c v n) next h f = subst (HasPrinted w) (sym (world-plus n (next c v))) (printed-then w v (world_of (next c v)) h (f c v))
printed-after w (Halt v n) next h f = h

printed-unwound : {F : Type 0} (rest : F → Completion → World → Outcome) → ((f : F) (c : Completion) (v : World) → HasPrinted v (world_of (rest f c v))) →
    (fs : List F) (o : Outcome) (w : World) → HasPrinted w (world_of o) → HasPrinted w (world_of (unwind rest fs o))
unfolding unwind
printed-unwound rest h [] o w p = p
printed-unwound rest h (b ∷ fs) o w p = printed-after w (unwind rest fs o) (rest b) (printed-unwound rest h fs o w p) (h b)

program-prints : (p : Program) (n : ℕ) (w : World) → HasPrinted w (world_of (run model p n w))
program-prints p n w = run-carried HasPrinted carried model keeps-printed p n w

-- a body that runs, with the items that wait in it
body-prints : (here : Context) (pending : List Pending) (n : ℕ) (p : Program) (w : World) → HasPrinted w (world_of (unwound here model n pending (run model p n w)))
body-prints here pending n p w =
    printed-after w (unwind (pending_rest here model n) pending (run model p n w)) (λ c v. run model (body_ended here c) n v)
    (printed-unwound (pending_rest here model n) (λ i c v. program-prints (item_program (within here i.depth) i.item c) n v) pending (run model p n w) w (program-prints p n w))
    (λ c v. program-prints (body_ended here c) n v)

-- one line for each crate of frames
frame-prints : (script : Tree) (f : Frame) (n : ℕ) (c : Completion) (w : World) → HasPrinted w (world_of (frame_rest script f model n c w))
frame-prints script (Ordinary f) n c w = program-prints (ordinary.program_after f c) n w
frame-prints script (Plain f) n c w = program-prints (plain.program_after f c) n w
frame-prints script (Core f) n c w = program-prints (core.program_after f c) n w
frame-prints script (Running (frame.Body f)) n c w = body-prints (context script f.body f.cells) f.pending n (asked_program (context script f.body f.cells) f.asked c) w
frame-prints script (Running (frame.Constructing k)) n c w = program-prints (construct_answered script k.function k.callee k.arguments k.target c) n w

hand-prints : (script : Tree) (state : State) (w : World) → HasPrinted w (world_of (in_hand script model state w))
hand-prints script Starting w = program-prints (script_program script) 0 w
hand-prints script (Serving q n) w = keeps-printed n (Of q) w
hand-prints script (Returning c) w = prints-nothing w w refl

pub prints-on : PrintsOn
prints-on script d w =
    printed-unwound (entry_rest script model) (λ e c v. frame-prints script e.frame e.nested c v) d.stack.items (in_hand script model d.state w) w (hand-prints script d.state w)
