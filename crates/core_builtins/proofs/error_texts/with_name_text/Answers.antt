use Rattle.std.proofs.Common.{sym, subst}
use Rattle.std.specs.Prelude.{codes}
use Rattle.es_model.specs.Changes.{Interning, changed}
use Rattle.es_model.specs.Stages.{stage_of}
use Rattle.es_model.specs.World.{World}
use Rattle.object_heap.specs.Stops.{Stops, stops_then}
use Rattle.core_builtins.specs.ErrorTexts.{message_asked, with_name_text}
use Rattle.core_builtins.specs.Rests.{program_after}
use Rattle.core_builtins.proofs.There.{text_there}
use Rattle.core_builtins.proofs.error_texts.with_name_text.Goals as goal

pub returns-in_ok-error-in-Undefined-clause-stops : goal.returns-in_ok-error-in-Undefined-clause-stops
returns-in_ok-error-in-Undefined-clause-stops c = λ w h.
    let u : World = changed (Interning (codes "Error")) w in
    let goes = c.in_ok-error-in-Undefined.ensures.ok w h in
    let error = c.in_ok-error-in-Undefined.error in
    subst (λ v. Stops program_after c.args.heap.now c.message_asked.new.heap w (stage_of (with_name_text c.args.object v) w) c.message_asked.result) (sym c.in-Undefined.is)
    (subst (λ t. Stops program_after c.args.heap.now c.message_asked.new.heap w (stage_of (message_asked c.args.object t) u) c.message_asked.result) (c.in_ok-error-in-Undefined.ensures.number w h)
    (stops_then program_after c.args.heap.now c.word.new.self c.message_asked.new.heap w u (stage_of (message_asked c.args.object error) u) c.message_asked.result goes (c.message_asked.ensures.stops u goes.stands)))

pub returns-in_ok-error-in-Undefined-clause-named : goal.returns-in_ok-error-in-Undefined-clause-named
returns-in_ok-error-in-Undefined-clause-named c = λ w v hw hv there known.
    let e = c.in_ok-error-in-Undefined in
    c.message_asked.ensures.named v
    (text_there (codes "Error") c.args.heap.now c.word.new.self c.message_asked.new.heap w v e.error (e.ensures.number w hw) (e.ensures.ok w hw) c.message_asked.ensures.retains hv)
