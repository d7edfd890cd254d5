use Rattle.std.specs.Prelude.{is_some}
use Rattle.std.proofs.Common.{◌+◌, sym, subst, refl, arith, length}
use Rattle.std.proofs.Math.Seq.{take-length}
use Rattle.es_model.specs.Completions.{answered}
use Rattle.es_model.specs.Stages.{stage_of}
use Rattle.evaluator.specs.Contexts.{context}
use Rattle.evaluator.specs.Frames.{IsStacked}
use Rattle.evaluator.specs.Machine.{IsInner}
use Rattle.evaluator.specs.Plans.{asked_program}
use Rattle.evaluator.proofs.Looped.{asked_step, asked_stops, err_turn}
use Rattle.evaluator.proofs.Sounding.{sound_stops, stop_sound}
use Rattle.evaluator.proofs.Belonging.{answer_later, asked_later, here_later}
use Rattle.evaluator.proofs.machine.take_answer.Goals as goal

pub returns-in-Err-clause-turn : goal.returns-in-Err-clause-turn
returns-in-Err-clause-turn g c = λ S n w is same h.
    let here = context c.args.script.now c.args.body c.args.cells in
    let plans = rw c.in-Err.is at (c.asked_plan.ensures.plans w h) in
    asked_stops c.args.script.now c.args.body c.args.cells S n c.args.heap.now c.asked_plan.new.heap w (asked_program here c.args.asked (answered c.args.answer)) c.args.pending.items c.in-Err.stop plans

pub follow-requires-clause-fewer : goal.follow-requires-clause-fewer
follow-requires-clause-fewer g c = omega arith

pub follow-requires-clause-stacked : goal.follow-requires-clause-stacked
follow-requires-clause-stacked g c = subst (λ d. IsStacked 0 c.args.pending.items d) (sym c.len-depth.ensures) c.requires

pub returns-in-Err-follow-clause-turn : goal.returns-in-Err-follow-clause-turn
returns-in-Err-follow-clause-turn g c = λ S n w is same h.
    let here = context c.args.script.now c.args.body c.args.cells in
    let plans = rw c.in-Ok.is at (c.asked_plan.ensures.plans w h) in
    let p = asked_program here c.args.asked (answered c.args.answer) in
    let scope : IsInner here here = record { same = refl; front = take-length c.args.cells } in
    let steps = asked_step (length c.args.pending.items + 2) here S n c.args.heap.now c.asked_plan.new.heap w p c.args.pending.items c.follow.new.pending.items c.follow.result
    (λ st. c.follow.ensures.next here here S n c.args.heap.now c.asked_plan.new.heap w (stage_of p w) scope c.len-depth.ensures c.len-depth.ensures st plans) in
    let stops = rw c.in-Err-follow.is at steps in
    err_turn (length c.args.pending.items + 2) c.args.script.now c.args.body c.args.cells S n _ c.args.heap.now c.asked_plan.new.heap w c.follow.new.pending.items c.in-Err-follow.stop stops

pub continue_with-requires : goal.continue_with-requires
continue_with-requires g c = subst (λ d. IsStacked 0 c.follow.new.pending.items d) c.len-depth.ensures c.in-Ok-follow.ensures.stacked

pub returns-in-Ok-follow-clause-turn : goal.returns-in-Ok-follow-clause-turn
returns-in-Ok-follow-clause-turn g c = λ S n w is same h.
    let here = context c.args.script.now c.args.body c.args.cells in
    let plans = rw c.in-Ok.is at (c.asked_plan.ensures.plans w h) in
    let p = asked_program here c.args.asked (answered c.args.answer) in
    let scope : IsInner here here = record { same = refl; front = take-length c.args.cells } in
    let steps = asked_step (length c.args.pending.items + 2) here S n c.args.heap.now c.asked_plan.new.heap w p c.args.pending.items c.follow.new.pending.items c.follow.result
    (λ st. c.follow.ensures.next here here S n c.args.heap.now c.asked_plan.new.heap w (stage_of p w) scope c.len-depth.ensures c.len-depth.ensures st plans) in
    let goes = rw c.in-Ok-follow.is at steps in
    c.continue_with.ensures.turn S n _ _ c.args.heap.now w is same goes

pub returns-in-Err-clause-sound : goal.returns-in-Err-clause-sound
returns-in-Err-clause-sound g c = λ w same h kept items.
    let here = context c.args.script.now c.args.body c.args.cells in
    let plans = rw c.in-Err.is at (c.asked_plan.ensures.plans w h) in
    sound_stops (is_some c.args.body.constructs) c.args.script.now here c.args.heap.now c.asked_plan.new.heap w c.args.pending.items c.in-Err.stop
    (stop_sound here here here (asked_program here c.args.asked (answered c.args.answer)) c.args.heap.now c.asked_plan.new.heap w c.args.pending.items c.in-Err.stop kept plans)

pub returns-in-Err-follow-clause-sound : goal.returns-in-Err-follow-clause-sound
returns-in-Err-follow-clause-sound g c = λ w same h kept items.
    let here = context c.args.script.now c.args.body c.args.cells in
    let plans = rw c.in-Ok.is at (c.asked_plan.ensures.plans w h) in
    let p = asked_program here c.args.asked (answered c.args.answer) in
    let scope : IsInner here here = record { same = refl; front = take-length c.args.cells } in
    let step = c.follow.ensures.sound here here p c.args.heap.now c.asked_plan.new.heap w scope c.len-depth.ensures c.len-depth.ensures kept items plans in
    let stops = rw c.in-Err-follow.is at step in sound_stops (is_some c.args.body.constructs) c.args.script.now here c.args.heap.now c.asked_plan.new.heap w c.follow.new.pending.items c.in-Err-follow.stop stops

pub returns-in-Ok-follow-clause-sound : goal.returns-in-Ok-follow-clause-sound
returns-in-Ok-follow-clause-sound g c = λ w same h kept items.
    let here = context c.args.script.now c.args.body c.args.cells in
    let plans = rw c.in-Ok.is at (c.asked_plan.ensures.plans w h) in
    let p = asked_program here c.args.asked (answered c.args.answer) in
    let scope : IsInner here here = record { same = refl; front = take-length c.args.cells } in
    let step = c.follow.ensures.sound here here p c.args.heap.now c.asked_plan.new.heap w scope c.len-depth.ensures c.len-depth.ensures kept items plans in
    let goes = rw c.in-Ok-follow.is at step in c.continue_with.ensures.sound c.args.heap.now w same goes

pub returns-in-Ok-follow-clause-belongs : goal.returns-in-Ok-follow-clause-belongs
returns-in-Ok-follow-clause-belongs g c = λ w v same h sound kept items here asks known hv.
    let script = c.args.script.now in
    let now = context script c.args.body c.args.cells in
    let plans = rw c.in-Ok.is at (c.asked_plan.ensures.plans w h) in
    let p = asked_program now c.args.asked (answered c.args.answer) in
    let scope : IsInner now now = record { same = refl; front = take-length c.args.cells } in
    let step = c.follow.ensures.sound now now p c.args.heap.now c.asked_plan.new.heap w scope c.len-depth.ensures c.len-depth.ensures kept items plans in
    let goes = rw c.in-Ok-follow.is at step in
    c.continue_with.ensures.belongs c.args.heap.now w v same goes
    (λ x hx.
    let a = c.args.heap.now in
    let b = c.asked_plan.new.heap in
    let r = c.asked_plan.ensures.retains in
    let later = here_later script a b w x c.args.body c.args.cells c.args.pending.items r h hx here in
    let plan = rw c.in-Ok.is at (c.asked_plan.ensures.named w x h sound hx (asked_later script a b w x c.args.asked r h hx asks) (answer_later script a b w x (answered c.args.answer) r h hx known)) in
    let next = rw c.in-Ok-follow.is at (c.follow.ensures.named script x.lists later.items plan) in (later.running, later.there, next))
    hv
