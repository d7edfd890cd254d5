use Rattle.std.specs.Prelude.{is_some}
use Rattle.std.proofs.Common.{◌≡◌, ◌≤◌, ◌+◌, ◌*◌, arith, ◌∙◌, ap, sym, subst, Ok, length}
use Rattle.std.proofs.lemmas.Bool.{OnFalse_at, OnTrue_at}
use Rattle.es_model.specs.Weights.{renewed}
use Rattle.object_heap.proofs.Retaining.{retains_none, retains_then}
use Rattle.evaluator.specs.Contexts.{context}
use Rattle.evaluator.specs.Machine.{steps_for}
use Rattle.evaluator.proofs.Bounded.{job_server, job_serves, some_left, steps_enough}
use Rattle.evaluator.proofs.Looped.{frame_turn, stood_asks, stood_ends, stood_first, stood_on, stood_stops}
use Rattle.evaluator.proofs.Sounding.{sound_asks, sound_first, sound_on, sound_stops}
use Rattle.evaluator.proofs.Belonging.{asks_named, goes_named, here_later, step_named}
use Rattle.evaluator.proofs.machine.go.Goals as goal

pub steps-init : goal.steps-init
steps-init g c = record {
  stacked = c.requires;
  stood = λ S n w is same h.
      let script = c.args.script.now in
      let turns : c.left.result ≡ w.turns = c.left.ensures ∙ c.turns_ref.ensures w h in
      let long : c.len.result ≡ length c.args.pending.items = omega (arith, c.len.ensures, c.args.pending.ok.0) in
      let all = c.new-left.ensures ∙ ap (λ t. steps_for t c.len.result c.most_definitions.result) turns ∙ ap (λ k. steps_for w.turns k c.most_definitions.result) long
      ∙ ap (steps_for w.turns (length c.args.pending.items)) c.most_definitions.ensures in
      let most = 2 * (renewed script + (2 * renewed script) * w.turns + renewed script * length c.args.pending.items) + 3 in
      let some = subst (λ x. most + length c.args.pending.items ≤ x) (sym all) (steps_enough script w.turns (length c.args.pending.items)) in
      stood_first c.new-left.result most script c.args.body S n c.args.heap.now w c.args.cells c.args.pending.items c.args.current some h;
  sound = λ w same h current items. sound_first (context c.args.script.now c.args.body c.args.cells) c.args.heap.now w c.args.pending.items c.args.current h current items;
  named = λ w x hw hx same current items here. here_later c.args.script.now c.args.heap.now c.args.heap.now w x c.args.body c.args.cells c.args.pending.items (retains_none c.args.heap.now) hw hx here;
  retains = retains_none c.args.heap.now;
}

-- a step is left in each world that the heap stands for
pub returns-then-not-take_one-clause-turn : goal.returns-then-not-take_one-clause-turn
returns-then-not-take_one-clause-turn g c = λ S n w is same h.
    let some = some_left c.steps.left c.args.script.now c.args.body 0 c.args.heap.now c.steps.heap w c.args.cells c.args.pending.items c.args.current c.steps.cells c.steps.pending.items c.steps.current same (c.steps.invariant.stood job_server 0 w job_serves same h) in
    let none = OnFalse_at c.if-not-take_one.true c.take_one.ensures.none in absurd (omega (arith, some, none))

pub returns-then-not-take_one-clause-sound : goal.returns-then-not-take_one-clause-sound
returns-then-not-take_one-clause-sound g c = λ w same h current items.
    let some = some_left c.steps.left c.args.script.now c.args.body 0 c.args.heap.now c.steps.heap w c.args.cells c.args.pending.items c.args.current c.steps.cells c.steps.pending.items c.steps.current same (c.steps.invariant.stood job_server 0 w job_serves same h) in
    let none = OnFalse_at c.if-not-take_one.true c.take_one.ensures.none in absurd (omega (arith, some, none))

pub step-requires : goal.step-requires
step-requires g c = c.steps.invariant.stacked

pub steps-smaller : goal.steps-smaller
steps-smaller g c = let one = OnTrue_at c.if-not-take_one.false c.take_one.ensures.one in omega (arith, one)

pub steps-preserved : goal.steps-preserved
steps-preserved g c = record {
  stacked = c.in-Ok-GoOn.ensures.stacked;
  stood = λ S n w is same h.
      stood_on c.steps.left c.take_one.new.self _ c.args.script.now c.args.body S n c.args.heap.now c.steps.heap c.step.new.heap w c.args.cells c.args.pending.items c.args.current c.steps.cells c.step.new.cells c.steps.pending.items c.step.new.pending.items c.steps.current c.in-Ok-GoOn.next c.step.result (OnTrue_at c.if-not-take_one.false c.take_one.ensures.one) same (c.steps.invariant.stood S n w is same h)
      (c.in-Ok-GoOn.is ∙ ap (λ x. Ok x) c.in-Ok-GoOn.field-0-is) (λ v sv hv. c.step.ensures.next S n v is sv hv);
  sound = λ w same h current items.
      sound_on c.args.script.now c.args.body c.args.heap.now c.steps.heap c.step.new.heap w c.steps.cells c.step.new.cells c.steps.pending.items c.step.new.pending.items c.steps.current c.step.result _ same (c.steps.invariant.sound w same h current items)
      (c.in-Ok-GoOn.is ∙ ap (λ x. Ok x) c.in-Ok-GoOn.field-0-is) (λ v sv hv now ps. c.step.ensures.sound v sv hv now ps);
  named = λ w u hw hu same current items here.
      goes_named c.args.script.now u.lists c.args.body c.step.new.cells c.step.new.pending.items c.in-Ok-GoOn.next
      (step_named c.args.script.now c.args.body c.args.heap.now c.steps.heap c.step.new.heap w u c.steps.cells c.step.new.cells c.steps.pending.items c.step.new.pending.items c.steps.current c.step.result _ same
      (c.steps.invariant.sound w same hw current items) (λ x hx. c.steps.invariant.named w x hw hx same current items here) c.step.ensures.retains hu (c.in-Ok-GoOn.is ∙ ap (λ x. Ok x) c.in-Ok-GoOn.field-0-is)
      (λ x y sx hx sound hy running now ps. c.step.ensures.named x y sx hx sound hy running now ps) (λ x y hx hy cells. c.step.ensures.known x y hx hy cells));
  retains = retains_then _ _ _ c.steps.invariant.retains c.step.ensures.retains;
}

pub returns-in-Ok-Asks-clause-turn : goal.returns-in-Ok-Asks-clause-turn
returns-in-Ok-Asks-clause-turn g c = λ S n w is same h.
    frame_turn c.args.script.now c.args.body S n c.args.heap.now c.step.new.heap w _ c.step.new.cells c.step.new.pending.items c.in-Ok-Asks.request c.in-Ok-Asks.asked c.waiting.result c.waiting.ensures
    (stood_asks (c.steps.left + 3) _ c.args.script.now c.args.body S n c.args.heap.now c.steps.heap c.step.new.heap w c.args.cells c.args.pending.items c.args.current c.steps.cells c.step.new.cells c.steps.pending.items c.step.new.pending.items c.steps.current c.in-Ok-Asks.request c.in-Ok-Asks.asked c.step.result same (c.steps.invariant.stood S n w is same h)
    (c.in-Ok-Asks.is ∙ ap (λ x. Ok x) c.in-Ok-Asks.field-0-is) (λ v sv hv. c.step.ensures.next S n v is sv hv))

pub returns-in-Ok-Asks-clause-sound : goal.returns-in-Ok-Asks-clause-sound
returns-in-Ok-Asks-clause-sound g c = λ w same h current items.
    sound_asks c.args.script.now c.args.body c.args.heap.now c.step.new.heap w c.step.new.cells c.step.new.pending.items c.in-Ok-Asks.request c.in-Ok-Asks.asked c.waiting.result c.waiting.ensures
    (sound_on c.args.script.now c.args.body c.args.heap.now c.steps.heap c.step.new.heap w c.steps.cells c.step.new.cells c.steps.pending.items c.step.new.pending.items c.steps.current c.step.result _ same (c.steps.invariant.sound w same h current items)
    (c.in-Ok-Asks.is ∙ ap (λ x. Ok x) c.in-Ok-Asks.field-0-is) (λ v sv hv now ps. c.step.ensures.sound v sv hv now ps))

pub returns-in-Ok-Ends-clause-turn : goal.returns-in-Ok-Ends-clause-turn
returns-in-Ok-Ends-clause-turn g c = λ S n w is same h.
    stood_ends (c.steps.left + 3) _ c.args.script.now c.args.body S n c.args.heap.now c.steps.heap c.step.new.heap w c.args.cells c.args.pending.items c.args.current c.steps.cells c.step.new.cells c.steps.pending.items c.step.new.pending.items c.steps.current c.in-Ok-Ends.answer c.step.result same (c.steps.invariant.stood S n w is same h)
    (c.in-Ok-Ends.is ∙ ap (λ x. Ok x) c.in-Ok-Ends.field-0-is) (λ v sv hv. c.step.ensures.next S n v is sv hv)

pub returns-in-Ok-Ends-clause-sound : goal.returns-in-Ok-Ends-clause-sound
returns-in-Ok-Ends-clause-sound g c = λ w same h current items.
    sound_on c.args.script.now c.args.body c.args.heap.now c.steps.heap c.step.new.heap w c.steps.cells c.step.new.cells c.steps.pending.items c.step.new.pending.items c.steps.current c.step.result _ same (c.steps.invariant.sound w same h current items)
    (c.in-Ok-Ends.is ∙ ap (λ x. Ok x) c.in-Ok-Ends.field-0-is) (λ v sv hv now ps. c.step.ensures.sound v sv hv now ps)

pub returns-in-Err-clause-turn : goal.returns-in-Err-clause-turn
returns-in-Err-clause-turn g c = λ S n w is same h.
    stood_stops (c.steps.left + 3) _ c.args.script.now c.args.body S n c.args.heap.now c.steps.heap c.step.new.heap w c.args.cells c.args.pending.items c.args.current c.steps.cells c.step.new.cells c.steps.pending.items c.step.new.pending.items c.steps.current c.in-Err.stop c.step.result same (c.steps.invariant.stood S n w is same h) c.in-Err.is (λ v sv hv. c.step.ensures.next S n v is sv hv)

pub returns-in-Err-clause-sound : goal.returns-in-Err-clause-sound
returns-in-Err-clause-sound g c = λ w same h current items.
    sound_stops (is_some c.args.body.constructs) c.args.script.now (context c.args.script.now c.args.body c.step.new.cells) c.args.heap.now c.step.new.heap w c.step.new.pending.items c.in-Err.stop
    (sound_on c.args.script.now c.args.body c.args.heap.now c.steps.heap c.step.new.heap w c.steps.cells c.step.new.cells c.steps.pending.items c.step.new.pending.items c.steps.current c.step.result _ same (c.steps.invariant.sound w same h current items) c.in-Err.is (λ v sv hv now ps. c.step.ensures.sound v sv hv now ps))

pub returns-in-Ok-Asks-clause-belongs : goal.returns-in-Ok-Asks-clause-belongs
returns-in-Ok-Asks-clause-belongs g c = λ w v same hw current items here hv.
    asks_named c.args.script.now v.lists c.args.body c.step.new.cells c.step.new.pending.items c.in-Ok-Asks.request c.in-Ok-Asks.asked c.waiting.result c.waiting.ensures
    (step_named c.args.script.now c.args.body c.args.heap.now c.steps.heap c.step.new.heap w v c.steps.cells c.step.new.cells c.steps.pending.items c.step.new.pending.items c.steps.current c.step.result _ same
    (c.steps.invariant.sound w same hw current items) (λ x hx. c.steps.invariant.named w x hw hx same current items here) c.step.ensures.retains hv (c.in-Ok-Asks.is ∙ ap (λ x. Ok x) c.in-Ok-Asks.field-0-is)
    (λ x y sx hx sound hy running now ps. c.step.ensures.named x y sx hx sound hy running now ps) (λ x y hx hy cells. c.step.ensures.known x y hx hy cells))
