use Rattle.std.proofs.Common.{[], None, false, ◌∙◌, sym}
use Rattle.es_model.specs.declared.answers.Completion.TheVariants.{Throw}
use Rattle.property_keys.specs.declared.values.Value.TheVariants as value
use Rattle.object_heap.specs.Stands.{goes_none}
use Rattle.evaluator.specs.Contexts.{context}
use Rattle.evaluator.specs.Functions.{call_program, run_body}
use Rattle.evaluator.proofs.Beginning.{call_none, call_stage, call_stopped, called_turn, sound_ends, sound_on, stays_on, stopped_on, turn_ends, turn_on}
use Rattle.evaluator.proofs.Belonging.{turn_named}
use Rattle.evaluator.proofs.turns.start_body.Goals as goal

pub returns-in-None-clause-turn : goal.returns-in-None-clause-turn
returns-in-None-clause-turn g c = λ S n w is same h.
    turn_ends c.args.script.now S n c.args.heap.now c.args.heap.now w w (call_program c.args.script.now c.args.function c.args.callee c.args.this c.args.arguments) (Throw value.Undefined) (goes_none c.args.heap.now w h)
    (call_none c.args.script.now c.args.function c.args.callee c.args.this c.args.arguments w c.in-None.ensures)

pub returns-in-None-clause-sound : goal.returns-in-None-clause-sound
returns-in-None-clause-sound g c = λ w same h sound top there known all.
    sound_ends false c.args.script.now c.args.heap.now c.args.heap.now w w (call_program c.args.script.now c.args.function c.args.callee c.args.this c.args.arguments) (Throw value.Undefined) (goes_none c.args.heap.now w h)
    (call_none c.args.script.now c.args.function c.args.callee c.args.this c.args.arguments w c.in-None.ensures)
    (call_stopped c.args.script.now c.args.function c.args.callee c.args.this c.args.arguments w same sound top there known all) (λ t fits. tt {0})

pub run_body-requires : goal.run_body-requires
run_body-requires g c = sym c.in-Some.ensures

pub returns-clause-turn : goal.returns-clause-turn
returns-clause-turn g c = λ S n w is same h.
    let script = c.args.script.now in
    let goes = c.in_ok-receiver-in-Some.ensures.goes w h in
    let p = call_program script c.args.function c.args.callee c.args.this c.args.arguments in
    let q = run_body (context script c.running-body.result []) c.args.function c.in-Some.facts c.args.arguments in
    let e = call_stage script c.args.function c.args.callee c.args.this c.args.arguments c.in-Some.facts c.in_ok-receiver-in-Some.receiver c.running-body.result w c.in-Some.ensures (c.in_ok-receiver-in-Some.ensures.value w h) c.running-body.ensures in
    let st = stays_on p q w _ e in
    turn_on script S n c.args.heap.now c.bind_this.new.heap c.run_body.new.heap w _ p q c.run_body.result goes e (c.run_body.ensures.turn S n _ is (st.script ∙ same) goes.stands)

pub returns-clause-sound : goal.returns-clause-sound
returns-clause-sound g c = λ w same h sound top there known all.
    let script = c.args.script.now in
    let goes = c.in_ok-receiver-in-Some.ensures.goes w h in
    let p = call_program script c.args.function c.args.callee c.args.this c.args.arguments in
    let q = run_body (context script c.running-body.result []) c.args.function c.in-Some.facts c.args.arguments in
    let e = call_stage script c.args.function c.args.callee c.args.this c.args.arguments c.in-Some.facts c.in_ok-receiver-in-Some.receiver c.running-body.result w c.in-Some.ensures (c.in_ok-receiver-in-Some.ensures.value w h) c.running-body.ensures in
    let st = stays_on p q w _ e in
    let kept = call_stopped script c.args.function c.args.callee c.args.this c.args.arguments w same sound top there known all in
    sound_on false script c.args.heap.now c.bind_this.new.heap c.run_body.new.heap w _ p q c.run_body.result c.bind_this.ensures.retains h goes e
    (called_turn script c.bind_this.new.heap c.run_body.new.heap _ c.run_body.result c.args.function c.in-Some.facts c.args.callee c.in_ok-receiver-in-Some.receiver None c.running-body.result c.running-body.ensures
    (c.run_body.ensures.sound _ (st.script ∙ same) goes.stands (stopped_on p q w _ e kept)))

pub returns-clause-belongs : goal.returns-clause-belongs
returns-clause-belongs g c = λ w v same h sound top there known all hv last.
    let script = c.args.script.now in
    let goes = c.in_ok-receiver-in-Some.ensures.goes w h in
    let p = call_program script c.args.function c.args.callee c.args.this c.args.arguments in
    let q = run_body (context script c.running-body.result []) c.args.function c.in-Some.facts c.args.arguments in
    let e = call_stage script c.args.function c.args.callee c.args.this c.args.arguments c.in-Some.facts c.in_ok-receiver-in-Some.receiver c.running-body.result w c.in-Some.ensures (c.in_ok-receiver-in-Some.ensures.value w h) c.running-body.ensures in
    let st = stays_on p q w _ e in
    let kept = call_stopped script c.args.function c.args.callee c.args.this c.args.arguments w same sound top there known all in
    turn_named script v c.run_body.result last (c.run_body.ensures.belongs _ v (st.script ∙ same) goes.stands (stopped_on p q w _ e kept) hv)
