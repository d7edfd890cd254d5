use Rattle.std.proofs.Common.{◌≡◌, true, [], Some, ◌∙◌, slice_get, sym, subst}
use Rattle.es_tree.specs.Tree.{Tree}
use Rattle.property_keys.specs.declared.values.Value.TheVariants as value
use Rattle.function_objects.specs.Constructing.{constructed_world}
use Rattle.evaluator.specs.Contexts.{context}
use Rattle.evaluator.specs.Functions.{construct_on, run_body}
use Rattle.evaluator.proofs.Beginning.{called_turn, construct_stage, sound_on, stays_on, stopped_on, turn_on}
use Rattle.evaluator.proofs.turns.construct_on.Goals as goal

pub run_body-requires : goal.run_body-requires
run_body-requires g c = c.requires

pub returns-clause-turn : goal.returns-clause-turn
returns-clause-turn g c = λ S n w is same h.
    let script = c.args.script.now in
    let found = subst (λ (t : Tree). slice_get t.functions c.args.function.0 ≡ Some c.args.facts) (sym same) c.requires in
    let u = constructed_world c.args.facts c.args.prototype w in
    let goes = c.in_ok-object.ensures.goes w c.args.function.0 found h in
    let p = construct_on script c.args.function c.args.facts c.args.callee c.args.arguments.now c.args.prototype in
    let q = run_body (context script c.running-body.result []) c.args.function c.args.facts c.args.arguments.now in
    let e = construct_stage script c.args.function c.args.facts c.args.callee c.args.arguments.now c.args.prototype c.in_ok-object.object c.running-body.result w same (c.in_ok-object.ensures.object w c.args.function.0 found h) c.running-body.ensures in
    let st = stays_on p q w u e in
    turn_on script S n c.args.heap.now c.new_constructed.new.heap c.run_body.new.heap w u p q c.run_body.result goes e (c.run_body.ensures.turn S n u is (st.script ∙ same) goes.stands)

pub returns-clause-sound : goal.returns-clause-sound
returns-clause-sound g c = λ w same h kept.
    let script = c.args.script.now in
    let found = subst (λ (t : Tree). slice_get t.functions c.args.function.0 ≡ Some c.args.facts) (sym same) c.requires in
    let u = constructed_world c.args.facts c.args.prototype w in
    let goes = c.in_ok-object.ensures.goes w c.args.function.0 found h in
    let p = construct_on script c.args.function c.args.facts c.args.callee c.args.arguments.now c.args.prototype in
    let q = run_body (context script c.running-body.result []) c.args.function c.args.facts c.args.arguments.now in
    let e = construct_stage script c.args.function c.args.facts c.args.callee c.args.arguments.now c.args.prototype c.in_ok-object.object c.running-body.result w same (c.in_ok-object.ensures.object w c.args.function.0 found h) c.running-body.ensures in
    let st = stays_on p q w u e in
    sound_on true script c.args.heap.now c.new_constructed.new.heap c.run_body.new.heap w u p q c.run_body.result c.new_constructed.ensures.retains h goes e
    (called_turn script c.new_constructed.new.heap c.run_body.new.heap u c.run_body.result c.args.function c.args.facts c.args.callee (value.Object c.in_ok-object.object) (Some c.in_ok-object.object) c.running-body.result c.running-body.ensures
    (c.run_body.ensures.sound u (st.script ∙ same) goes.stands (stopped_on p q w u e kept)))

pub returns-clause-belongs : goal.returns-clause-belongs
returns-clause-belongs g c = λ w v same h kept hv.
    let script = c.args.script.now in
    let found = subst (λ (t : Tree). slice_get t.functions c.args.function.0 ≡ Some c.args.facts) (sym same) c.requires in
    let u = constructed_world c.args.facts c.args.prototype w in
    let goes = c.in_ok-object.ensures.goes w c.args.function.0 found h in
    let p = construct_on script c.args.function c.args.facts c.args.callee c.args.arguments.now c.args.prototype in
    let q = run_body (context script c.running-body.result []) c.args.function c.args.facts c.args.arguments.now in
    let e = construct_stage script c.args.function c.args.facts c.args.callee c.args.arguments.now c.args.prototype c.in_ok-object.object c.running-body.result w same (c.in_ok-object.ensures.object w c.args.function.0 found h) c.running-body.ensures in
    let st = stays_on p q w u e in c.run_body.ensures.belongs u v (st.script ∙ same) goes.stands (stopped_on p q w u e kept) hv
