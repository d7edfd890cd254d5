use Rattle.std.proofs.Common.{true, ◌∙◌, sym, subst, ◌≡◌, Some, slice_get}
use Rattle.es_tree.specs.Tree.{Tree}
use Rattle.es_model.specs.declared.answers.Completion.TheVariants.{Throw}
use Rattle.property_keys.specs.declared.values.Value.TheVariants as value
use Rattle.es_model.specs.Completions.{answered}
use Rattle.object_heap.specs.Stands.{goes_none, goes_then}
use Rattle.function_objects.specs.Constructing.{noted_world, prototype_world}
use Rattle.function_objects.proofs.Constructed.{prototype_later}
use Rattle.evaluator.specs.Functions.{construct_answered, construct_on}
use Rattle.evaluator.proofs.Beginning.{answered_goes, answered_none, answered_throws, construction_stopped, sound_ends, sound_on, stays_on, stopped_on, throw_sound, turn_ends, turn_on}
use Rattle.evaluator.proofs.turns.construct_with.Goals as goal

pub returns-in-None-clause-turn : goal.returns-in-None-clause-turn
returns-in-None-clause-turn g c = λ S n w is same h.
    let k = c.args.construction in
    turn_ends c.args.script.now S n c.args.heap.now c.args.heap.now w w (construct_answered c.args.script.now k.function k.callee k.arguments k.target (answered c.args.answer)) (Throw value.Undefined) (goes_none c.args.heap.now w h)
    (answered_none c.args.script.now k.function k.callee k.arguments k.target (answered c.args.answer) w c.in-None.ensures)

pub returns-in-None-clause-sound : goal.returns-in-None-clause-sound
returns-in-None-clause-sound g c = λ w same h kept.
    let k = c.args.construction in
    sound_ends true c.args.script.now c.args.heap.now c.args.heap.now w w (construct_answered c.args.script.now k.function k.callee k.arguments k.target (answered c.args.answer)) (Throw value.Undefined) (goes_none c.args.heap.now w h)
    (answered_none c.args.script.now k.function k.callee k.arguments k.target (answered c.args.answer) w c.in-None.ensures) (construction_stopped c.args.script.now w k (answered c.args.answer) kept) (λ t fits. tt {0})

pub construct_on-requires : goal.construct_on-requires
construct_on-requires g c = sym c.in-Some.ensures

pub returns-in-Ok-clause-turn : goal.returns-in-Ok-clause-turn
returns-in-Ok-clause-turn g c = λ S n w is same h.
    let k = c.args.construction in
    let script = c.args.script.now in
    let d = answered c.args.answer in
    let u = prototype_world k.target d w in
    let goes = c.in_ok-found-in-Some.ensures.goes w h in
    let p = construct_answered script k.function k.callee k.arguments k.target d in
    let q = construct_on script k.function c.in-Some.facts k.callee k.arguments c.in-Ok.prototype in
    let e = answered_goes script k.function c.in-Some.facts k.callee k.arguments k.target d w c.in_ok-found-in-Some.found c.in-Ok.prototype c.in-Some.ensures (c.in_ok-found-in-Some.ensures.found w h) c.in-Ok.is in
    let st = stays_on p q w u e in
    turn_on script S n c.args.heap.now c.prototype_of.new.heap c.construct_on.new.heap w u p q c.construct_on.result goes e (c.construct_on.ensures.turn S n u is (st.script ∙ same) goes.stands)

pub returns-in-Ok-clause-sound : goal.returns-in-Ok-clause-sound
returns-in-Ok-clause-sound g c = λ w same h kept.
    let k = c.args.construction in
    let script = c.args.script.now in
    let d = answered c.args.answer in
    let u = prototype_world k.target d w in
    let goes = c.in_ok-found-in-Some.ensures.goes w h in
    let p = construct_answered script k.function k.callee k.arguments k.target d in
    let q = construct_on script k.function c.in-Some.facts k.callee k.arguments c.in-Ok.prototype in
    let e = answered_goes script k.function c.in-Some.facts k.callee k.arguments k.target d w c.in_ok-found-in-Some.found c.in-Ok.prototype c.in-Some.ensures (c.in_ok-found-in-Some.ensures.found w h) c.in-Ok.is in
    let st = stays_on p q w u e in
    sound_on true script c.args.heap.now c.prototype_of.new.heap c.construct_on.new.heap w u p q c.construct_on.result c.prototype_of.ensures.retains h goes e
    (c.construct_on.ensures.sound u (st.script ∙ same) goes.stands (stopped_on p q w u e (construction_stopped script w k d kept)))

pub returns-in-Ok-clause-belongs : goal.returns-in-Ok-clause-belongs
returns-in-Ok-clause-belongs g c = λ w v same h kept hv.
    let k = c.args.construction in
    let script = c.args.script.now in
    let d = answered c.args.answer in
    let u = prototype_world k.target d w in
    let goes = c.in_ok-found-in-Some.ensures.goes w h in
    let p = construct_answered script k.function k.callee k.arguments k.target d in
    let q = construct_on script k.function c.in-Some.facts k.callee k.arguments c.in-Ok.prototype in
    let e = answered_goes script k.function c.in-Some.facts k.callee k.arguments k.target d w c.in_ok-found-in-Some.found c.in-Ok.prototype c.in-Some.ensures (c.in_ok-found-in-Some.ensures.found w h) c.in-Ok.is in
    let st = stays_on p q w u e in c.construct_on.ensures.belongs u v (st.script ∙ same) goes.stands (stopped_on p q w u e (construction_stopped script w k d kept)) hv

pub returns-clause-turn : goal.returns-clause-turn
returns-clause-turn g c = λ S n w is same h.
    let k = c.args.construction in
    let script = c.args.script.now in
    let d = answered c.args.answer in
    let u = prototype_world k.target d w in
    let v = noted_world c.in-Some.facts u in
    let one = c.in_ok-found-in-Some.ensures.goes w h in
    let found = subst (λ (t : Tree). slice_get t.functions k.function.0 ≡ Some c.in-Some.facts) (sym ((prototype_later k.target d w).script ∙ same)) (sym c.in-Some.ensures) in
    let two = c.in_ok-note_construction-in-Err.ensures.goes u k.function.0 found one.stands in
    turn_ends script S n c.args.heap.now c.note_construction.new.heap w v (construct_answered script k.function k.callee k.arguments k.target d) (Throw c.in-Err.thrown)
    (goes_then c.args.heap.now c.prototype_of.new.heap c.note_construction.new.heap w u v one two)
    (answered_throws script k.function c.in-Some.facts k.callee k.arguments k.target d w c.in_ok-found-in-Some.found c.in-Err.thrown same c.in-Some.ensures (c.in_ok-found-in-Some.ensures.found w h) c.in-Err.is)

pub returns-clause-sound : goal.returns-clause-sound
returns-clause-sound g c = λ w same h kept.
    let k = c.args.construction in
    let script = c.args.script.now in
    let d = answered c.args.answer in
    let u = prototype_world k.target d w in
    let v = noted_world c.in-Some.facts u in
    let one = c.in_ok-found-in-Some.ensures.goes w h in
    let found = subst (λ (t : Tree). slice_get t.functions k.function.0 ≡ Some c.in-Some.facts) (sym ((prototype_later k.target d w).script ∙ same)) (sym c.in-Some.ensures) in
    let two = c.in_ok-note_construction-in-Err.ensures.goes u k.function.0 found one.stands in
    throw_sound script c.args.heap.now c.note_construction.new.heap w v k d c.in-Err.thrown kept (goes_then c.args.heap.now c.prototype_of.new.heap c.note_construction.new.heap w u v one two)
    (answered_throws script k.function c.in-Some.facts k.callee k.arguments k.target d w c.in_ok-found-in-Some.found c.in-Err.thrown same c.in-Some.ensures (c.in_ok-found-in-Some.ensures.found w h) c.in-Err.is)
