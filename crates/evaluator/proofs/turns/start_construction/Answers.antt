use Rattle.std.proofs.Common.{true}
use Rattle.std.specs.Prelude.{codes}
use Rattle.es_model.specs.declared.answers.Completion.TheVariants.{Throw}
use Rattle.property_keys.specs.declared.values.Value.TheVariants as value
use Rattle.es_model.specs.Changes.{Interning, changed}
use Rattle.object_heap.specs.Stands.{goes_none}
use Rattle.evaluator.specs.declared.frames.Construction.{Construction}
use Rattle.evaluator.specs.Functions.{construct_program}
use Rattle.evaluator.proofs.Beginning.{construct_asks, construct_named, construct_none, construct_sound, construct_stopped, construct_turn, sound_ends, turn_ends}
use Rattle.evaluator.proofs.Belonging.{turn_named}
use Rattle.evaluator.proofs.turns.start_construction.Goals as goal

pub returns-in-None-clause-turn : goal.returns-in-None-clause-turn
returns-in-None-clause-turn c = λ S n w is same h.
    turn_ends c.args.script.now S n c.args.heap.now c.args.heap.now w w (construct_program c.args.script.now c.args.function c.args.callee c.args.arguments c.args.target) (Throw value.Undefined) (goes_none c.args.heap.now w h)
    (construct_none c.args.script.now c.args.function c.args.callee c.args.arguments c.args.target w c.in-None.ensures)

pub returns-in-None-clause-sound : goal.returns-in-None-clause-sound
returns-in-None-clause-sound c = λ w same h sound top callee all target.
    sound_ends true c.args.script.now c.args.heap.now c.args.heap.now w w (construct_program c.args.script.now c.args.function c.args.callee c.args.arguments c.args.target) (Throw value.Undefined) (goes_none c.args.heap.now w h)
    (construct_none c.args.script.now c.args.function c.args.callee c.args.arguments c.args.target w c.in-None.ensures)
    (construct_stopped c.args.script.now c.args.function c.args.callee c.args.arguments c.args.target w same sound top callee all target) (λ t fits. tt {0})

pub returns-in_ok-request-in-Some-clause-turn : goal.returns-in_ok-request-in-Some-clause-turn
returns-in_ok-request-in-Some-clause-turn c = λ S n w is same h.
    let k : Construction = record { function = c.args.function; callee = c.args.callee; arguments = c.args.arguments; target = c.args.target } in
    let goes = c.in_ok-request-in-Some.ensures.goes w h in
    construct_turn c.args.script.now S n c.args.heap.now c.prototype_request.new.heap w (changed (Interning (codes "prototype")) w) (construct_program c.args.script.now c.args.function c.args.callee c.args.arguments c.args.target) c.in_ok-request-in-Some.request k goes
    (construct_asks c.args.script.now k c.in_ok-request-in-Some.request c.in-Some.field-0 w c.in-Some.ensures (c.in_ok-request-in-Some.ensures.request w h))

pub returns-in_ok-request-in-Some-clause-sound : goal.returns-in_ok-request-in-Some-clause-sound
returns-in_ok-request-in-Some-clause-sound c = λ w same h sound top callee all target.
    let k : Construction = record { function = c.args.function; callee = c.args.callee; arguments = c.args.arguments; target = c.args.target } in
    let goes = c.in_ok-request-in-Some.ensures.goes w h in
    construct_sound c.args.script.now c.args.heap.now c.prototype_request.new.heap w (changed (Interning (codes "prototype")) w) c.in_ok-request-in-Some.request k same sound top callee all target goes
    (construct_asks c.args.script.now k c.in_ok-request-in-Some.request c.in-Some.field-0 w c.in-Some.ensures (c.in_ok-request-in-Some.ensures.request w h))

pub returns-in_ok-request-in-Some-clause-belongs : goal.returns-in_ok-request-in-Some-clause-belongs
returns-in_ok-request-in-Some-clause-belongs c = λ w v same h top callee all target hv last.
    let k : Construction = record { function = c.args.function; callee = c.args.callee; arguments = c.args.arguments; target = c.args.target } in
    turn_named c.args.script.now v _ last
    (construct_named c.args.script.now c.args.heap.now c.prototype_request.new.heap w v c.in_ok-request-in-Some.request k c.in-Some.field-0 c.in-Some.ensures (c.in_ok-request-in-Some.ensures.request w h) top callee all target c.prototype_request.ensures.retains h hv)
