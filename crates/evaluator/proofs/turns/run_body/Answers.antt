use Rattle.std.specs.Prelude.{is_some}
use Rattle.std.proofs.Common.{[], Err, Ok, ◌∙◌}
use Rattle.std.proofs.lemmas.Option.{slice_get_within}
use Rattle.object_heap.specs.Stands.{goes_none}
use Rattle.es_model.specs.Program.{Program}
use Rattle.es_model.specs.declared.running.Part.TheVariants as part_of
use Rattle.evaluator.specs.Contexts.{Context, context}
use Rattle.evaluator.specs.Functions.{enter_function, run_body, run_part}
use Rattle.evaluator.proofs.Beginning.{enters_in, body_enters, body_throws, sound_ends, sound_halts, sound_on, stays_on, stopped_on, thrown_fits, turn_ends, turn_on, turn_stops}
use Rattle.evaluator.proofs.turns.run_body.Goals as goal

pub body-code-requires : goal.body-code-requires
body-code-requires g c = slice_get_within c.args.script.now.functions c.args.function.0 c.args.facts c.requires

pub returns-then-code-clause-turn : goal.returns-then-code-clause-turn
returns-then-code-clause-turn g c = λ S n w is same h.
    let here = context c.args.script.now c.args.body [] in
    let (v, goes, at) = c.in_ok-answer.ensures.answers [] w same h in
    let e = body_throws here c.args.function c.args.facts c.body-code.result.now c.args.arguments.now w c.body-code.ensures.body c.if-code.true in
    turn_ends c.args.script.now S n c.args.heap.now c.end_of_body.new.heap w v (run_body here c.args.function c.args.facts c.args.arguments.now) c.in_ok-answer.answer goes (e ∙ at)

pub returns-then-code-clause-sound : goal.returns-then-code-clause-sound
returns-then-code-clause-sound g c = λ w same h kept.
    let here = context c.args.script.now c.args.body [] in
    let (v, goes, at) = c.in_ok-answer.ensures.answers [] w same h in
    let e = body_throws here c.args.function c.args.facts c.body-code.result.now c.args.arguments.now w c.body-code.ensures.body c.if-code.true in
    sound_ends (is_some c.args.body.constructs) c.args.script.now c.args.heap.now c.end_of_body.new.heap w v (run_body here c.args.function c.args.facts c.args.arguments.now) c.in_ok-answer.answer goes (e ∙ at) kept
    (λ t fits. thrown_fits here w v c.in_ok-answer.answer at)

pub returns-in-Err-clause-turn : goal.returns-in-Err-clause-turn
returns-in-Err-clause-turn g c = λ S n w is same h.
    let here = context c.args.script.now c.args.body [] in
    let next : Context → Program = λ (x : Context). run_part x (part_of.Body c.args.function) in
    let e = body_enters here c.args.function c.args.facts c.body-code.result.now c.args.arguments.now w c.body-code.ensures.body c.if-code.false in
    let enters = enters_in c.args.script.now c.args.body c.new-cells.result c.args.facts c.body-code.result.now c.args.arguments.now c.args.heap.now c.enter_function.new.heap w (context c.args.script.now c.args.body c.enter_function.new.cells) c.enter_function.result (Err c.in-Err.stop) c.new-cells.ensures c.in-Err.is (c.enter_function.ensures.enters w h) in
    turn_on c.args.script.now S n c.args.heap.now c.args.heap.now c.enter_function.new.heap w w (run_body here c.args.function c.args.facts c.args.arguments.now) (enter_function here c.args.facts c.body-code.result.now c.args.arguments.now next) (Err c.in-Err.stop) (goes_none c.args.heap.now w h) e
    (turn_stops c.args.script.now S n c.args.heap.now c.enter_function.new.heap w (enter_function here c.args.facts c.body-code.result.now c.args.arguments.now) next (context c.args.script.now c.args.body c.enter_function.new.cells) c.in-Err.stop enters)

pub returns-in-Err-clause-sound : goal.returns-in-Err-clause-sound
returns-in-Err-clause-sound g c = λ w same h kept.
    let here = context c.args.script.now c.args.body [] in
    let next : Context → Program = λ (x : Context). run_part x (part_of.Body c.args.function) in
    let e = body_enters here c.args.function c.args.facts c.body-code.result.now c.args.arguments.now w c.body-code.ensures.body c.if-code.false in
    let enters = enters_in c.args.script.now c.args.body c.new-cells.result c.args.facts c.body-code.result.now c.args.arguments.now c.args.heap.now c.enter_function.new.heap w (context c.args.script.now c.args.body c.enter_function.new.cells) c.enter_function.result (Err c.in-Err.stop) c.new-cells.ensures c.in-Err.is (c.enter_function.ensures.enters w h) in
    sound_halts (is_some c.args.body.constructs) c.args.script.now c.args.heap.now c.enter_function.new.heap w (enter_function here c.args.facts c.body-code.result.now c.args.arguments.now) next (context c.args.script.now c.args.body c.enter_function.new.cells) c.in-Err.stop enters
    (stopped_on (run_body here c.args.function c.args.facts c.args.arguments.now) (enter_function here c.args.facts c.body-code.result.now c.args.arguments.now next) w w e kept)

pub returns-in-Ok-clause-turn : goal.returns-in-Ok-clause-turn
returns-in-Ok-clause-turn g c = λ S n w is same h.
    let here = context c.args.script.now c.args.body [] in
    let inner = context c.args.script.now c.args.body c.enter_function.new.cells in
    let next : Context → Program = λ (x : Context). run_part x (part_of.Body c.args.function) in
    let e = body_enters here c.args.function c.args.facts c.body-code.result.now c.args.arguments.now w c.body-code.ensures.body c.if-code.false in
    let (v, goes, at) = enters_in c.args.script.now c.args.body c.new-cells.result c.args.facts c.body-code.result.now c.args.arguments.now c.args.heap.now c.enter_function.new.heap w inner c.enter_function.result (Ok tt) c.new-cells.ensures c.in-Ok.is (c.enter_function.ensures.enters w h) in
    let p = run_body here c.args.function c.args.facts c.args.arguments.now in
    let st = stays_on p (next inner) w v (e ∙ at next) in
    turn_on c.args.script.now S n c.args.heap.now c.enter_function.new.heap c.begin.new.heap w v p (next inner) c.begin.result goes (e ∙ at next) (c.begin.ensures.turn S n v is (st.script ∙ same) goes.stands)

pub returns-in-Ok-clause-sound : goal.returns-in-Ok-clause-sound
returns-in-Ok-clause-sound g c = λ w same h kept.
    let here = context c.args.script.now c.args.body [] in
    let inner = context c.args.script.now c.args.body c.enter_function.new.cells in
    let next : Context → Program = λ (x : Context). run_part x (part_of.Body c.args.function) in
    let e = body_enters here c.args.function c.args.facts c.body-code.result.now c.args.arguments.now w c.body-code.ensures.body c.if-code.false in
    let (v, goes, at) = enters_in c.args.script.now c.args.body c.new-cells.result c.args.facts c.body-code.result.now c.args.arguments.now c.args.heap.now c.enter_function.new.heap w inner c.enter_function.result (Ok tt) c.new-cells.ensures c.in-Ok.is (c.enter_function.ensures.enters w h) in
    let p = run_body here c.args.function c.args.facts c.args.arguments.now in
    let st = stays_on p (next inner) w v (e ∙ at next) in
    sound_on (is_some c.args.body.constructs) c.args.script.now c.args.heap.now c.enter_function.new.heap c.begin.new.heap w v p (next inner) c.begin.result c.enter_function.ensures.retains h goes (e ∙ at next)
    (c.begin.ensures.sound v (st.script ∙ same) goes.stands (stopped_on p (next inner) w v (e ∙ at next) kept))

pub returns-in-Ok-clause-belongs : goal.returns-in-Ok-clause-belongs
returns-in-Ok-clause-belongs g c = λ w u same h kept hu.
    let here = context c.args.script.now c.args.body [] in
    let inner = context c.args.script.now c.args.body c.enter_function.new.cells in
    let next : Context → Program = λ (x : Context). run_part x (part_of.Body c.args.function) in
    let e = body_enters here c.args.function c.args.facts c.body-code.result.now c.args.arguments.now w c.body-code.ensures.body c.if-code.false in
    let (v, goes, at) = enters_in c.args.script.now c.args.body c.new-cells.result c.args.facts c.body-code.result.now c.args.arguments.now c.args.heap.now c.enter_function.new.heap w inner c.enter_function.result (Ok tt) c.new-cells.ensures c.in-Ok.is (c.enter_function.ensures.enters w h) in
    let p = run_body here c.args.function c.args.facts c.args.arguments.now in
    let st = stays_on p (next inner) w v (e ∙ at next) in
    c.begin.ensures.belongs v u (st.script ∙ same) goes.stands (stopped_on p (next inner) w v (e ∙ at next) kept) hu
