use Rattle.std.proofs.Common.{Ok, Err, false, ◌∙◌}
use Rattle.es_tree.specs.Tree.{top_names}
use Rattle.es_model.specs.Program.{Program}
use Rattle.object_heap.specs.Stands.{goes_then}
use Rattle.object_heap.proofs.Retaining.{retains_then}
use Rattle.es_model.specs.declared.running.Part.TheVariants as part_of
use Rattle.evaluator.specs.Contexts.{Context, context}
use Rattle.evaluator.specs.Functions.{declare_functions, run_part, script_program}
use Rattle.evaluator.specs.Scopes.{world_with}
use Rattle.evaluator.proofs.Beginning.{declares_in, script_stage, script_stopped, script_turn, sound_halts, sound_on, stays_on, stopped_on, turn_on, turn_stops}
use Rattle.evaluator.proofs.Belonging.{turn_named}
use Rattle.evaluator.proofs.turns.start_script.Goals as goal

pub returns-in-Err-clause-turn : goal.returns-in-Err-clause-turn
returns-in-Err-clause-turn g c = λ S n w is same h.
    let script = c.args.script.now in
    let u = world_with (top_names script) w in
    let top = context script c.script_running-body.result c.make_cells.new.cells in
    let next : Context → Program = λ (x : Context). run_part (context script c.script_running-body.result c.new-cells.result) part_of.Script in
    let goes = rw c.top_names.ensures at (c.in_ok-make_cells.ensures.goes w h) in
    let made = rw c.new-top.ensures at (rw c.top_names.ensures at (c.in_ok-make_cells.ensures.cells w h)) in
    let e = script_stage script c.script_running-body.result c.make_cells.new.cells c.new-cells.result w c.script_running-body.ensures c.new-cells.ensures made in
    let declares = declares_in top c.script.result.now script.script c.make_cells.new.heap c.declare_functions.new.heap u c.declare_functions.result (Err c.in-Err.stop) c.script.ensures.script c.in-Err.is (c.declare_functions.ensures.declares u goes.stands) in
    turn_on script S n c.args.heap.now c.make_cells.new.heap c.declare_functions.new.heap w u (script_program script) (declare_functions top script.script.declared (next top)) (Err c.in-Err.stop) goes e
    (turn_stops script S n c.make_cells.new.heap c.declare_functions.new.heap u (λ (k : Context → Program). declare_functions top script.script.declared (k top)) next top c.in-Err.stop declares)

pub returns-in-Err-clause-sound : goal.returns-in-Err-clause-sound
returns-in-Err-clause-sound g c = λ w same h sound.
    let script = c.args.script.now in
    let u = world_with (top_names script) w in
    let top = context script c.script_running-body.result c.make_cells.new.cells in
    let next : Context → Program = λ (x : Context). run_part (context script c.script_running-body.result c.new-cells.result) part_of.Script in
    let goes = rw c.top_names.ensures at (c.in_ok-make_cells.ensures.goes w h) in
    let made = rw c.new-top.ensures at (rw c.top_names.ensures at (c.in_ok-make_cells.ensures.cells w h)) in
    let e = script_stage script c.script_running-body.result c.make_cells.new.cells c.new-cells.result w c.script_running-body.ensures c.new-cells.ensures made in
    let declares = declares_in top c.script.result.now script.script c.make_cells.new.heap c.declare_functions.new.heap u c.declare_functions.result (Err c.in-Err.stop) c.script.ensures.script c.in-Err.is (c.declare_functions.ensures.declares u goes.stands) in
    let p = script_program script in
    let q = declare_functions top script.script.declared (next top) in
    sound_on false script c.args.heap.now c.make_cells.new.heap c.declare_functions.new.heap w u p q (Err c.in-Err.stop) c.make_cells.ensures.retains h goes e
    (sound_halts false script c.make_cells.new.heap c.declare_functions.new.heap u (λ (k : Context → Program). declare_functions top script.script.declared (k top)) next top c.in-Err.stop declares
    (stopped_on p q w u e (script_stopped script w same sound)))

pub returns-clause-turn : goal.returns-clause-turn
returns-clause-turn g c = λ S n w is same h.
    let script = c.args.script.now in
    let u = world_with (top_names script) w in
    let top = context script c.script_running-body.result c.make_cells.new.cells in
    let p = script_program script in
    let q = run_part (context script c.script_running-body.result c.new-cells.result) part_of.Script in
    let next : Context → Program = λ (x : Context). q in
    let one = rw c.top_names.ensures at (c.in_ok-make_cells.ensures.goes w h) in
    let made = rw c.new-top.ensures at (rw c.top_names.ensures at (c.in_ok-make_cells.ensures.cells w h)) in
    let e = script_stage script c.script_running-body.result c.make_cells.new.cells c.new-cells.result w c.script_running-body.ensures c.new-cells.ensures made in
    let (v, two, at) = declares_in top c.script.result.now script.script c.make_cells.new.heap c.declare_functions.new.heap u c.declare_functions.result (Ok tt) c.script.ensures.script c.in-Ok.is (c.declare_functions.ensures.declares u one.stands) in
    let st = stays_on p q w v (e ∙ at next) in
    turn_on script S n c.args.heap.now c.declare_functions.new.heap c.begin.new.heap w v p q c.begin.result (goes_then c.args.heap.now c.make_cells.new.heap c.declare_functions.new.heap w u v one two) (e ∙ at next)
    (c.begin.ensures.turn S n v is (st.script ∙ same) two.stands)

pub returns-clause-sound : goal.returns-clause-sound
returns-clause-sound g c = λ w same h sound.
    let script = c.args.script.now in
    let u = world_with (top_names script) w in
    let top = context script c.script_running-body.result c.make_cells.new.cells in
    let p = script_program script in
    let q = run_part (context script c.script_running-body.result c.new-cells.result) part_of.Script in
    let next : Context → Program = λ (x : Context). q in
    let one = rw c.top_names.ensures at (c.in_ok-make_cells.ensures.goes w h) in
    let made = rw c.new-top.ensures at (rw c.top_names.ensures at (c.in_ok-make_cells.ensures.cells w h)) in
    let e = script_stage script c.script_running-body.result c.make_cells.new.cells c.new-cells.result w c.script_running-body.ensures c.new-cells.ensures made in
    let (v, two, at) = declares_in top c.script.result.now script.script c.make_cells.new.heap c.declare_functions.new.heap u c.declare_functions.result (Ok tt) c.script.ensures.script c.in-Ok.is (c.declare_functions.ensures.declares u one.stands) in
    let st = stays_on p q w v (e ∙ at next) in
    sound_on false script c.args.heap.now c.declare_functions.new.heap c.begin.new.heap w v p q c.begin.result (retains_then _ _ _ c.make_cells.ensures.retains c.declare_functions.ensures.retains) h
    (goes_then c.args.heap.now c.make_cells.new.heap c.declare_functions.new.heap w u v one two) (e ∙ at next)
    (script_turn script c.declare_functions.new.heap c.begin.new.heap v c.begin.result c.script_running-body.result c.script_running-body.ensures
    (c.begin.ensures.sound v (st.script ∙ same) two.stands (stopped_on p q w v (e ∙ at next) (script_stopped script w same sound))))

pub returns-clause-belongs : goal.returns-clause-belongs
returns-clause-belongs g c = λ w x same h sound hx last.
    let script = c.args.script.now in
    let u = world_with (top_names script) w in
    let top = context script c.script_running-body.result c.make_cells.new.cells in
    let p = script_program script in
    let q = run_part (context script c.script_running-body.result c.new-cells.result) part_of.Script in
    let next : Context → Program = λ (y : Context). q in
    let one = rw c.top_names.ensures at (c.in_ok-make_cells.ensures.goes w h) in
    let made = rw c.new-top.ensures at (rw c.top_names.ensures at (c.in_ok-make_cells.ensures.cells w h)) in
    let e = script_stage script c.script_running-body.result c.make_cells.new.cells c.new-cells.result w c.script_running-body.ensures c.new-cells.ensures made in
    let (v, two, at) = declares_in top c.script.result.now script.script c.make_cells.new.heap c.declare_functions.new.heap u c.declare_functions.result (Ok tt) c.script.ensures.script c.in-Ok.is (c.declare_functions.ensures.declares u one.stands) in
    let st = stays_on p q w v (e ∙ at next) in
    turn_named script x c.begin.result last (c.begin.ensures.belongs v x (st.script ∙ same) two.stands (stopped_on p q w v (e ∙ at next) (script_stopped script w same sound)) hx)
