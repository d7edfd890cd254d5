use Rattle.std.proofs.Common.{◌∙◌, ap, refl}
use Rattle.es_model.specs.Program.{run}
use Rattle.es_model.specs.Unwinding.{unwind}
use Rattle.es_model.proofs.Unwound.{unwind-none}
use Rattle.evaluator.specs.Functions.{script_program}
use Rattle.es_serve.specs.Serve.{model}
use Rattle.dispatcher.specs.declared.state.State.TheVariants.{Starting}
use Rattle.dispatcher.specs.Stack.{entry_rest, steps_for}
use Rattle.dispatcher.proofs.Loops.{script_paid, steps_first}
use Rattle.dispatcher.proofs.dispatching.Dispatcher.of_script.Goals as goal

pub returns-clause-left : goal.returns-clause-left
returns-clause-left c = λ w.
    let o = run model (script_program c.args.script.now) 0 w in
    ap (λ l. unwind (entry_rest c.args.script.now model) l o) c.new.ensures.items ∙ unwind-none (entry_rest c.args.script.now model) o

pub returns-clause-steps : goal.returns-clause-steps
returns-clause-steps c = λ w same h.
    steps_first c.args.script.now model c.new.result.items Starting c.left-turns.result c.new-2.result w (script_paid c.args.script.now w same) refl c.new.ensures.items same
    (c.left-turns.ensures ∙ c.turns_ref.ensures w h) (c.new-2.ensures ∙ ap (λ d. steps_for c.left-turns.result d) c.most_definitions.ensures)
