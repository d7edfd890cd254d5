use Rattle.std.proofs.Common.{◌∙◌, ap, refl}
use Rattle.es_model.specs.Program.{Of}
use Rattle.es_model.specs.Unwinding.{unwind}
use Rattle.es_model.proofs.Unwound.{unwind-none}
use Rattle.es_serve.specs.Serve.{model}
use Rattle.dispatcher.specs.declared.state.State.TheVariants.{Serving}
use Rattle.dispatcher.specs.Stack.{entry_rest, steps_for}
use Rattle.dispatcher.proofs.Loops.{request_paid, steps_first}
use Rattle.dispatcher.proofs.dispatching.Dispatcher.new.Goals as goal

pub returns-clause-left : goal.returns-clause-left
returns-clause-left c = λ w.
    ap (λ l. unwind (entry_rest c.args.script.now model) l (model 0 (Of c.args.request) w)) c.new.ensures.items ∙ unwind-none (entry_rest c.args.script.now model) (model 0 (Of c.args.request) w)

pub returns-clause-steps : goal.returns-clause-steps
returns-clause-steps c = λ w same h.
    steps_first c.args.script.now model c.new.result.items (Serving c.args.request 0) c.left-turns.result c.new-2.result w (request_paid c.args.script.now c.args.request w) refl c.new.ensures.items same
    (c.left-turns.ensures ∙ c.turns_ref.ensures w h) (c.new-2.ensures ∙ ap (λ d. steps_for c.left-turns.result d) c.most_definitions.ensures)
