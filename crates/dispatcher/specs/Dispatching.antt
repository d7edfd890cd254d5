-- What a dispatcher comes to.
use Rattle.std.specs.Prelude.{◌<◌, ⊤, ℕ, Result, Ok, Err}
use Rattle.es_tree.specs.Tree.{Tree}
use Rattle.es_model.specs.declared.answers.Stop.{Stop}
use Rattle.es_model.specs.declared.answers.Stop.TheVariants.{Halted, NoMemory}
use Rattle.es_model.specs.Changes.{printed_more}
use Rattle.es_model.specs.Completions.{answered}
use Rattle.es_model.specs.Grows.{HasPrinted}
use Rattle.es_model.specs.Outcomes.{world_of}
use Rattle.es_model.specs.Program.{Outcome, Ended, Halt}
use Rattle.es_model.specs.Unwinding.{Reaches, Stays}
use Rattle.es_model.specs.World.{World}
use Rattle.object_heap.specs.Stands.{HeapView, Goes, Halts}
use Rattle.es_serve.specs.Lines.{line_bytes}
use Rattle.es_serve.specs.Serve.{model}
use Rattle.dispatcher.specs.declared.dispatching.Dispatcher.{Dispatcher}
use Rattle.dispatcher.specs.declared.dispatching.Event.{Event}
use Rattle.dispatcher.specs.declared.dispatching.Event.TheVariants.{Prints, Ends}
use Rattle.dispatcher.specs.Stack.{HasSteps, meaning}

-- what is left, by the model
abbrev pub outcome_left : Tree → Dispatcher → World → Outcome
outcome_left script d w = meaning script model d.stack.items d.state w

-- steps enough are left for it
abbrev pub HasStepsLeft : Tree → Dispatcher → World → Type 0
HasStepsLeft script d w = HasSteps script model d.stack.items d.state d.left w

-- how many steps are left
abbrev pub steps_left : Dispatcher → ℕ
steps_left d = d.left

-- where a line is printed fewer steps are left than before, whatever the heap is
abbrev pub StepsFall : ℕ → Result Event Stop → Type 0
StepsFall left (Ok (Prints line d)) = steps_left d < left
StepsFall left other = ⊤

-- From a world and what is left of it: the next line is printed, and the rest is what is left then; or the end with its answer. At a halt the model
-- halts, at this very turn. Up to there nothing is printed. Want of memory is free.
abbrev pub ComesTo : Tree → Outcome → HeapView → HeapView → World → Result Event Stop → Type 0
ComesTo script o old new w (Ok (Prints line d)) =
    (v : World) × Goes old new w v × Stays w v
    × Reaches o (outcome_left script d (printed_more v (line_bytes v.lists line)))
    × HasStepsLeft script d (printed_more v (line_bytes v.lists line))
ComesTo script o old new w (Ok (Ends c)) = (v : World) × Goes old new w v × Stays w v × Reaches o (Ended (answered c) v 0)
ComesTo script o old new w (Err Halted) = (v : World) × Halts old new w v × Stays w v × Reaches o (Halt v 0)
ComesTo script o old new w (Err NoMemory) = Unit {0}

-- what is left goes on behind what was printed: it takes back no line
abbrev pub PrintsOn : Type 0
PrintsOn = (script : Tree) (d : Dispatcher) (w : World) → HasPrinted w (world_of (outcome_left script d w))
