-- What the frames that wait and what is in hand mean, whoever serves.
use Rattle.std.specs.Prelude.{◌≤◌, ◌+◌, ◌*◌, ℕ, List, Result, Ok, Err, length}
use Rattle.property_keys.specs.declared.values.Value.{Value}
use Rattle.es_tree.specs.Tree.{Tree}
use Rattle.es_model.specs.declared.answers.Stop.{Stop}
use Rattle.es_model.specs.declared.answers.Stop.TheVariants.{Halted, NoMemory}
use Rattle.es_model.specs.Changes.{printed_more}
use Rattle.es_model.specs.Completions.{Completion, answered}
use Rattle.es_model.specs.Outcomes.{requests_of}
use Rattle.es_model.specs.Program.{Of, Outcome, Ended, Halt, Server, run}
use Rattle.es_model.specs.Unwinding.{Nears, Reaches, Stays, unwind}
use Rattle.es_model.specs.World.{World}
use Rattle.es_model.specs.programs.Errors.{undefined}
use Rattle.evaluator.specs.Functions.{script_program}
use Rattle.object_heap.specs.Stands.{HeapView, Goes, Halts}
use Rattle.es_serve.specs.Lines.{line_bytes}
use Rattle.dispatcher.specs.declared.state.Entry.{Entry}
use Rattle.dispatcher.specs.declared.state.State.{State}
use Rattle.dispatcher.specs.declared.state.State.TheVariants.{Starting, Serving, Returning}
use Rattle.dispatcher.specs.declared.state.Next.{Next}
use Rattle.dispatcher.specs.declared.state.Next.TheVariants.{GoOn, Prints, Ends}
use Rattle.dispatcher.specs.Rests.{frame_rest}

-- ---- meanings

abbrev pub entry_rest : Tree → Server → Entry → Completion → World → Outcome
entry_rest script S e = frame_rest script e.frame S e.nested

-- what the script, the request or the answer in hand comes to
abbrev pub in_hand : Tree → Server → State → World → Outcome
in_hand script S Starting w = run S (script_program script) 0 w
in_hand script S (Serving q n) w = S n (Of q) w
in_hand script S (Returning c) w = Ended (answered c) w 0

-- the same with the frames that wait
abbrev pub meaning : Tree → Server → List Entry → State → World → Outcome
meaning script S stack state w = unwind (entry_rest script S) stack (in_hand script S state w)

-- once a line is printed, undefined is the answer
abbrev pub line_printed : List Value → World → Outcome
line_printed line w = Ended undefined (printed_more w (line_bytes w.lists line)) 0

-- how many steps are left until what is in hand has gone through the frames that wait, if none asks
abbrev pub height : List Entry → State → ℕ
height stack Starting = length stack + 2
height stack (Serving q n) = length stack + 2
height stack (Returning c) = length stack + 1

-- ---- steps

-- What is done next goes on from an outcome, and fewer steps are left than a. Want of memory is free
abbrev pub Leads : Tree → Server → ℕ → Outcome → HeapView → HeapView → World → List Entry → Result Next Stop → Type 0
Leads script S a o old new w stack (Ok (GoOn state)) =
    (v : World) × Goes old new w v × Stays w v × Nears a (height stack state) o (meaning script S stack state v)
Leads script S a o old new w stack (Ok (Prints line)) =
    (v : World) × Goes old new w v × Stays w v
    × Nears a (length stack + 1) o (unwind (entry_rest script S) stack (line_printed line v))
Leads script S a o old new w stack (Ok (Ends c)) = (v : World) × Goes old new w v × Stays w v × Reaches o (Ended (answered c) v 0)
Leads script S a o old new w stack (Err Halted) = (v : World) × Halts old new w v × Stays w v × Reaches o (Halt v 0)
Leads script S a o old new w stack (Err NoMemory) = Unit {0}

-- From this world steps enough are left: for each request one that begins it and one that takes its frame from the stack, and for what is in hand.
abbrev pub HasSteps : Tree → Server → List Entry → State → ℕ → World → Type 0
HasSteps script S stack state left w = 2 * requests_of (meaning script S stack state w) + height stack state ≤ left

-- so many steps are enough for a request, where so many turns are left, in a script whose longest object literal has so many definitions
abbrev pub steps_for : ℕ → ℕ → ℕ
steps_for turns definitions = turns * (800 + 160 * definitions) + (400 + 80 * definitions)

-- from a world to one in which what is in hand is all that is left of an outcome, and steps enough are left
abbrev pub StandsAt : Tree → Server → Outcome → HeapView → HeapView → World → List Entry → State → ℕ → Type 0
StandsAt script S o old new w stack state left =
    (v : World) × Goes old new w v × Stays w v × Reaches o (meaning script S stack state v) × HasSteps script S stack state left v
