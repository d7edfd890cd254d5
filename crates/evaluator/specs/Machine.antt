-- The machine that evaluates a running body between two requests: what its stack of items means.
use Rattle.std.specs.Prelude.{◌≡◌, ◌+◌, ◌*◌, ℕ, List, take, length, Result, Ok, Err}
use Rattle.es_tree.specs.Tree.{Tree}
use Rattle.es_model.specs.declared.answers.Stop.{Stop}
use Rattle.es_model.specs.declared.answers.Stop.TheVariants.{Halted, NoMemory}
use Rattle.es_model.specs.declared.kinds.CellNo.{CellNo}
use Rattle.es_model.specs.declared.running.Running.{Running}
use Rattle.es_model.specs.Completions.{Completion, answered}
use Rattle.es_model.specs.World.{World}
use Rattle.es_model.specs.Program.{Program, Of, Outcome, Ended, Halt, Server, one_more, after, run}
use Rattle.es_model.specs.Unwinding.{Rest, Reaches, Nears, Stays, unwind}
use Rattle.object_heap.specs.Stands.{HeapView, Goes, Halts}
use Rattle.evaluator.specs.declared.frames.Current.{Current}
use Rattle.evaluator.specs.declared.frames.Current.TheVariants.{At, EndedBy}
use Rattle.evaluator.specs.declared.frames.EvalFrame.{EvalFrame}
use Rattle.evaluator.specs.declared.frames.EvalFrame.TheVariants as frame
use Rattle.evaluator.specs.declared.frames.Next.{Next}
use Rattle.evaluator.specs.declared.frames.Next.TheVariants.{GoOn, Asks, Ends}
use Rattle.evaluator.specs.declared.frames.Pending.{Pending}
use Rattle.evaluator.specs.declared.items.Job.{Job}
use Rattle.evaluator.specs.Contexts.{Context, context, with_cells}
use Rattle.evaluator.specs.Functions.{body_ended, construct_answered}
use Rattle.evaluator.specs.Plans.{asked_program, ended, item_program, job_program, task_of}

-- the context with its first cells alone
abbrev pub within : Context → ℕ → Context
within here depth = with_cells here (take depth here.cells)

-- an inner scope: what is in force outside stands before what is new
pub record IsInner (outer inner : Context) : Type 0 where
  pub same : inner ≡ with_cells outer inner.cells
  pub front : take (length outer.cells) inner.cells ≡ outer.cells

-- an item that waits sees the cells that were in force there
abbrev pub pending_rest : Context → Server → ℕ → Pending → Completion → World → Outcome
pending_rest here S n p c w = run S (item_program (within here p.depth) p.item c) n w

-- the items that wait, and below them the end of the body
abbrev pub unwound : Context → Server → ℕ → List Pending → Outcome → Outcome
unwound here S n pending o = after (unwind (pending_rest here S n) pending o) (λ c w. run S (body_ended here c) n w)

abbrev pub current_outcome : Context → Server → ℕ → Current → World → Outcome
current_outcome here S n (At j) w = S n (task_of here j) w
current_outcome here S n (EndedBy e) w = Ended (ended e) w 0

abbrev pub meaning : Context → Server → ℕ → List Pending → Current → World → Outcome
meaning here S n pending current w = unwound here S n pending (current_outcome here S n current w)

-- steps that are left for what is in hand alone
abbrev pub height : List Pending → Current → ℕ
height pending (At j) = length pending + 2
height pending (EndedBy e) = length pending + 1

-- what the machine does next goes on from an outcome, and fewer steps are left than a
abbrev pub IsNext : Context → Server → ℕ → ℕ → Outcome → HeapView → HeapView → World → List Pending → Result Next Stop → Type 0
IsNext here S n a o old new w pending (Ok (GoOn current)) =
    (v : World) × Goes old new w v × Stays w v × Nears a (height pending current) o (meaning here S n pending current v)
IsNext here S n a o old new w pending (Ok (Asks q i)) =
    (v : World) × Goes old new w v × Stays w v
    × Reaches o (one_more (after (S n (Of q) v) (λ c u. unwound here S n pending (run S (asked_program here i c) n u))))
IsNext here S n a o old new w pending (Ok (Ends c)) = (v : World) × Goes old new w v × Stays w v × Reaches o (Ended (answered c) v 0)
IsNext here S n a o old new w pending (Err Halted) = (v : World) × Halts old new w v × Stays w v × Reaches o (Halt v 0)
IsNext here S n a o old new w pending (Err NoMemory) = Unit {0}

-- a server that does for each job what the job's program says
pub record IsServer (S : Server) : Type 0 where
  pub serves : (r : Running) (cells : List CellNo) (j : Job) (n : ℕ) (w : World) →
      S n (task_of (context w.script r cells) j) w ≡ run S (job_program (context w.script r cells) j) n w

-- what is left where a frame waits, in a script: of a body, or of a construction that has asked for the prototype
abbrev pub eval_rest : Tree → Rest EvalFrame
eval_rest script (frame.Body f) S n c w =
    let here : Context = context script f.body f.cells in unwound here S n f.pending (run S (asked_program here f.asked c) n w)
eval_rest script (frame.Constructing k) S n c w = run S (construct_answered script k.function k.callee k.arguments k.target c) n w

-- ---- enough steps

-- What a charge renews, in a script whose longest object literal has so many definitions
abbrev pub budget : ℕ → ℕ
budget definitions = 200 + 40 * definitions

-- So many steps are enough where so many turns are left and so many items wait: two for each part of a budget, of which there is one for what is in hand,
-- two for each turn, and one for each item that waits. One more for each budget takes the items from the stack
abbrev pub steps_for : ℕ → ℕ → ℕ → ℕ
steps_for turns waiting definitions = (1 + 2 * turns + waiting) * (2 * budget definitions + 1) + 3
