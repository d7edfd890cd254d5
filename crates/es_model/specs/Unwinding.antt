-- What is left where frames wait below what is in hand. The rest of a frame is an outcome and no program, so that a frame that waits for a part of itself, as a
-- running body does, has one too.
use Rattle.std.specs.Prelude.{◌≡◌, ◌<◌, ◌+◌, ◌*◌, ℕ, List, [], ◌∷◌}
use Rattle.es_model.specs.Completions.{Completion}
use Rattle.es_model.specs.World.{World}
use Rattle.es_model.specs.Program.{Outcome, Server, plus, after}

-- the outcome of what is left where a frame waits: who serves, how many calls are running, the completion and the world at it
abbrev pub Rest : Type 0 → Type 0
Rest F = F → Server → ℕ → Completion → World → Outcome

-- an outcome with the frames below it, of which the last was pushed last
unfoldable pub unwind : {F : Type 0} → (F → Completion → World → Outcome) → List F → Outcome → Outcome
unwind rest [] o = o
unwind rest (bottom ∷ more) o = after (unwind rest more o) (rest bottom)

-- the script and what was printed are as they were
pub record Stays (w v : World) : Type 0 where
  pub script : v.script ≡ w.script
  pub printed : v.printed ≡ w.printed

-- the first outcome is the second with some requests and parts more
pub record Reaches (o p : Outcome) : Type 0 where
  pub served : ℕ
  pub same : o ≡ plus served p

-- The same, and b, what is left at the second, is below a, what is left at the first, and two steps for each of those requests: one that begins it,
-- and one that takes its frame from the stack. So a loop that takes a frame or begins a request in each step has a number that falls.
pub record Nears (a b : ℕ) (o p : Outcome) : Type 0 where
  pub served : ℕ
  pub same : o ≡ plus served p
  pub falls : b < a + 2 * served
