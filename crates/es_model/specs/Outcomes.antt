-- What an outcome has.
use Rattle.std.specs.Prelude.{ℕ, ◌≤◌}
use Rattle.es_model.specs.World.{World}
use Rattle.es_model.specs.Program.{Task, Outcome, Ended, Halt, Server}

-- the world of an outcome
abbrev pub world_of : Outcome → World
world_of (Ended c w n) = w
world_of (Halt w n) = w

-- its requests and parts
abbrev pub requests_of : Outcome → ℕ
requests_of (Ended c w n) = n
requests_of (Halt w n) = n

-- no outcome has more turns left than its world had
abbrev pub NeverRaises : Server → Type 0
NeverRaises S = (n : ℕ) (t : Task) (w : World) → (world_of (S n t w)).turns ≤ w.turns
