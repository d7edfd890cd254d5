-- Who serves, where each task has its program. What is said here holds whatever the programs are, if they keep within their weights.
use Rattle.std.specs.Prelude.{◌≡◌, ℕ, zero, suc, true, ◌+◌, ◌*◌, ◌<◌}
use Rattle.es_tree.specs.Tree.{Tree}
use Rattle.es_model.specs.World.{World}
use Rattle.es_model.specs.Program.{Program, charge, Task, Halt, Server, run}
use Rattle.es_model.specs.Outcomes.{requests_of}
use Rattle.es_model.specs.Weights.{weight, charges, renewed, IsWithin}

-- the program of each task of a script
abbrev pub Programs : Type 0
Programs = Tree → Task → Program

-- what a task comes to, where tasks stand in one another at most so deep
abbrev pub serve_by : Programs → ℕ → Server
serve_by programs zero n t w = Halt w 0
serve_by programs (suc depth) n t w = run (serve_by programs depth) (programs w.script t) n w

-- Deep enough for the turns that are left. Before each charge a task asks only for what weighs less than its budget, and a charge takes a turn.
abbrev pub depth_for : Task → World → ℕ
depth_for t w = renewed w.script * w.turns + weight t

-- what a task comes to, at a depth that is enough
abbrev pub model_by : Programs → Server
model_by programs n t w = serve_by programs (suc (depth_for t w)) n t w

-- ---- what has to hold of the programs

-- each keeps within its weight
abbrev pub AreWithin : Programs → Type 0
AreWithin programs = (script : Tree) (t : Task) → IsWithin (renewed script) (weight t) (programs script t)

abbrev pub BeginsWithCharge : Program → Type 0
BeginsWithCharge (charge (suc t) p) = Unit {0}
BeginsWithCharge other = ⊥

-- the program of a task that takes a turn first does so
abbrev pub ChargeFirst : Programs → Type 0
ChargeFirst programs = (script : Tree) (t : Task) → charges t ≡ true → BeginsWithCharge (programs script t)

-- ---- what holds then

-- a server that does for each task what the task's program says
pub record IsServerBy (programs : Programs) (S : Server) : Type 0 where
  pub serves : (n : ℕ) (t : Task) (w : World) → S n t w ≡ run S (programs w.script t) n w

-- the outcome is the same at every depth that is enough
abbrev pub IsDepthFreeBy : Programs → Type 0
IsDepthFreeBy programs =
    (d e n : ℕ) (t : Task) (w : World)
    → depth_for t w < d
    → depth_for t w < e
    → serve_by programs d n t w ≡ serve_by programs e n t w

-- a turn pays for so many requests: for a budget after its charge, and for one of what goes on after the part that took it
abbrev pub turn_pays : Tree → ℕ
turn_pays script = 2 * renewed script

-- no task comes to more requests and parts than a budget, and what the turns that are left pay for
abbrev pub IsThrifty : Server → Type 0
IsThrifty S = (n : ℕ) (t : Task) (w : World) → requests_of (S n t w) < renewed w.script + turn_pays w.script * w.turns
