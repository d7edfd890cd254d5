-- Run: what a script comes to with a budget of turns (ECMA-262, 16.1.6). It begins in the start world, with the script and the budget, while no call
-- is running. The lexical names of its top scope are bound without a value, its declared functions are made and defined on the global object, and its
-- items are evaluated in their order (`script_program`).
use Rattle.std.specs.Prelude.{ℕ, ◌+◌, ◌*◌, ◌<◌}
use Rattle.property_keys.specs.declared.values.Value.{Value}
use Rattle.es_tree.specs.Tree.{Tree}
use Rattle.es_model.specs.Completions.{Throw}
use Rattle.es_model.specs.Fits.{IsKnownCompletion}
use Rattle.es_model.specs.Kept.{IsKeptOutcome}
use Rattle.es_model.specs.Outcomes.{requests_of, world_of}
use Rattle.es_model.specs.Program.{Outcome, Ended, Halt, run}
use Rattle.es_model.specs.Servers.{turn_pays}
use Rattle.es_model.specs.StartWorld.{start_world}
use Rattle.es_model.specs.Weights.{renewed}
use Rattle.es_model.specs.World.{World}
use Rattle.evaluator.specs.Functions.{script_program}
use Rattle.es_serve.specs.Serve.{model}

abbrev pub script_outcome : Tree → ℕ → Outcome
script_outcome script budget = run model (script_program script) 0 (start_world script budget)

-- ---- how a run ends, and in which world

pub data Ending : Type 0 where
  Finished : Ending
  Thrown : Value → Ending
  Halted : Ending

abbrev pub ending_of : Outcome → Ending
ending_of (Ended (Throw v) w n) = Thrown v
ending_of (Ended other w n) = Finished
ending_of (Halt w n) = Halted

pub record Run : Type 0 where
  pub ending : Ending
  pub world : World

abbrev pub run_of : Tree → ℕ → Run
run_of script budget = record { ending = ending_of (script_outcome script budget); world = world_of (script_outcome script budget) }

-- ---- laws

-- from any world of it, a script comes to fewer requests and parts than a budget of its own, and two for each turn that is left
abbrev pub RunsArePaid : Type 0
RunsArePaid = (w : World) → requests_of (run model (script_program w.script) 0 w) < renewed w.script + turn_pays w.script * w.turns

-- a run ends in a sound world, in which what it throws is there, or halts in one that is intact
abbrev pub RunsStaySound : Type 0
RunsStaySound = (script : Tree) (budget : ℕ) → IsKeptOutcome IsKnownCompletion (start_world script budget) (script_outcome script budget)
