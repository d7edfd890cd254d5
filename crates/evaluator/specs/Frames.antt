-- A body that waits: its items, the cells that are in force, and what was asked.
use Rattle.std.specs.Prelude.{◌≤◌, ℕ, List, [], ◌∷◌}
use Rattle.es_model.specs.declared.kinds.CellNo.{CellNo}
use Rattle.es_model.specs.declared.running.Running.{Running}
use Rattle.evaluator.specs.declared.frames.Pending.{Pending}
use Rattle.evaluator.specs.declared.items.Asked.{Asked}

-- a body that waits for an answer, with the items of those around, the first one at the bottom
pub record Waiting : Type 0 where
  pub body : Running
  pub cells : List CellNo
  pub pending : List Pending
  pub asked : Asked

-- the cells that items see become no fewer from the bottom of the stack to its top
abbrev pub IsStacked : ℕ → List Pending → ℕ → Type 0
IsStacked low [] high = low ≤ high
IsStacked low (p ∷ ps) high = (low ≤ p.depth) × IsStacked p.depth ps high
