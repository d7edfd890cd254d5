-- What a program does up to its next question, with no server.
use Rattle.std.specs.Prelude.{◌≡◌, List, ℕ, nat_le, if◌then◌else◌}
use Rattle.es_model.specs.declared.requests.Request.{Request}
use Rattle.es_model.specs.Completions.{Completion}
use Rattle.es_model.specs.World.{World}
use Rattle.es_model.specs.Changes.{changed, charged}
use Rattle.es_model.specs.Program.{Program, Task, Of, done, look, change, charge, ask, part, nest, print, Outcome, Ended, Halt, Server, one_more, after, run}

-- where a program stops by itself
pub data Stage : Type 0 where
  AtEnd : Completion → World → Stage
  AtHalt : World → Stage
  AtAsk : Request → (Completion → Program) → World → Stage
  AtPart : Task → (Completion → Program) → World → Stage
  AtNest : Program → Program → World → Stage
  AtPrint : List ℕ → Program → World → Stage

abbrev pub stage_of : Program → World → Stage
stage_of (done c) w = AtEnd c w
stage_of (look f) w = stage_of (f w.lists) w
stage_of (change op p) w = stage_of p (changed op w)
stage_of (charge t p) w = if nat_le t w.turns then stage_of p (charged w t) else AtHalt w
stage_of (ask q k) w = AtAsk q k w
stage_of (part t k) w = AtPart t k w
stage_of (nest p q) w = AtNest p q w
stage_of (print bytes p) w = AtPrint bytes p w

-- what a stage comes to
abbrev pub outcome_at : Server → ℕ → Stage → Outcome
outcome_at S n (AtEnd c w) = Ended c w 0
outcome_at S n (AtHalt w) = Halt w 0
outcome_at S n (AtAsk q k w) = one_more (after (S n (Of q) w) (λ c w'. run S (k c) n w'))
outcome_at S n (AtPart t k w) = run S (part t k) n w
outcome_at S n (AtNest p q w) = run S (nest p q) n w
outcome_at S n (AtPrint bytes p w) = run S (print bytes p) n w

-- the world at a stage
abbrev pub world_at : Stage → World
world_at (AtEnd c w) = w
world_at (AtHalt w) = w
world_at (AtAsk q k w) = w
world_at (AtPart t k w) = w
world_at (AtNest p q w) = w
world_at (AtPrint bytes p w) = w

-- a program comes to what its stage comes to
abbrev pub StagesLead : Type 0
StagesLead = (S : Server) (n : ℕ) (p : Program) (w : World) → run S p n w ≡ outcome_at S n (stage_of p w)
