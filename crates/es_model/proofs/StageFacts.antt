-- From stages to outcomes.
use Rattle.std.proofs.Common.{◌≡◌, ℕ, Bool, true, false, cond, refl, nat_le}
use Rattle.es_model.specs.World.{World}
use Rattle.es_model.specs.Changes.{changed, charged}
use Rattle.es_model.specs.Program.{Program, done, look, change, charge, ask, part, nest, print, Outcome, Halt, Server, run}
use Rattle.es_model.specs.Stages.{Stage, AtHalt, stage_of, outcome_at}

cond-outcome : (S : Server) (n : ℕ) (b : Bool) (o : Outcome) (s : Stage) (w : World) → o ≡ outcome_at S n s → cond b o (Halt w 0) ≡ outcome_at S n (cond b s (AtHalt w))
cond-outcome S n true o s w e = e
cond-outcome S n false o s w e = refl

pub outcome-stage : (S : Server) (n : ℕ) (p : Program) (w : World) → run S p n w ≡ outcome_at S n (stage_of p w)
outcome-stage S n (done c) w = refl
outcome-stage S n (look f) w = outcome-stage S n (f w.lists) w
outcome-stage S n (change op p) w = outcome-stage S n p (changed op w)
outcome-stage S n (charge t p) w = cond-outcome S n (nat_le t w.turns) (run S p n (charged w t)) (stage_of p (charged w t)) w (outcome-stage S n p (charged w t))
outcome-stage S n (ask q k) w = refl
outcome-stage S n (part t k) w = refl
outcome-stage S n (nest p q) w = refl
outcome-stage S n (print bytes p) w = refl
