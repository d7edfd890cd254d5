-- From stages to outcomes, for whatever holds the objects.
use Rattle.std.proofs.Common.{ℕ, Result, Ok, Err, ap, sym, subst}
use Rattle.es_model.specs.Completions.{Completion}
use Rattle.es_model.specs.declared.answers.Stop.{Stop}
use Rattle.es_model.specs.declared.answers.Stop.TheVariants.{Halted, NoMemory}
use Rattle.es_model.specs.declared.answers.Turn.{Turn}
use Rattle.es_model.specs.declared.answers.Turn.TheVariants.{Ask, Done}
use Rattle.es_model.specs.World.{World}
use Rattle.es_model.specs.Program.{Program, Of, Outcome, Ended, Server, one_more, after, run}
use Rattle.es_model.specs.Unwinding.{Stays}
use Rattle.es_model.proofs.Unwound.{reaches_same, reaches_none, stage-stays}
use Rattle.es_model.specs.Stages.{world_at, Stage, AtEnd, AtHalt, AtAsk, AtPart, AtNest, AtPrint, stage_of, outcome_at}
use Rattle.es_model.specs.Frames.{StopsBy, IsTurnBy, program_rest}
use Rattle.es_model.proofs.StageFacts.{outcome-stage}

stage-turn : {F H : Type 0} (goes halts : H → H → World → World → Type 0) (rest : F → Completion → Program) (old new : H) (w : World) (S : Server) (n : ℕ) (stage : Stage) (r : Result (Turn F) Stop) →
    Stays w (world_at stage) → StopsBy goes halts rest old new w stage r → IsTurnBy goes halts (program_rest rest) old new w S n (outcome_at S n stage) r
stage-turn goes halts rest old new w S n (AtEnd c v) (Ok (Done d)) l s = (v, s.1, l, reaches_same _ _ (ap (λ x. Ended x v 0) (sym s.0)))
stage-turn goes halts rest old new w S n (AtAsk q k v) (Ok (Ask p f)) l s = (v, s.2, l, reaches_same _ _ (λ t. one_more (after (S n (Of (sym s.0 t)) v) (λ c u. run S (sym s.1 t c) n u))))
stage-turn goes halts rest old new w S n (AtHalt v) (Err Halted) l s = (v, s, l, reaches_none _)
stage-turn goes halts rest old new w S n stage (Err NoMemory) l s = tt
stage-turn goes halts rest old new w S n (AtHalt v) (Ok (Done d)) l s = absurd s
stage-turn goes halts rest old new w S n (AtAsk q k v) (Ok (Done d)) l s = absurd s
stage-turn goes halts rest old new w S n (AtPart t k v) (Ok (Done d)) l s = absurd s
stage-turn goes halts rest old new w S n (AtNest p q v) (Ok (Done d)) l s = absurd s
stage-turn goes halts rest old new w S n (AtPrint x p v) (Ok (Done d)) l s = absurd s
stage-turn goes halts rest old new w S n (AtEnd c v) (Ok (Ask p f)) l s = absurd s
stage-turn goes halts rest old new w S n (AtHalt v) (Ok (Ask p f)) l s = absurd s
stage-turn goes halts rest old new w S n (AtPart t k v) (Ok (Ask p f)) l s = absurd s
stage-turn goes halts rest old new w S n (AtNest q r v) (Ok (Ask p f)) l s = absurd s
stage-turn goes halts rest old new w S n (AtPrint x q v) (Ok (Ask p f)) l s = absurd s
stage-turn goes halts rest old new w S n (AtEnd c v) (Err Halted) l s = absurd s
stage-turn goes halts rest old new w S n (AtAsk q k v) (Err Halted) l s = absurd s
stage-turn goes halts rest old new w S n (AtPart t k v) (Err Halted) l s = absurd s
stage-turn goes halts rest old new w S n (AtNest p q v) (Err Halted) l s = absurd s
stage-turn goes halts rest old new w S n (AtPrint x p v) (Err Halted) l s = absurd s

pub stops-turn : {F H : Type 0} (goes halts : H → H → World → World → Type 0) (rest : F → Completion → Program) (p : Program) (old new : H) (w : World) (r : Result (Turn F) Stop) →
    StopsBy goes halts rest old new w (stage_of p w) r → (S : Server) (n : ℕ) → IsTurnBy goes halts (program_rest rest) old new w S n (run S p n w) r
stops-turn goes halts rest p old new w r s S n =
    subst (λ (o : Outcome). IsTurnBy goes halts (program_rest rest) old new w S n o r) (sym (outcome-stage S n p w))
    (stage-turn goes halts rest old new w S n (stage_of p w) r (stage-stays p w) s)

-- a call that begins where another one left the heap
pub stops_then_by : {F H : Type 0} (goes halts : H → H → World → World → Type 0) → ((a b c : H) (u v x : World) → goes a b u v → goes b c v x → goes a c u x) →
    ((a b c : H) (u v x : World) → goes a b u v → halts b c v x → halts a c u x) → (rest : F → Completion → Program) (a b c : H) (w v : World) (stage : Stage) (r : Result (Turn F) Stop) →
    goes a b w v → StopsBy goes halts rest b c v stage r → StopsBy goes halts rest a c w stage r
stops_then_by goes halts then over rest a b c w v (AtEnd d x) (Ok (Done e)) g s = (s.0, then a b c w v x g s.1)
stops_then_by goes halts then over rest a b c w v (AtAsk q k x) (Ok (Ask p f)) g s = (s.0, s.1, then a b c w v x g s.2)
stops_then_by goes halts then over rest a b c w v (AtHalt x) (Err Halted) g s = over a b c w v x g s
stops_then_by goes halts then over rest a b c w v stage (Err NoMemory) g s = tt
stops_then_by goes halts then over rest a b c w v (AtHalt x) (Ok (Done e)) g s = s
stops_then_by goes halts then over rest a b c w v (AtAsk q k x) (Ok (Done e)) g s = s
stops_then_by goes halts then over rest a b c w v (AtPart t k x) (Ok (Done e)) g s = s
stops_then_by goes halts then over rest a b c w v (AtNest p q x) (Ok (Done e)) g s = s
stops_then_by goes halts then over rest a b c w v (AtPrint y p x) (Ok (Done e)) g s = s
stops_then_by goes halts then over rest a b c w v (AtEnd d x) (Ok (Ask p f)) g s = s
stops_then_by goes halts then over rest a b c w v (AtHalt x) (Ok (Ask p f)) g s = s
stops_then_by goes halts then over rest a b c w v (AtPart t k x) (Ok (Ask p f)) g s = s
stops_then_by goes halts then over rest a b c w v (AtNest q r x) (Ok (Ask p f)) g s = s
stops_then_by goes halts then over rest a b c w v (AtPrint y q x) (Ok (Ask p f)) g s = s
stops_then_by goes halts then over rest a b c w v (AtEnd d x) (Err Halted) g s = s
stops_then_by goes halts then over rest a b c w v (AtAsk q k x) (Err Halted) g s = s
stops_then_by goes halts then over rest a b c w v (AtPart t k x) (Err Halted) g s = s
stops_then_by goes halts then over rest a b c w v (AtNest p q x) (Err Halted) g s = s
stops_then_by goes halts then over rest a b c w v (AtPrint y p x) (Err Halted) g s = s
