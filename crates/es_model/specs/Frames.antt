-- What the call of a frame has to give, over whatever holds the objects: H is its type, and `goes old new w v` says that it went from standing for w
-- to standing for v.
-- `halts old new w v` says the same of a halt, at which more turns may be left than in v: what charges several turns at once takes none of them where
-- they do not fit.
use Rattle.std.specs.Prelude.{◌≡◌, ℕ, Result, Ok, Err}
use Rattle.es_model.specs.Completions.{Completion, answered}
use Rattle.es_model.specs.declared.answers.Stop.{Stop}
use Rattle.es_model.specs.declared.answers.Stop.TheVariants.{Halted, NoMemory}
use Rattle.es_model.specs.declared.answers.Turn.{Turn}
use Rattle.es_model.specs.declared.answers.Turn.TheVariants.{Ask, Done}
use Rattle.es_model.specs.World.{World}
use Rattle.es_model.specs.Program.{Program, Of, Outcome, Ended, Halt, Server, one_more, after, run}
use Rattle.es_model.specs.Stages.{Stage, AtEnd, AtHalt, AtAsk}
use Rattle.es_model.specs.Unwinding.{Rest, Reaches, Stays}

-- The turn is where the program stops, its answer is that of the program, the heap goes to the world of that stop, and the frame stands for the rest
-- of the program.
-- Want of memory is free.
abbrev pub StopsBy :
    {F H : Type 0} → (goes halts : H → H → World → World → Type 0) → (F → Completion → Program) → H → H → World → Stage
    → Result (Turn F) Stop → Type 0
StopsBy goes halts rest old new w stage (Err NoMemory) = Unit {0}
StopsBy goes halts rest old new w (AtEnd c v) (Ok (Done d)) = (answered d ≡ c) × goes old new w v
StopsBy goes halts rest old new w (AtAsk q k v) (Ok (Ask p f)) = (p ≡ q) × (rest f ≡ k) × goes old new w v
StopsBy goes halts rest old new w (AtHalt v) (Err Halted) = halts old new w v
StopsBy goes halts rest old new w stage result = ⊥

-- The turn is that of an algorithm with this outcome, whoever answers: at an Ask the outcome is that of the request and then the rest, with one request more.
abbrev pub IsTurnBy :
    {F H : Type 0} → (goes halts : H → H → World → World → Type 0) → Rest F → H → H → World → Server → ℕ → Outcome
    → Result (Turn F) Stop → Type 0
IsTurnBy goes halts rest old new w S n o (Ok (Done c)) = (v : World) × goes old new w v × Stays w v × Reaches o (Ended (answered c) v 0)
IsTurnBy goes halts rest old new w S n o (Ok (Ask q f)) =
    (v : World) × goes old new w v × Stays w v
    × Reaches o (one_more (after (S n (Of q) v) (rest f S n)))
IsTurnBy goes halts rest old new w S n o (Err Halted) = (v : World) × halts old new w v × Stays w v × Reaches o (Halt v 0)
IsTurnBy goes halts rest old new w S n o (Err NoMemory) = Unit {0}

-- a frame whose rest is a program
abbrev pub program_rest : {F : Type 0} → (F → Completion → Program) → Rest F
program_rest after_answer f S n c w = run S (after_answer f c) n w
