-- What the call of a frame comes to. It begins in a world, with a program: that of the request, or the rest of an algorithm. All that is said below
-- is said of the one world in which that program stops by itself.
use Rattle.std.specs.Prelude.{◌≡◌, ◌+◌, ◌<◌, ⊤, ℕ, List, Some, Result, Ok, Err, length}
use Rattle.es_model.specs.Completions.{Completion, answered}
use Rattle.es_model.specs.declared.answers.Stop.{Stop}
use Rattle.es_model.specs.declared.answers.Stop.TheVariants.{Halted, NoMemory}
use Rattle.es_model.specs.declared.answers.Turn.{Turn}
use Rattle.es_model.specs.declared.answers.Turn.TheVariants.{Ask, Done}
use Rattle.es_model.specs.declared.requests.Request.{Request}
use Rattle.es_model.specs.declared.requests.Request.TheVariants.{Read, Write}
use Rattle.es_tree.specs.Tree.{Tree}
use Rattle.es_model.specs.World.{World}
use Rattle.es_model.specs.Program.{Program, Task, Of, Outcome, Ended, Halt, Server, one_more, after, run}
use Rattle.es_model.specs.Outcomes.{requests_of}
use Rattle.es_model.specs.Stages.{stage_of, world_at}
use Rattle.es_model.specs.Frames.{IsTurnBy}
use Rattle.es_model.specs.Unwinding.{Rest}
use Rattle.es_model.specs.Fits.{Fits, IsKnownRequest}
use Rattle.es_model.specs.Sound.{IsIntact, IsSound}
use Rattle.es_model.specs.Kept.{FitsTask, IsLater, IsKept}
use Rattle.es_model.specs.Belongs.{FrameName, Belongs}
use Rattle.object_heap.specs.Stands.{HeapView, Goes, Halts}

-- the world in which a program stops by itself: at its end, at a halt, or at its first question
abbrev pub world_after : Program → World → World
world_after p w = world_at (stage_of p w)

-- ---- the heap

-- but for want of memory the heap goes from the one world to the other, or halts there
abbrev pub GoesTo : {F : Type 0} → HeapView → HeapView → World → World → Result (Turn F) Stop → Type 0
GoesTo old new w v (Err NoMemory) = Unit {0}
GoesTo old new w v (Err Halted) = Halts old new w v
GoesTo old new w v (Ok turn) = Goes old new w v

-- ---- the outcome

-- an outcome has more requests than an earlier one and what comes after it together, and where the earlier one is a halt, more than that one
abbrev pub HasMore : Outcome → Outcome → (Completion → World → Outcome) → Type 0
HasMore whole (Ended c u n) rest = n + requests_of (rest c u) < requests_of whole
HasMore whole (Halt u n) rest = n < requests_of whole

-- The turn is that of an algorithm with this outcome, whoever answers; v is the world in which it stops. At an Ask the outcome is that of the request
-- and then of the rest, which the frame stands for.
abbrev pub LeadsOn : {F : Type 0} → (F → Completion → Program) → World → Server → ℕ → Outcome → Result (Turn F) Stop → Type 0
LeadsOn rest v S n o (Ok (Done c)) = o ≡ Ended (answered c) v 0
LeadsOn rest v S n o (Ok (Ask q f)) =
    (o ≡ one_more (after (S n (Of q) v) (λ c u. run S (rest f c) n u))) × HasMore o (S n (Of q) v) (λ c u. run S (rest f c) n u)
LeadsOn rest v S n o (Err Halted) = o ≡ Halt v 0
LeadsOn rest v S n o (Err NoMemory) = Unit {0}

-- The turn is that of an algorithm with this outcome, whose frames have a rest that may be no program. The world in which it stops is not named.
abbrev pub IsTurnOf : {F : Type 0} → Rest F → HeapView → HeapView → World → Server → ℕ → Outcome → Result (Turn F) Stop → Type 0
IsTurnOf rest old new w S n o r = IsTurnBy Goes Halts rest old new w S n o r

-- The turn of a program, whoever answers and however many calls are running, with what the heap does. The world in which it stops is a later one of
-- the same run, so what was there is there.
pub record IsTurn
    {F : Type 0} (rest : F → Completion → Program) (old new : HeapView) (p : Program) (w : World) (result : Result (Turn F) Stop) : Type 0 where
  pub goes : GoesTo old new w (world_after p w) result
  pub later : IsLater w (world_after p w)
  pub leads : (S : Server) (n : ℕ) → LeadsOn rest (world_after p w) S n (run S p n w) result

-- ---- soundness

-- from this world on a program keeps worlds sound, and its end fits the task that was started
abbrev pub KeepsFor : Task → Program → World → Type 0
KeepsFor started p w = IsKept (FitsTask started) p w

-- At Done the world is sound, and the answer fits the task that was started. At an Ask the world is sound, all that the request names is there, and with each
-- answer that fits it, in each later sound world, the rest keeps worlds sound. At a halt the world is intact.
abbrev pub StaysSound : {F : Type 0} → (F → Completion → Program) → Task → World → Result (Turn F) Stop → Type 0
StaysSound rest started v (Ok (Done c)) = IsSound v × FitsTask started v.lists (answered c)
StaysSound rest started v (Ok (Ask q f)) =
    IsSound v × IsKnownRequest v.lists q
    × ((c : Completion) (u : World) → IsSound u → IsLater v u → Fits u.lists q c → KeepsFor started (rest f c) u)
StaysSound rest started v (Err Halted) = IsIntact v.lists
StaysSound rest started v (Err NoMemory) = Unit {0}

-- ---- what a frame keeps

-- the site that a request carries is one of the script's
abbrev pub IsKnownSite : Tree → Request → Type 0
IsKnownSite script (Read o k receiver (Some site)) = site.0 < length script.sites
IsKnownSite script (Write o k v receiver (Some site)) = site.0 < length script.sites
IsKnownSite script other = ⊤

-- At an Ask the frame belongs to the world, and the site of the request is there. Opaque: what frames pass on of one another's calls they do not look into
unfoldable pub KeepsNamed : {F : Type 0} → (F → List FrameName) → World → Result (Turn F) Stop → Type 0
KeepsNamed names_of v (Ok (Ask q f)) = Belongs names_of v f × IsKnownSite v.script q
KeepsNamed names_of v (Ok (Done c)) = ⊤
KeepsNamed names_of v (Err stop) = ⊤
