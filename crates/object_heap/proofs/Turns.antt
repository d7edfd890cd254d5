-- From the stage at which a frame's call stops to what the call comes to: once for all frames.
use Rattle.std.proofs.Common.{ℕ, Bool, true, false, cond, List, Result, Ok, Err, refl, sym, subst, nat_le, arith}
use Rattle.es_model.specs.declared.answers.Completion.{Completion as Answer}
use Rattle.es_model.specs.Completions.{Completion, answered}
use Rattle.es_model.specs.declared.answers.Stop.{Stop}
use Rattle.es_model.specs.declared.answers.Stop.TheVariants.{Halted, NoMemory}
use Rattle.es_model.specs.declared.answers.Turn.{Turn}
use Rattle.es_model.specs.declared.answers.Turn.TheVariants.{Ask, Done}
use Rattle.es_model.specs.declared.requests.Request.{Request}
use Rattle.es_model.specs.World.{Lists, World}
use Rattle.es_model.specs.Changes.{changed, charged}
use Rattle.es_model.specs.Program.{Program, done, look, change, charge, ask, part, nest, print, Task, Of, Outcome, Ended, Halt, Server, one_more, plus, after, run}
use Rattle.es_model.specs.Stages.{Stage, AtEnd, AtHalt, AtAsk, AtPart, AtNest, AtPrint, stage_of, outcome_at, world_at}
use Rattle.es_model.specs.Sound.{IsIntact, IsSound}
use Rattle.es_model.specs.Kept.{FitsTask, IsLater, IsKept}
use Rattle.es_model.specs.Belongs.{FrameName, Belongs, HasNames}
use Rattle.es_model.proofs.Belonging.{names-stay}
use Rattle.es_model.proofs.Keeping.{later_none, later_then}
use Rattle.es_model.proofs.Growing.{grows-changed, grows-charged}
use Rattle.es_model.proofs.Rests.{leaves-changed, charged-script}
use Rattle.es_model.proofs.Counts.{requests-one_more, requests-plus}
use Rattle.es_model.proofs.StageFacts.{outcome-stage}
use Rattle.es_model.proofs.Turning.{stops-turn}
use Rattle.es_model.specs.Frames.{program_rest}
use Rattle.object_heap.specs.Stands.{HeapView, Goes, Halts}
use Rattle.object_heap.specs.Stops.{Stops}
use Rattle.object_heap.specs.Turns.{IsTurnOf, world_after, GoesTo, HasMore, LeadsOn, IsTurn, KeepsFor, StaysSound, IsKnownSite, KeepsNamed}

-- ---- the four cases in which a call stops

-- what holds in each of the four cases holds of every call that stops where its program does
pub at_stop : {F : Type 0} (rest : F → Completion → Program) (old new : HeapView) (w : World) (M : Stage → Result (Turn F) Stop → Type 0) →
    ((c : Answer) (v : World) → Goes old new w v → M (AtEnd (answered c) v) (Ok (Done c))) →
    ((q : Request) (f : F) (v : World) → Goes old new w v → M (AtAsk q (rest f) v) (Ok (Ask q f))) →
    ((v : World) → Halts old new w v → M (AtHalt v) (Err Halted)) →
    ((stage : Stage) → M stage (Err NoMemory)) →
    (stage : Stage) (r : Result (Turn F) Stop) → Stops rest old new w stage r → M stage r
at_stop rest old new w M d a h m (AtEnd c v) (Ok (Done e)) s = subst (λ x. M (AtEnd x v) (Ok (Done e))) s.0 (d e v s.1)
at_stop rest old new w M d a h m (AtAsk q k v) (Ok (Ask p f)) s =
    subst (λ x. M (AtAsk q x v) (Ok (Ask p f))) s.1 (subst (λ x. M (AtAsk x (rest f) v) (Ok (Ask p f))) s.0 (a p f v s.2))
at_stop rest old new w M d a h m (AtHalt v) (Err Halted) s = h v s
at_stop rest old new w M d a h m stage (Err NoMemory) s = m stage
at_stop rest old new w M d a h m (AtHalt v) (Ok (Done e)) s = absurd s
at_stop rest old new w M d a h m (AtAsk q k v) (Ok (Done e)) s = absurd s
at_stop rest old new w M d a h m (AtPart t k v) (Ok (Done e)) s = absurd s
at_stop rest old new w M d a h m (AtNest p q v) (Ok (Done e)) s = absurd s
at_stop rest old new w M d a h m (AtPrint x p v) (Ok (Done e)) s = absurd s
at_stop rest old new w M d a h m (AtEnd c v) (Ok (Ask p f)) s = absurd s
at_stop rest old new w M d a h m (AtHalt v) (Ok (Ask p f)) s = absurd s
at_stop rest old new w M d a h m (AtPart t k v) (Ok (Ask p f)) s = absurd s
at_stop rest old new w M d a h m (AtNest q r v) (Ok (Ask p f)) s = absurd s
at_stop rest old new w M d a h m (AtPrint x q v) (Ok (Ask p f)) s = absurd s
at_stop rest old new w M d a h m (AtEnd c v) (Err Halted) s = absurd s
at_stop rest old new w M d a h m (AtAsk q k v) (Err Halted) s = absurd s
at_stop rest old new w M d a h m (AtPart t k v) (Err Halted) s = absurd s
at_stop rest old new w M d a h m (AtNest p q v) (Err Halted) s = absurd s
at_stop rest old new w M d a h m (AtPrint x p v) (Err Halted) s = absurd s

-- ---- the heap and the outcome

goes-to : {F : Type 0} (rest : F → Completion → Program) (old new : HeapView) (w : World) (stage : Stage) (r : Result (Turn F) Stop) →
    Stops rest old new w stage r → GoesTo old new w (world_at stage) r
goes-to rest old new w stage r s =
    at_stop rest old new w (λ t x. GoesTo old new w (world_at t) x) (λ c v g. g) (λ q f v g. g) (λ v g. g) (λ t. tt) stage r s

has-more : (o : Outcome) (next : Completion → World → Outcome) → HasMore (one_more (after o next)) o next
has-more (Ended c w n) next = let e = requests-one_more (plus n (next c w)) in let f = requests-plus n (next c w) in omega arith
has-more (Halt w n) next = omega arith

leads-on : {F : Type 0} (rest : F → Completion → Program) (old new : HeapView) (w : World) (S : Server) (n : ℕ) (stage : Stage) (r : Result (Turn F) Stop) →
    Stops rest old new w stage r → LeadsOn rest (world_at stage) S n (outcome_at S n stage) r
leads-on rest old new w S n stage r s =
    at_stop rest old new w (λ t x. LeadsOn rest (world_at t) S n (outcome_at S n t) x) (λ c v g. refl)
    (λ q f v g. (refl, has-more (S n (Of q) v) (λ c u. run S (rest f c) n u))) (λ v g. refl) (λ t. tt) stage r s

later-cond : (w : World) (b : Bool) (s : Stage) → IsLater w (world_at s) → IsLater w (world_at (cond b s (AtHalt w)))
later-cond w true s h = h
later-cond w false s h = later_none w

-- the world in which a program stops is a later one
pub later_stage : (p : Program) (w : World) → IsLater w (world_after p w)
later_stage (done c) w = later_none w
later_stage (look f) w = later_stage (f w.lists) w
later_stage (change op p) w =
    later_then w (changed op w) (world_after p (changed op w)) (record { lists = grows-changed op w; script = (leaves-changed op w).script }) (later_stage p (changed op w))
later_stage (charge t p) w =
    later-cond w (nat_le t w.turns) (stage_of p (charged w t))
    (later_then w (charged w t) (world_after p (charged w t)) (record { lists = grows-charged w t; script = charged-script w t }) (later_stage p (charged w t)))
later_stage (ask q k) w = later_none w
later_stage (part t k) w = later_none w
later_stage (nest p q) w = later_none w
later_stage (print bytes p) w = later_none w

pub turn_of : {F : Type 0} (rest : F → Completion → Program) (old new : HeapView) (p : Program) (w : World) (r : Result (Turn F) Stop) →
    Stops rest old new w (stage_of p w) r → IsTurn rest old new p w r
turn_of rest old new p w r s = record {
  goes = goes-to rest old new w (stage_of p w) r s;
  later = later_stage p w;
  leads = λ S n. subst (λ o. LeadsOn rest (world_after p w) S n o r) (sym (outcome-stage S n p w)) (leads-on rest old new w S n (stage_of p w) r s);
}

pub stops_turn_of : {F : Type 0} (rest : F → Completion → Program) (p : Program) (old new : HeapView) (w : World) (r : Result (Turn F) Stop) →
    Stops rest old new w (stage_of p w) r → (S : Server) (n : ℕ) → IsTurnOf (program_rest rest) old new w S n (run S p n w) r
stops_turn_of rest p old new w r s = stops-turn Goes Halts rest p old new w r s

-- ---- soundness

-- a stage of a kept program
abbrev pub IsKeptStage : (Lists → Completion → Type 0) → Stage → Type 0
IsKeptStage P (AtEnd c v) = IsSound v × P v.lists c
IsKeptStage P (AtHalt v) = IsIntact v.lists
IsKeptStage P (AtAsk q k v) = IsKept P (ask q k) v
IsKeptStage P (AtPart t k v) = IsKept P (part t k) v
IsKeptStage P (AtNest p q v) = IsKept P (nest p q) v
IsKeptStage P (AtPrint bytes p v) = IsKept P (print bytes p) v

kept-cond : (P : Lists → Completion → Type 0) (b : Bool) (s : Stage) (w : World) → IsIntact w.lists → IsKeptStage P s → IsKeptStage P (cond b s (AtHalt w))
kept-cond P true s w i h = h
kept-cond P false s w i h = i

pub kept_stage : (P : Lists → Completion → Type 0) (p : Program) (w : World) → IsKept P p w → IsKeptStage P (stage_of p w)
kept_stage P (done c) w h = h
kept_stage P (look f) w h = kept_stage P (f w.lists) w h
kept_stage P (change op p) w h = kept_stage P p (changed op w) h
kept_stage P (charge t p) w h = kept-cond P (nat_le t w.turns) (stage_of p (charged w t)) w h.0 (kept_stage P p (charged w t) h.1)
kept_stage P (ask q k) w h = h
kept_stage P (part t k) w h = h
kept_stage P (nest p q) w h = h
kept_stage P (print bytes p) w h = h

pub sound_of : {F : Type 0} (rest : F → Completion → Program) (old new : HeapView) (started : Task) (p : Program) (w : World) (r : Result (Turn F) Stop) →
    Stops rest old new w (stage_of p w) r → KeepsFor started p w → StaysSound rest started (world_after p w) r
sound_of rest old new started p w r s h =
    at_stop rest old new w (λ t x. IsKeptStage (FitsTask started) t → StaysSound rest started (world_at t) x)
    (λ c v g k. k) (λ q f v g k. k) (λ v g k. k) (λ t k. tt) (stage_of p w) r s (kept_stage (FitsTask started) p w h)

-- ---- what a frame keeps

pub named_ask : {F : Type 0} (names_of : F → List FrameName) (w : World) (q : Request) (f : F) → Belongs names_of w f → IsKnownSite w.script q → KeepsNamed names_of w (Ok (Ask q f))
unfolding KeepsNamed
named_ask names_of w q f b s = (b, s)

pub named_done : {F : Type 0} (names_of : F → List FrameName) (w : World) (c : Answer) → KeepsNamed names_of w (Ok (Done c))
unfolding KeepsNamed
named_done names_of w c = tt

pub named_stop : {F : Type 0} (names_of : F → List FrameName) (w : World) (stop : Stop) → KeepsNamed names_of w (Err stop)
unfolding KeepsNamed
named_stop names_of w stop = tt

-- what belongs where the call begins belongs where it stops
named_later : {F : Type 0} (names_of : F → List FrameName) (w v : World) (r : Result (Turn F) Stop) → IsLater w v → KeepsNamed names_of w r → KeepsNamed names_of v r
unfolding KeepsNamed
named_later names_of w v (Ok (Ask q f)) l h =
    (subst (λ x. HasNames x v.lists (names_of f)) (sym l.script) (names-stay w.script (names_of f) w.lists v.lists l.lists h.0), subst (λ x. IsKnownSite x q) (sym l.script) h.1)
named_later names_of w v (Ok (Done c)) l h = tt
named_later names_of w v (Err stop) l h = tt

pub named_of : {F : Type 0} (names_of : F → List FrameName) (p : Program) (w : World) (r : Result (Turn F) Stop) → KeepsNamed names_of w r → KeepsNamed names_of (world_after p w) r
named_of names_of p w r h = named_later names_of w (world_after p w) r (later_stage p w) h

-- what is held of a frame and its request, for who needs it above
pub named_out : {F : Type 0} (names_of : F → List FrameName) (w : World) (q : Request) (f : F) → KeepsNamed names_of w (Ok (Ask q f)) → Belongs names_of w f × IsKnownSite w.script q
unfolding KeepsNamed
named_out names_of w q f h = h
