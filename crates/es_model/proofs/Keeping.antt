-- What kept programs come to.
use Rattle.std.proofs.Common.{ℕ, zero, suc, Bool, true, false, cond, List, refl, ◌∙◌, nat_le, nat_lt}
use Rattle.es_model.specs.Completions.{Completion}
use Rattle.es_model.specs.World.{Lists, World}
use Rattle.es_model.specs.Changes.{Change, changed, charged, printed_more}
use Rattle.es_model.specs.Program.{Program, done, look, change, charge, ask, part, nest, print, Of, Outcome, Ended, Halt, Server, run, one_more, plus, after, nested_limit}
use Rattle.es_model.specs.Servers.{Programs, serve_by, depth_for, model_by}
use Rattle.es_model.specs.Sound.{IsSound}
use Rattle.es_model.specs.Kept.{IsLater, FitsTask, IsKept, IsKeptOutcome, KeepsSound, KeepsEachBy}
use Rattle.es_model.proofs.Rests.{leaves-changed, charged-script, printed-script}
use Rattle.es_model.proofs.Growing.{grows_none, grows_then, grows-changed, grows-charged, grows-printed}

pub later_none : (w : World) → IsLater w w
later_none w = record { lists = grows_none w.lists; script = refl }

pub later_then : (a b c : World) → IsLater a b → IsLater b c → IsLater a c
later_then a b c p q = record { lists = grows_then a.lists b.lists c.lists p.lists q.lists; script = q.script ∙ p.script }

later-changed : (op : Change) (w : World) → IsLater w (changed op w)
later-changed op w = record { lists = grows-changed op w; script = (leaves-changed op w).script }

later-charged : (w : World) (n : ℕ) → IsLater w (charged w n)
later-charged w n = record { lists = grows-charged w n; script = charged-script w n }

later-printed : (w : World) (bytes : List ℕ) → IsLater w (printed_more w bytes)
later-printed w bytes = record { lists = grows-printed w bytes; script = printed-script w bytes }

kept-one_more : (P : Lists → Completion → Type 0) (w : World) (o : Outcome) → IsKeptOutcome P w o → IsKeptOutcome P w (one_more o)
kept-one_more P w (Ended c v n) h = h
kept-one_more P w (Halt v n) h = h

kept-plus : (P : Lists → Completion → Type 0) (w : World) (n : ℕ) (o : Outcome) → IsKeptOutcome P w o → IsKeptOutcome P w (plus n o)
kept-plus P w zero o h = h
kept-plus P w (suc n) o h = kept-one_more P w (plus n o) (kept-plus P w n o h)

-- an outcome from a later world
kept-before : (P : Lists → Completion → Type 0) (w v : World) (o : Outcome) → IsLater w v → IsKeptOutcome P v o → IsKeptOutcome P w o
kept-before P w v (Ended c x n) l h = (h.0, later_then w v x l h.1, h.2)
kept-before P w v (Halt x n) l h = (h.0, later_then w v x l h.1)

kept-after : (Q P : Lists → Completion → Type 0) (w : World) (o : Outcome) (next : Completion → World → Outcome) → IsKeptOutcome Q w o →
    ((c : Completion) (v : World) → IsSound v → IsLater w v → Q v.lists c → IsKeptOutcome P v (next c v)) → IsKeptOutcome P w (after o next)
kept-after Q P w (Ended c v n) next h f = kept-plus P w n (next c v) (kept-before P w v (next c v) h.1 (f c v h.0 h.1 h.2))
kept-after Q P w (Halt v n) next h f = h

kept-cond : (P : Lists → Completion → Type 0) (w : World) (b : Bool) (o o' : Outcome) → IsKeptOutcome P w o → IsKeptOutcome P w o' → IsKeptOutcome P w (cond b o o')
kept-cond P w true o o' h h' = h
kept-cond P w false o o' h h' = h'

-- a kept program comes to a kept outcome, where its server keeps worlds sound
pub run-kept : (P : Lists → Completion → Type 0) (S : Server) → KeepsSound S → (p : Program) (n : ℕ) (w : World) → IsKept P p w → IsKeptOutcome P w (run S p n w)
run-kept P S keeps (done c) n w h = (h.0, later_none w, h.1)
run-kept P S keeps (look f) n w h = run-kept P S keeps (f w.lists) n w h
run-kept P S keeps (change op p) n w h = kept-before P w (changed op w) (run S p n (changed op w)) (later-changed op w) (run-kept P S keeps p n (changed op w) h)
run-kept P S keeps (charge t p) n w h =
    kept-cond P w (nat_le t w.turns) (run S p n (charged w t)) (Halt w 0)
    (kept-before P w (charged w t) (run S p n (charged w t)) (later-charged w t) (run-kept P S keeps p n (charged w t) h.1)) (h.0, later_none w)
run-kept P S keeps (ask q k) n w h =
    kept-one_more P w (after (S n (Of q) w) (λ c v. run S (k c) n v))
    (kept-after (FitsTask (Of q)) P w (S n (Of q) w) (λ c v. run S (k c) n v) (keeps n (Of q) w h.0 h.1) (λ c v sound later fit. run-kept P S keeps (k c) n v (h.2 c v sound later fit)))
run-kept P S keeps (part t k) n w h =
    kept-one_more P w (after (S n t w) (λ c v. run S (k c) n v))
    (kept-after (FitsTask t) P w (S n t w) (λ c v. run S (k c) n v) (keeps n t w h.0 h.1) (λ c v sound later fit. run-kept P S keeps (k c) n v (h.2 c v sound later fit)))
run-kept P S keeps (nest p q) n w h =
    kept-cond P w (nat_lt n nested_limit) (run S p (suc n) w) (run S q n w) (run-kept P S keeps p (suc n) w h.0) (run-kept P S keeps q n w h.1)
run-kept P S keeps (print bytes p) n w h =
    kept-before P w (printed_more w bytes) (run S p n (printed_more w bytes)) (later-printed w bytes) (run-kept P S keeps p n (printed_more w bytes) h)

serve-kept : (programs : Programs) → KeepsEachBy programs → (d : ℕ) → KeepsSound (serve_by programs d)
serve-kept programs each zero n t w sound known = (sound.intact, later_none w)
serve-kept programs each (suc d) n t w sound known = run-kept (FitsTask t) (serve_by programs d) (serve-kept programs each d) (programs w.script t) n w (each t w sound known)

-- the model keeps worlds sound, where each algorithm does
pub model-kept : (programs : Programs) → KeepsEachBy programs → KeepsSound (model_by programs)
model-kept programs each n t w sound known = serve-kept programs each (suc (depth_for t w)) n t w sound known
