-- Requests that are served, over plain variables.
use Rattle.std.proofs.Common.{◌≡◌, ℕ, suc, ◌+◌, ◌<◌, true, false, cond, List, Result, Ok, Err, length, arith, refl, sym, ◌∙◌, ap, nat_le, nat_lt, lt-ltb}
use Rattle.property_keys.specs.declared.values.Value.{Value}
use Rattle.es_tree.specs.Tree.{Tree}
use Rattle.es_model.specs.declared.answers.Completion.{Completion as Answer}
use Rattle.es_model.specs.declared.answers.Stop.{Stop}
use Rattle.es_model.specs.declared.answers.Stop.TheVariants.{Halted}
use Rattle.es_model.specs.declared.requests.Request.{Request}
use Rattle.es_model.specs.Changes.{charged}
use Rattle.es_model.specs.Completions.{answered}
use Rattle.es_model.specs.Program.{Program, Of, Outcome, Ended, Halt, Server, run}
use Rattle.es_model.specs.Servers.{IsServerBy}
use Rattle.es_model.specs.Unwinding.{unwind}
use Rattle.es_model.specs.World.{World}
use Rattle.es_model.specs.programs.Errors.{entering, too_many_calls}
use Rattle.es_model.proofs.Unwound.{unwind-halt, nears_same, reaches_same, stays_none, stays_charged}
use Rattle.object_heap.specs.Stands.{HeapView, Goes, StandsFor, goes_none, halts_at}
use Rattle.es_serve.specs.Serve.{program_of}
use Rattle.dispatcher.specs.declared.state.Entry.{Entry}
use Rattle.dispatcher.specs.declared.state.Next.{Next}
use Rattle.dispatcher.specs.declared.state.Next.TheVariants.{GoOn, Prints}
use Rattle.dispatcher.specs.declared.state.State.TheVariants.{Returning}
use Rattle.dispatcher.specs.declared.table.Service.{Service}
use Rattle.dispatcher.specs.Stack.{Leads, entry_rest, line_printed}
use Rattle.dispatcher.specs.Table.{noted_for, served_by, service_program}
use Rattle.dispatcher.proofs.Served.{stays_noted, table}
use Rattle.dispatcher.proofs.Steps.{leads_then}

-- ---- entering, whatever is entered

pub enter_halts : (script : Tree) (S : Server) (x : ℕ) (fs gs : List Entry) (body : Program) (old new : HeapView) (w : World) (n : ℕ) →
    (nat_le 1 w.turns ≡ false) × Goes old new w w → Leads script S x (unwind (entry_rest script S) fs (run S (entering body) n w)) old new w gs (Err Halted)
enter_halts script S x fs gs body old new w n (none, g) =
    let o : Outcome = run S body (suc n) (charged w 1) in
    let p : Outcome = run S too_many_calls n (charged w 1) in
    (w, halts_at old new w w g, stays_none w, reaches_same _ _ (ap (λ y. unwind (entry_rest script S) fs (cond y (cond (nat_lt n 2000) o p) (Halt w 0))) none ∙ unwind-halt (entry_rest script S) fs w 0))

pub enter_leads : (script : Tree) (S : Server) (x : ℕ) (fs gs : List Entry) (body : Program) (a b c : HeapView) (w : World) (n m : ℕ) (r : Result Next Stop) → n < 2000 → m ≡ suc n →
    (nat_le 1 w.turns ≡ true) × Goes a b w (charged w 1) → Leads script S x (unwind (entry_rest script S) fs (run S body m (charged w 1))) b c (charged w 1) gs r →
    Leads script S x (unwind (entry_rest script S) fs (run S (entering body) n w)) a c w gs r
enter_leads script S x fs gs body a b c w n m r room one (some, g) h =
    let o : Outcome = run S body (suc n) (charged w 1) in
    let p : Outcome = run S too_many_calls n (charged w 1) in
    let e : run S (entering body) n w ≡ run S body m (charged w 1) =
    ap (λ y. cond y (cond (nat_lt n 2000) o p) (Halt w 0)) some ∙ ap (λ y. cond y o p) (lt-ltb n 2000 room) ∙ ap (λ k. run S body k (charged w 1)) (sym one) in
    leads_then script S x _ _ a b c w (charged w 1) gs r (reaches_same _ _ (ap (unwind (entry_rest script S) fs) e)) g (stays_charged w 1) h

pub full_leads : (script : Tree) (S : Server) (x : ℕ) (fs gs : List Entry) (body : Program) (a b c : HeapView) (w : World) (n : ℕ) (r : Result Next Stop) → nat_lt n 2000 ≡ false →
    (nat_le 1 w.turns ≡ true) × Goes a b w (charged w 1) → Leads script S x (unwind (entry_rest script S) fs (run S too_many_calls n (charged w 1))) b c (charged w 1) gs r →
    Leads script S x (unwind (entry_rest script S) fs (run S (entering body) n w)) a c w gs r
full_leads script S x fs gs body a b c w n r full (some, g) h =
    let o : Outcome = run S body (suc n) (charged w 1) in
    let p : Outcome = run S too_many_calls n (charged w 1) in
    let e : run S (entering body) n w ≡ p = ap (λ y. cond y (cond (nat_lt n 2000) o p) (Halt w 0)) some ∙ ap (λ y. cond y o p) full in
    leads_then script S x _ _ a b c w (charged w 1) gs r (reaches_same _ _ (ap (unwind (entry_rest script S) fs) e)) g (stays_charged w 1) h

-- ---- a request, behind the note of its site

pub serve_leads : (script : Tree) (S : Server) (x : ℕ) (fs gs : List Entry) (service : Service) (q : Request) (n : ℕ) (a b c : HeapView) (w : World) (r : Result Next Stop) →
    IsServerBy program_of S → w.script ≡ script → Goes a b w (noted_for q w) → service ≡ served_by (noted_for q w).lists q →
    Leads script S x (unwind (entry_rest script S) fs (run S (service_program script service q) n (noted_for q w))) b c (noted_for q w) gs r →
    Leads script S x (unwind (entry_rest script S) fs (S n (Of q) w)) a c w gs r
serve_leads script S x fs gs service q n a b c w r is same g e h =
    let v : World = noted_for q w in
    let outcome : S n (Of q) w ≡ run S (service_program script service q) n v =
    is.serves n (Of q) w ∙ table S n q w ∙ ap (λ t. run S (service_program t (served_by v.lists q) q) n v) same ∙ ap (λ y. run S (service_program script y q) n v) (sym e) in
    leads_then script S x _ _ a b c w v gs r (reaches_same _ _ (ap (unwind (entry_rest script S) fs) outcome)) g (stays_noted q w) h

-- ---- a line

pub print_leads : (script : Tree) (S : Server) (fs : List Entry) (heap : HeapView) (w : World) (line : List Value) → StandsFor heap w →
    Leads script S (length fs + 2) (unwind (entry_rest script S) fs (line_printed line w)) heap heap w fs (Ok (Prints line))
print_leads script S fs heap w line h = (w, goes_none heap w h, stays_none w, nears_same _ _ _ _ refl (omega arith))

-- what is not written yet
pub unwritten_leads : (script : Tree) (S : Server) (fs : List Entry) (heap : HeapView) (w : World) (c : Answer) → StandsFor heap w →
    Leads script S (length fs + 2) (unwind (entry_rest script S) fs (Ended (answered c) w 0)) heap heap w fs (Ok (GoOn (Returning c)))
unwritten_leads script S fs heap w c h = (w, goes_none heap w h, stays_none w, nears_same _ _ _ _ refl (omega arith))
