-- What every change, charge and line keeps, every outcome keeps.
use Rattle.std.proofs.Common.{◌≡◌, ℕ, zero, suc, Bool, true, false, cond, List, [], ◌++◌, refl, sym, subst, ap, ◌∙◌, nat_le, nat_lt}
use Rattle.std.proofs.lemmas.List.{append-nil, append_assoc}
use Rattle.es_model.specs.Completions.{Completion}
use Rattle.es_model.specs.World.{World}
use Rattle.es_model.specs.Changes.{Change, changed, charged, printed_more}
use Rattle.es_model.specs.Program.{Program, done, look, change, charge, ask, part, nest, print, Task, Of, Outcome, Ended, Halt, Server, run, one_more, plus, after, nested_limit}
use Rattle.es_model.specs.Outcomes.{world_of}
use Rattle.es_model.specs.Servers.{Programs, serve_by, depth_for, model_by}
use Rattle.es_model.specs.Grows.{Grows, KeepsLists, KeepsScript, HasPrinted, KeepsPrinted}
use Rattle.es_model.proofs.Rests.{leaves-changed, charged-script, charged-printed, printed-script, printed-more}
use Rattle.es_model.proofs.Growing.{grows_none, grows_then, grows-changed, grows-charged, grows-printed}

pub world-one_more : (o : Outcome) → world_of (one_more o) ≡ world_of o
world-one_more (Ended c w n) = refl
world-one_more (Halt w n) = refl

pub world-plus : (n : ℕ) (o : Outcome) → world_of (plus n o) ≡ world_of o
world-plus zero o = refl
world-plus (suc n) o = world-one_more (plus n o) ∙ world-plus n o

-- a relation of worlds that steps and their composition keep
pub record IsCarried (R : World → World → Type 0) : Type 0 where
  pub none : (w : World) → R w w
  pub then : (a b c : World) → R a b → R b c → R a c
  pub change : (op : Change) (w : World) → R w (changed op w)
  pub charge : (w : World) (n : ℕ) → R w (charged w n)
  pub print : (w : World) (bytes : List ℕ) → R w (printed_more w bytes)

carried-cond : (R : World → World → Type 0) (w : World) (b : Bool) (o o' : Outcome) → R w (world_of o) → R w (world_of o') → R w (world_of (cond b o o'))
carried-cond R w true o o' h h' = h
carried-cond R w false o o' h h' = h'

carried-after : (R : World → World → Type 0) → IsCarried R → (w : World) (o : Outcome) (next : Completion → World → Outcome) → R w (world_of o) → ((c : Completion) (v : World) → R v (world_of (next c v))) → R w (world_of (after o next))
carried-after R r w (Ended c v n) next h f =
    subst (R w) (sym (world-plus n (next c v))) (r.then w v (world_of (next c v)) h (f c v))
carried-after R r w (Halt v n) next h f = h

pub run-carried : (R : World → World → Type 0) → IsCarried R → (S : Server) → ((n : ℕ) (t : Task) (w : World) → R w (world_of (S n t w))) → (p : Program) (n : ℕ) (w : World) → R w (world_of (run S p n w))
run-carried R r S s (done c) n w = r.none w
run-carried R r S s (look f) n w = run-carried R r S s (f w.lists) n w
run-carried R r S s (change op p) n w = r.then w (changed op w) (world_of (run S p n (changed op w))) (r.change op w) (run-carried R r S s p n (changed op w))
run-carried R r S s (charge t p) n w =
    carried-cond R w (nat_le t w.turns) (run S p n (charged w t)) (Halt w 0)
    (r.then w (charged w t) (world_of (run S p n (charged w t))) (r.charge w t) (run-carried R r S s p n (charged w t))) (r.none w)
run-carried R r S s (ask q k) n w =
    subst (R w) (sym (world-one_more (after (S n (Of q) w) (λ c v. run S (k c) n v))))
    (carried-after R r w (S n (Of q) w) (λ c v. run S (k c) n v) (s n (Of q) w) (λ c v. run-carried R r S s (k c) n v))
run-carried R r S s (part t k) n w =
    subst (R w) (sym (world-one_more (after (S n t w) (λ c v. run S (k c) n v))))
    (carried-after R r w (S n t w) (λ c v. run S (k c) n v) (s n t w) (λ c v. run-carried R r S s (k c) n v))
run-carried R r S s (nest p q) n w =
    carried-cond R w (nat_lt n nested_limit) (run S p (suc n) w) (run S q n w) (run-carried R r S s p (suc n) w) (run-carried R r S s q n w)
run-carried R r S s (print bytes p) n w =
    r.then w (printed_more w bytes) (world_of (run S p n (printed_more w bytes))) (r.print w bytes) (run-carried R r S s p n (printed_more w bytes))

serve-carried : (programs : Programs) (R : World → World → Type 0) → IsCarried R → (d n : ℕ) (t : Task) (w : World) → R w (world_of (serve_by programs d n t w))
serve-carried programs R r zero n t w = r.none w
serve-carried programs R r (suc d) n t w = run-carried R r (serve_by programs d) (serve-carried programs R r d) (programs w.script t) n w

model-carried : (programs : Programs) (R : World → World → Type 0) → IsCarried R → (n : ℕ) (t : Task) (w : World) → R w (world_of (model_by programs n t w))
model-carried programs R r n t w = serve-carried programs R r (suc (depth_for t w)) n t w

-- ---- lists grow

lists-carried : IsCarried (λ w v. Grows w.lists v.lists)
lists-carried = record {
  none = λ w. grows_none w.lists;
  then = λ a b c. grows_then a.lists b.lists c.lists;
  change = grows-changed;
  charge = grows-charged;
  print = grows-printed;
}

pub model-grows : (programs : Programs) → KeepsLists (model_by programs)
model-grows programs = model-carried programs (λ w v. Grows w.lists v.lists) lists-carried

-- ---- the script stays

pub script-carried : IsCarried (λ w v. v.script ≡ w.script)
script-carried = record {
  none = λ w. refl;
  then = λ a b c p q. q ∙ p;
  change = λ op w. (leaves-changed op w).script;
  charge = charged-script;
  print = printed-script;
}

pub model-script : (programs : Programs) → KeepsScript (model_by programs)
model-script programs = model-carried programs (λ w v. v.script ≡ w.script) script-carried

pub serve-script : (programs : Programs) (d : ℕ) → KeepsScript (serve_by programs d)
serve-script programs = serve-carried programs (λ w v. v.script ≡ w.script) script-carried

-- ---- what was printed stays printed

prints-nothing : (w v : World) → v.printed ≡ w.printed → HasPrinted w v
prints-nothing w v e = ([], e ∙ sym (append-nil w.printed))

printed-carried : IsCarried HasPrinted
printed-carried = record {
  none = λ w. prints-nothing w w refl;
  then = λ a b c p q. (p.0 ++ q.0, q.1 ∙ ap (λ s. s ++ q.0) p.1 ∙ append_assoc a.printed p.0 q.0);
  change = λ op w. prints-nothing w (changed op w) (leaves-changed op w).printed;
  charge = λ w n. prints-nothing w (charged w n) (charged-printed w n);
  print = λ w bytes. (bytes, printed-more w bytes);
}

pub model-prints : (programs : Programs) → KeepsPrinted (model_by programs)
model-prints programs = model-carried programs HasPrinted printed-carried
