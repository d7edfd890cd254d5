-- Frames that wait, over plain variables.
use Rattle.std.proofs.Common.{◌≡◌, ℕ, zero, suc, ◌+◌, ◌<◌, Bool, true, false, cond, List, [], ◌∷◌, ◌++◌, arith, refl, ◌∙◌, ap, nat_le}
use Rattle.es_model.specs.Completions.{Completion}
use Rattle.es_model.specs.World.{World}
use Rattle.es_model.specs.Changes.{changed, charged}
use Rattle.es_model.specs.Program.{Program, done, look, change, charge, ask, part, nest, print, Outcome, Halt, one_more, plus, after}
use Rattle.es_model.specs.Stages.{Stage, AtHalt, stage_of, world_at}
use Rattle.es_model.specs.Unwinding.{unwind, Stays, Reaches, Nears}
use Rattle.es_model.proofs.Composing.{after-one_more, after-after}
use Rattle.es_model.proofs.Rests.{leaves-changed, charged-script, charged-printed}

-- ---- frames below an outcome

pub unwind-none : {F : Type 0} (rest : F → Completion → World → Outcome) (o : Outcome) → unwind rest [] o ≡ o
unfolding unwind
unwind-none rest o = refl

pub unwind-push : {F : Type 0} (rest : F → Completion → World → Outcome) (fs : List F) (f : F) (o : Outcome) → unwind rest (fs ++ f ∷ []) o ≡ unwind rest fs (after o (rest f))
unfolding unwind
unwind-push rest [] f o = refl
unwind-push rest (b ∷ fs) f o = ap (λ x. after x (rest b)) (unwind-push rest fs f o)

pub unwind-one_more : {F : Type 0} (rest : F → Completion → World → Outcome) (fs : List F) (o : Outcome) → unwind rest fs (one_more o) ≡ one_more (unwind rest fs o)
unfolding unwind
unwind-one_more rest [] o = refl
unwind-one_more rest (b ∷ fs) o = ap (λ x. after x (rest b)) (unwind-one_more rest fs o) ∙ after-one_more (unwind rest fs o) (rest b)

pub unwind-plus : {F : Type 0} (rest : F → Completion → World → Outcome) (fs : List F) (n : ℕ) (o : Outcome) → unwind rest fs (plus n o) ≡ plus n (unwind rest fs o)
unwind-plus rest fs zero o = refl
unwind-plus rest fs (suc n) o = unwind-one_more rest fs (plus n o) ∙ ap one_more (unwind-plus rest fs n o)

pub unwind-after : {F : Type 0} (rest : F → Completion → World → Outcome) (fs : List F) (o : Outcome) (f : Completion → World → Outcome) →
    unwind rest fs (after o f) ≡ after o (λ c w. unwind rest fs (f c w))
unfolding unwind
unwind-after rest [] o f = refl
unwind-after rest (b ∷ fs) o f = ap (λ x. after x (rest b)) (unwind-after rest fs o f) ∙ after-after o (λ c w. unwind rest fs (f c w)) (rest b)

-- a halt passes every frame
pub unwind-halt : {F : Type 0} (rest : F → Completion → World → Outcome) (fs : List F) (w : World) (n : ℕ) → unwind rest fs (Halt w n) ≡ Halt w n
unfolding unwind
unwind-halt rest [] w n = refl
unwind-halt rest (b ∷ fs) w n = ap (λ x. after x (rest b)) (unwind-halt rest fs w n)

-- ---- requests more

pub plus-plus : (k m : ℕ) (o : Outcome) → plus k (plus m o) ≡ plus (k + m) o
plus-plus zero m o = ap (λ n. plus n o) (let e : m ≡ 0 + m = omega arith in e)
plus-plus (suc k) m o = ap one_more (plus-plus k m o) ∙ ap (λ n. plus n o) (let e : suc (k + m) ≡ suc k + m = omega arith in e)

pub plus-halt : (k : ℕ) (w : World) → plus k (Halt w 0) ≡ Halt w k
plus-halt zero w = refl
plus-halt (suc k) w = ap one_more (plus-halt k w)

pub reaches_none : (o : Outcome) → Reaches o o
reaches_none o = record { served = 0; same = refl }

pub reaches_same : (o p : Outcome) → o ≡ p → Reaches o p
reaches_same o p e = record { served = 0; same = e }

pub reaches_then : (a b c : Outcome) → Reaches a b → Reaches b c → Reaches a c
reaches_then a b c p q = record { served = p.served + q.served; same = p.same ∙ ap (plus p.served) q.same ∙ plus-plus p.served q.served c }

pub nears_same : (a b : ℕ) (o p : Outcome) → o ≡ p → b < a → Nears a b o p
nears_same a b o p e less = record { served = 0; same = e; falls = omega arith }

pub nears_after : (a b : ℕ) (o p q : Outcome) → Reaches o p → Nears a b p q → Nears a b o q
nears_after a b o p q e n =
    let falls = n.falls in
    record { served = e.served + n.served; same = e.same ∙ ap (plus e.served) n.same ∙ plus-plus e.served n.served q; falls = omega arith }

pub nears_reaches : (a b : ℕ) (o p : Outcome) → Nears a b o p → Reaches o p
nears_reaches a b o p e = record { served = e.served; same = e.same }

-- ---- the script and what was printed

pub stays_none : (w : World) → Stays w w
stays_none w = record { script = refl; printed = refl }

pub stays_then : (u v w : World) → Stays u v → Stays v w → Stays u w
stays_then u v w p q = record { script = q.script ∙ p.script; printed = q.printed ∙ p.printed }

pub stays_charged : (w : World) (n : ℕ) → Stays w (charged w n)
stays_charged w n = record { script = charged-script w n; printed = charged-printed w n }

stays-cond : (w : World) (b : Bool) (s : Stage) → Stays w (world_at s) → Stays w (world_at (cond b s (AtHalt w)))
stays-cond w true s h = h
stays-cond w false s h = stays_none w

-- up to where a program stops by itself, nothing is printed
pub stage-stays : (p : Program) (w : World) → Stays w (world_at (stage_of p w))
stage-stays (done c) w = stays_none w
stage-stays (look f) w = stage-stays (f w.lists) w
stage-stays (change op p) w =
    stays_then w (changed op w) _ (record { script = (leaves-changed op w).script; printed = (leaves-changed op w).printed }) (stage-stays p (changed op w))
stage-stays (charge t p) w = stays-cond w (nat_le t w.turns) (stage_of p (charged w t)) (stays_then w (charged w t) _ (stays_charged w t) (stage-stays p (charged w t)))
stage-stays (ask q k) w = stays_none w
stage-stays (part t k) w = stays_none w
stage-stays (nest p q) w = stays_none w
stage-stays (print bytes p) w = stays_none w
