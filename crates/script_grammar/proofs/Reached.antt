-- The machine that has read a list, and what the grammar says of that list.
use Rattle.std.proofs.Common.{◌≡◌, ℕ, Option, Some, List, [], ◌∷◌, ◌++◌, refl, subst, ap, sym, ◌∙◌, append_assoc, append-nil}
use Rattle.script_grammar.specs.declared.sign.Sign.{Sign}
use Rattle.script_grammar.specs.declared.symbol.Symbol.{Symbol}
use Rattle.script_grammar.specs.Tree.{ParseTree}
use Rattle.script_grammar.specs.Grammar.{Read, read, Plain, Viable}
use Rattle.script_grammar.specs.Grammar.{Spells as spells}
use Rattle.script_grammar.specs.Machine.{Outcome, Fail, Next}
use Rattle.script_grammar.specs.Trees.{step, finish}
use Rattle.script_grammar.specs.Progress.{Done, Then, Takes, Reached, start, begun}
use Rattle.script_grammar.proofs.Sound.{Kept, step_sound}
use Rattle.script_grammar.proofs.Endings.{ending, produce, finish_sound}
use Rattle.script_grammar.proofs.Complete.{promise}

pub reached_start : Reached [] start begun
reached_start = record { onward = λ u s h. promise h [] [] s refl; back = λ u. (u, spells.items-none, λ ys r h. (ys, refl, h)) }

then_at : (o : Outcome (List ParseTree)) (γ : List Symbol) (vs : List ParseTree) (n : ℕ) (R : List Symbol → List ParseTree → Type 0) → o ≡ Next γ vs n → Then o n R → R γ vs
then_at o γ vs n R e h = (subst (λ (o : Outcome (List ParseTree)). Then o n R) e h).1

kept_at : (T : ℕ → List Read) (u : List Read) (o : Outcome (List ParseTree)) (γ : List Symbol) (vs : List ParseTree) (n : ℕ) → o ≡ Next γ vs n → Kept T u o → Done (T n) γ vs u
kept_at T u o γ vs n e h = subst (λ (o : Outcome (List ParseTree)). Kept T u o) e h

one_more : (done u : List Read) (x : Read) → (done ++ (x ∷ [])) ++ u ≡ done ++ (x ∷ u)
one_more done u x = append_assoc done (x ∷ []) u

pub reached_next : {done : List Read} {γ : List Symbol} {vs : List ParseTree} → Reached done γ vs → (x : Sign) (γ' : List Symbol) (vs' : List ParseTree) (n : ℕ) → step γ vs x ≡ Next γ' vs' n → Reached (done ++ (read x n ∷ [])) γ' vs'
reached_next {done = done} {γ = γ} {vs = vs} r x γ' vs' n e = record {
  onward = λ u s h. then_at (step γ vs x) γ' vs' n (Takes u s) e (r.onward (read x n ∷ u) s (subst (λ (ts : List Read). Plain ts s) (one_more done u (read x n)) h));
  back = λ u. subst (λ (ts : List Read). Done ts γ' vs' u) (sym (one_more done u (read x n)))
      (kept_at (λ m. done ++ (read x m ∷ u)) u (step γ vs x) γ' vs' n e (step_sound (λ m. done ++ (read x m ∷ u)) u γ vs x (λ m. r.back (read x m ∷ u))));
}

-- What was read begins some script.
pub viable : {done : List Read} {γ : List Symbol} {vs : List ParseTree} → Reached done γ vs → Viable done
viable {done = done} {γ = γ} {vs = vs} r = let w = produce (done ++ ending γ) γ vs (r.back (ending γ)) in (ending γ, w.0, w.1)

then_next : (o : Outcome (List ParseTree)) (n : ℕ) (R : List Symbol → List ParseTree → Type 0) → Then o n R → (γ : List Symbol) × (vs : List ParseTree) × (o ≡ Next γ vs n)
then_next Fail n R h = absurd h
then_next (Next γ vs m) n R h = (γ, vs, ap (λ (k : ℕ). Next γ vs k) h.0)

-- A token that some script has next, the machine takes, at its nesting.
pub allowed : {done : List Read} {γ : List Symbol} {vs : List ParseTree} → Reached done γ vs → (x : Sign) (n : ℕ) → Viable (done ++ (read x n ∷ [])) → (γ' : List Symbol) × (vs' : List ParseTree) × (step γ vs x ≡ Next γ' vs' n)
allowed {done = done} {γ = γ} {vs = vs} r x n h =
    then_next (step γ vs x) n (Takes h.0 h.1) (r.onward (read x n ∷ h.0) h.1 (subst (λ (ts : List Read). Plain ts h.1) (one_more done h.0 (read x n)) h.2))

pub refused : {done : List Read} {γ : List Symbol} {vs : List ParseTree} → Reached done γ vs → (x : Sign) → step γ vs x ≡ Fail → (n : ℕ) → Viable (done ++ (read x n ∷ [])) → ⊥
refused {done = done} {γ = γ} {vs = vs} r x e n h = let w = allowed r x n h in different (step γ vs x) w.0 w.1 n e w.2
  where
    different : (o : Outcome (List ParseTree)) (γ' : List Symbol) (vs' : List ParseTree) (n : ℕ) → o ≡ Fail → o ≡ Next γ' vs' n → ⊥
    different o γ' vs' n a b = cc

pub taken_next : {done : List Read} {γ : List Symbol} {vs : List ParseTree} → Reached done γ vs → (x : Sign) (γ' : List Symbol) (vs' : List ParseTree) (n : ℕ) → step γ vs x ≡ Next γ' vs' n → Viable (done ++ (read x n ∷ []))
taken_next r x γ' vs' n e = viable (reached_next r x γ' vs' n e)

pub ends : {done : List Read} {γ : List Symbol} {vs : List ParseTree} → Reached done γ vs → (s : ParseTree) → Plain done s → finish γ vs ≡ Some s
ends {done = done} r s h = r.onward [] s (subst (λ (ts : List Read). Plain ts s) (sym (append-nil done)) h)

pub ended : {done : List Read} {γ : List Symbol} {vs : List ParseTree} → Reached done γ vs → (s : ParseTree) → finish γ vs ≡ Some s → Plain done s
ended {done = done} {γ = γ} {vs = vs} r s e = subst (λ (ts : List Read). Plain ts s) (append-nil done) (finish_sound (done ++ []) γ vs s (r.back []) e)

-- Each list that begins some script is reached.
pub reached_on : (ts : List Read) (done : List Read) (γ : List Symbol) (vs : List ParseTree) → Reached done γ vs → Viable (done ++ ts) → (γ' : List Symbol) × (vs' : List ParseTree) × Reached (done ++ ts) γ' vs'
reached_on [] done γ vs r h = (γ, vs, subst (λ (ts : List Read). Reached ts γ vs) (sym (append-nil done)) r)
reached_on (read x n ∷ ts) done γ vs r h =
    let a = allowed r x n (shorter done ts (read x n) h) in
    let b = reached_on ts (done ++ (read x n ∷ [])) a.0 a.1 (reached_next r x a.0 a.1 n a.2) (subst (λ (ts : List Read). Viable ts) (sym (one_more done ts (read x n))) h) in
    (b.0, b.1, subst (λ (ts : List Read). Reached ts b.0 b.1) (one_more done ts (read x n)) b.2)
  where
    shorter : (done ts : List Read) (x : Read) → Viable (done ++ (x ∷ ts)) → Viable (done ++ (x ∷ []))
    shorter done ts x h = (ts ++ h.0, h.1, subst (λ (ts : List Read). Plain ts h.1) (append_assoc done (x ∷ ts) h.0 ∙ sym (one_more done (ts ++ h.0) x)) h.2)

pub reached : (done : List Read) → Viable done → (γ : List Symbol) × (vs : List ParseTree) × Reached done γ vs
reached done h = reached_on done [] start begun reached_start h

-- LAWS

-- One list of tokens has at most one script.
pub one_script : (ts : List Read) (s s' : ParseTree) → Plain ts s → Plain ts s' → s ≡ s'
one_script ts s s' a b =
    let r = reached ts ([], s, subst (λ (ts : List Read). Plain ts s) (sym (append-nil ts)) a) in
    same (finish r.0 r.1) s s' (ends r.2 s a) (ends r.2 s' b)
  where
    same : (o : Option ParseTree) (s s' : ParseTree) → o ≡ Some s → o ≡ Some s' → s ≡ s'
    same o s s' a b = cc

-- A token has one nesting, whatever follows it.
pub one_nesting : (done : List Read) (x : Sign) (n m : ℕ) → Viable (done ++ (read x n ∷ [])) → Viable (done ++ (read x m ∷ [])) → n ≡ m
one_nesting done x n m a b =
    let r = reached done (front done (read x n) a) in
    let c = allowed r.2 x n a in
    let d = allowed r.2 x m b in
    same (step r.0 r.1 x) c.0 d.0 c.1 d.1 n m c.2 d.2
  where
    front : (done : List Read) (x : Read) → Viable (done ++ (x ∷ [])) → Viable done
    front done x h = (x ∷ h.0, h.1, subst (λ (ts : List Read). Plain ts h.1) (one_more done h.0 x) h.2)

    same : (o : Outcome (List ParseTree)) (γ γ' : List Symbol) (vs vs' : List ParseTree) (n m : ℕ) → o ≡ Next γ vs n → o ≡ Next γ' vs' m → n ≡ m
    same o γ γ' vs vs' n m a b = cc
