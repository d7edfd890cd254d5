-- The facts of the interpreter, proved once for all algorithms.
use Rattle.std.proofs.Common.{◌≡◌, ℕ, zero, suc, ◌+◌, ◌*◌, ◌<◌, ◌≤◌, Bool, true, false, refl, ◌∙◌, ap, arith, cond, nat_le, nat_lt}
use Rattle.std.proofs.lemmas.Bool.{leb-true}
use Rattle.std.proofs.Math.Nat.{mul-le-mul_left, mul-suc}
use Rattle.es_tree.specs.Tree.{Tree}
use Rattle.es_model.specs.Completions.{Completion}
use Rattle.es_model.specs.World.{World}
use Rattle.es_model.specs.Changes.{changed, charged, printed_more}
use Rattle.es_model.specs.Program.{Program, done, look, change, charge, ask, part, nest, print, Task, Of, Outcome, Ended, Halt, Server, run, one_more, plus, after, nested_limit}
use Rattle.es_model.specs.Grows.{KeepsScript}
use Rattle.es_model.specs.Outcomes.{world_of, NeverRaises}
use Rattle.es_model.specs.Servers.{Programs, serve_by, depth_for, model_by, AreWithin, BeginsWithCharge, ChargeFirst, IsServerBy, IsDepthFreeBy}
use Rattle.es_model.specs.Weights.{weight, charges, renewed, renewed_by, renewed_if, IsWithin}
use Rattle.es_model.proofs.Rests.{leaves-changed, charged-turns, charged-script, printed-turns, printed-script}
use Rattle.es_model.proofs.Carried.{world-one_more, world-plus, serve-script}

abbrev pub turns_of : Outcome → ℕ
turns_of o = (world_of o).turns

pub turns-one_more : (o : Outcome) → turns_of (one_more o) ≡ turns_of o
turns-one_more o = ap (λ (w : World). w.turns) (world-one_more o)

pub turns-plus : (n : ℕ) (o : Outcome) → turns_of (plus n o) ≡ turns_of o
turns-plus n o = ap (λ (w : World). w.turns) (world-plus n o)

-- what comes after raises no turns, if neither part does
turns-after : (b : ℕ) (o : Outcome) (next : Completion → World → Outcome) → turns_of o ≤ b → ((c : Completion) (w : World) → turns_of (next c w) ≤ w.turns) → turns_of (after o next) ≤ b
turns-after b (Ended c w n) next low h = let e = turns-plus n (next c w) in let m = h c w in omega arith
turns-after b (Halt w n) next low h = low

turns-cond : (b : Bool) (o o' : Outcome) (m : ℕ) → turns_of o ≤ m → turns_of o' ≤ m → turns_of (cond b o o') ≤ m
turns-cond true o o' m h h' = h
turns-cond false o o' m h h' = h'

-- a program raises no turns, if its server raises none
pub run-never_raises : (S : Server) → NeverRaises S → (p : Program) (n : ℕ) (w : World) → turns_of (run S p n w) ≤ w.turns
run-never_raises S low (done c) n w = omega arith
run-never_raises S low (look f) n w = run-never_raises S low (f w.lists) n w
run-never_raises S low (change op p) n w =
    let e = run-never_raises S low p n (changed op w) in let same = (leaves-changed op w).turns in omega arith
run-never_raises S low (charge t p) n w =
    turns-cond (nat_le t w.turns) (run S p n (charged w t)) (Halt w 0) w.turns
    (let e = run-never_raises S low p n (charged w t) in let same = charged-turns w t in omega arith) (omega arith)
run-never_raises S low (ask q k) n w =
    let e = turns-after w.turns (S n (Of q) w) (λ c w'. run S (k c) n w') (low n (Of q) w) (λ c w'. run-never_raises S low (k c) n w') in
    let same = turns-one_more (after (S n (Of q) w) (λ c w'. run S (k c) n w')) in omega arith
run-never_raises S low (part t k) n w =
    let e = turns-after w.turns (S n t w) (λ c w'. run S (k c) n w') (low n t w) (λ c w'. run-never_raises S low (k c) n w') in
    let same = turns-one_more (after (S n t w) (λ c w'. run S (k c) n w')) in omega arith
run-never_raises S low (nest p q) n w = turns-cond (nat_lt n nested_limit) (run S p (suc n) w) (run S q n w) w.turns (run-never_raises S low p (suc n) w) (run-never_raises S low q n w)
run-never_raises S low (print bytes p) n w =
    let e = run-never_raises S low p n (printed_more w bytes) in let same = printed-turns w bytes in omega arith

pub serve-never_raises : (programs : Programs) (d : ℕ) → NeverRaises (serve_by programs d)
serve-never_raises programs zero n t w = omega arith
serve-never_raises programs (suc d) n t w = run-never_raises (serve_by programs d) (serve-never_raises programs d) (programs w.script t) n w

-- ---- a task that takes a turn first leaves fewer turns

-- where an outcome ended, its world has fewer turns than this
abbrev EndsBelow : ℕ → Outcome → Type 0
EndsBelow b (Ended c w n) = w.turns < b
EndsBelow b (Halt w n) = Unit {0}

abbrev IsStrict : Server → Type 0
IsStrict S = (n : ℕ) (t : Task) (w : World) → charges t ≡ true → EndsBelow w.turns (S n t w)

ends-below : (b c : ℕ) (o : Outcome) → turns_of o ≤ c → c < b → EndsBelow b o
ends-below b c (Ended d w n) low less = omega arith
ends-below b c (Halt w n) low less = tt

strict-cond : (x : Bool) (o : Outcome) (w : World) (b : ℕ) → (x ≡ true → EndsBelow b o) → EndsBelow b (cond x o (Halt w 0))
strict-cond true o w b h = h refl
strict-cond false o w b h = tt

first-strict : (S : Server) → NeverRaises S → (p : Program) (n : ℕ) (w : World) → BeginsWithCharge p → EndsBelow w.turns (run S p n w)
first-strict S low (charge (suc t) p) n w first =
    strict-cond (nat_le (suc t) w.turns) (run S p n (charged w (suc t))) w w.turns
    (λ fit. ends-below w.turns (charged w (suc t)).turns (run S p n (charged w (suc t))) (run-never_raises S low p n (charged w (suc t)))
    (let same = charged-turns w (suc t) in let some = leb-true (suc t) w.turns fit in omega arith))
first-strict S low (charge zero p) n w first = absurd first
first-strict S low (done c) n w first = absurd first
first-strict S low (look f) n w first = absurd first
first-strict S low (change op p) n w first = absurd first
first-strict S low (ask q k) n w first = absurd first
first-strict S low (part t k) n w first = absurd first
first-strict S low (nest p q) n w first = absurd first
first-strict S low (print bytes p) n w first = absurd first

serve-strict : (programs : Programs) → ChargeFirst programs → (d : ℕ) → IsStrict (serve_by programs d)
serve-strict programs first zero n t w e = tt
serve-strict programs first (suc d) n t w e =
    first-strict (serve_by programs d) (serve-never_raises programs d) (programs w.script t) n w (first w.script t e)

-- ---- two servers that agree below a bound, on the worlds of a script

abbrev Agree : Tree → ℕ → Server → Server → Type 0
Agree script b S S' = (n : ℕ) (t : Task) (w : World) → w.script ≡ script → renewed script * w.turns + weight t < b → S n t w ≡ S' n t w

pub turns-pay : (u a b : ℕ) → a ≤ b → u * a ≤ u * b
turns-pay u a b h = mul-le-mul_left u h

pub turn-pays : (u a b : ℕ) → a < b → u * a + u ≤ u * b
turn-pays u a b h = let e : u * suc a ≤ u * b = mul-le-mul_left u h in let s = mul-suc u a in omega arith

after-agree : (script : Tree) (b : ℕ) (o : Outcome) (next next' : Completion → World → Outcome) → turns_of o ≤ b → (world_of o).script ≡ script →
    ((c : Completion) (w : World) → w.script ≡ script → w.turns ≤ b → next c w ≡ next' c w) → after o next ≡ after o next'
after-agree script b (Ended c w n) next next' low same h = ap (plus n) (h c w same low)
after-agree script b (Halt w n) next next' low same h = refl

after-agree-below : (script : Tree) (b : ℕ) (o : Outcome) (next next' : Completion → World → Outcome) → EndsBelow b o → (world_of o).script ≡ script →
    ((c : Completion) (w : World) → w.script ≡ script → w.turns < b → next c w ≡ next' c w) → after o next ≡ after o next'
after-agree-below script b (Ended c w n) next next' low same h = ap (plus n) (h c w same low)
after-agree-below script b (Halt w n) next next' low same h = refl

part-agree : (script : Tree) (charging : Bool) (b : ℕ) (o : Outcome) (u r left : ℕ) (w : World) (next next' : Completion → World → Outcome) → turns_of o ≤ w.turns → (world_of o).script ≡ script → (charging ≡ true → EndsBelow w.turns o) →
    left ≤ r → u * w.turns + r ≤ b → ((c : Completion) (v : World) → v.script ≡ script → u * v.turns + renewed_if u charging left ≤ b → next c v ≡ next' c v) → after o next ≡ after o next'
part-agree script true b o u r left w next next' low same strict less fits ih =
    after-agree-below script w.turns o next next' (strict refl) same (λ c v e fewer. ih c v e (let paid = turn-pays u v.turns w.turns fewer in omega arith))
part-agree script false b o u r left w next next' low same strict less fits ih =
    after-agree script w.turns o next next' low same (λ c v e fewer. ih c v e (let paid = turns-pay u v.turns w.turns fewer in omega arith))

cond-agree : (b : Bool) (o o' h : Outcome) → (b ≡ true → o ≡ o') → cond b o h ≡ cond b o' h
cond-agree true o o' h e = e refl
cond-agree false o o' h e = refl

-- after a charge: where it took a turn the budget is new
charge-agree : (t b u r : ℕ) (w : World) (next next' : World → Outcome) → nat_le t w.turns ≡ true → u * w.turns + r ≤ b →
    (u * (charged w t).turns + renewed_by u t r ≤ b → next (charged w t) ≡ next' (charged w t)) → next (charged w t) ≡ next' (charged w t)
charge-agree zero b u r w next next' fit fits ih =
    ih (let same = charged-turns w zero in let paid = turns-pay u (charged w zero).turns w.turns (omega arith) in omega arith)
charge-agree (suc t) b u r w next next' fit fits ih =
    ih (let same = charged-turns w (suc t) in let le = leb-true (suc t) w.turns fit in let paid = turn-pays u (charged w (suc t)).turns w.turns (omega arith) in omega arith)

-- a program comes to the same over two servers that agree on what it may ask
pub run-agree : (script : Tree) (b : ℕ) (S S' : Server) → NeverRaises S → KeepsScript S → IsStrict S → Agree script b S S' →
    (p : Program) (r n : ℕ) (w : World) → IsWithin (renewed script) r p → w.script ≡ script → renewed script * w.turns + r ≤ b → run S p n w ≡ run S' p n w
run-agree script b S S' low stays strict h (done c) r n w ok same fits = refl
run-agree script b S S' low stays strict h (look f) r n w ok same fits = run-agree script b S S' low stays strict h (f w.lists) r n w (ok w.lists) same fits
run-agree script b S S' low stays strict h (change op p) r n w ok same fits =
    let leaves = leaves-changed op w in
    run-agree script b S S' low stays strict h p r n (changed op w) ok (leaves.script ∙ same)
    (let paid = turns-pay (renewed script) (changed op w).turns w.turns (let e = leaves.turns in omega arith) in omega arith)
run-agree script b S S' low stays strict h (charge t p) r n w ok same fits =
    cond-agree (nat_le t w.turns) (run S p n (charged w t)) (run S' p n (charged w t)) (Halt w 0)
    (λ fit. charge-agree t b (renewed script) r w (run S p n) (run S' p n) fit fits
    (run-agree script b S S' low stays strict h p (renewed_by (renewed script) t r) n (charged w t) ok (charged-script w t ∙ same)))
run-agree script b S S' low stays strict h (ask q k) r n w (left, below, ok) same fits =
    ap one_more (
    after-agree script w.turns (S n (Of q) w) (λ c v. run S (k c) n v) (λ c v. run S' (k c) n v) (low n (Of q) w) (stays n (Of q) w ∙ same)
    (λ c v e less. run-agree script b S S' low stays strict h (k c) left n v (ok c) e (let paid = turns-pay (renewed script) v.turns w.turns less in omega arith)) ∙
    ap (λ o. after o (λ c v. run S' (k c) n v)) (h n (Of q) w same (omega arith)))
run-agree script b S S' low stays strict h (part t k) r n w (left, below, ok) same fits =
    ap one_more (
    part-agree script (charges t) b (S n t w) (renewed script) r left w (λ c v. run S (k c) n v) (λ c v. run S' (k c) n v) (low n t w) (stays n t w ∙ same) (strict n t w) (omega arith) fits
    (λ c v e fits'. run-agree script b S S' low stays strict h (k c) (renewed_if (renewed script) (charges t) left) n v (ok c) e fits') ∙
    ap (λ o. after o (λ c v. run S' (k c) n v)) (h n t w same (omega arith)))
run-agree script b S S' low stays strict h (nest p q) r n w ok same fits =
    let e = run-agree script b S S' low stays strict h p r (suc n) w ok.0 same fits in
    let e' = run-agree script b S S' low stays strict h q r n w ok.1 same fits in
    λ i. cond (nat_lt n nested_limit) (e i) (e' i)
run-agree script b S S' low stays strict h (print bytes p) r n w ok same fits =
    run-agree script b S S' low stays strict h p r n (printed_more w bytes) ok (printed-script w bytes ∙ same)
    (let paid = turns-pay (renewed script) (printed_more w bytes).turns w.turns (let e = printed-turns w bytes in omega arith) in omega arith)

-- ---- the model

below-same : (script : Tree) (t : Task) (w : World) (b : ℕ) → w.script ≡ script → renewed script * w.turns + weight t < b → depth_for t w < b
below-same script t w b same less = let e = ap (λ s. renewed s * w.turns) same in omega arith

-- the outcome is the same at every depth that is enough
pub depth_free : (programs : Programs) → AreWithin programs → ChargeFirst programs → IsDepthFreeBy programs
depth_free programs within first zero e n t w small small' = absurd (omega arith)
depth_free programs within first (suc d) zero n t w small small' = absurd (omega arith)
depth_free programs within first (suc d) (suc e) n t w small small' =
    let agree : Agree w.script (depth_for t w) (serve_by programs d) (serve_by programs e) =
    λ n' t' v same less. let below = below-same w.script t' v (depth_for t w) same less in depth_free programs within first d e n' t' v (omega arith) (omega arith) in
    run-agree w.script (depth_for t w) (serve_by programs d) (serve_by programs e) (serve-never_raises programs d) (serve-script programs d) (serve-strict programs first d) agree
    (programs w.script t) (weight t) n w (within w.script t) refl (omega arith)

-- the model is a server
pub model-serves : (programs : Programs) → AreWithin programs → ChargeFirst programs → IsServerBy programs (model_by programs)
model-serves programs within first = record {
  serves = λ n t w.
      let agree : Agree w.script (depth_for t w) (serve_by programs (depth_for t w)) (model_by programs) =
      λ n' t' v same less. depth_free programs within first (depth_for t w) (suc (depth_for t' v)) n' t' v (below-same w.script t' v (depth_for t w) same less) (omega arith) in
      run-agree w.script (depth_for t w) (serve_by programs (depth_for t w)) (model_by programs) (serve-never_raises programs (depth_for t w)) (serve-script programs (depth_for t w))
      (serve-strict programs first (depth_for t w)) agree (programs w.script t) (weight t) n w (within w.script t) refl (omega arith);
}

pub model-never_raises : (programs : Programs) → NeverRaises (model_by programs)
model-never_raises programs n t w = serve-never_raises programs (suc (depth_for t w)) n t w
