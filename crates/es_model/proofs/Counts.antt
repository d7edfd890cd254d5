-- A task comes to no more requests than its weight, and what the turns that it took pay for. A turn pays for two budgets: that after its charge, and that of what
-- goes on after the part that took it.
use Rattle.std.proofs.Common.{◌≡◌, ℕ, zero, suc, ◌+◌, ◌*◌, ◌≤◌, Bool, true, false, refl, subst, ◌∙◌, ap, arith, cond, nat_le, nat_lt}
use Rattle.std.proofs.lemmas.Bool.{leb-true}
use Rattle.es_tree.specs.Tree.{Tree}
use Rattle.es_model.specs.Completions.{Completion}
use Rattle.es_model.specs.World.{World}
use Rattle.es_model.specs.Changes.{changed, charged, printed_more}
use Rattle.es_model.specs.Program.{Program, done, look, change, charge, ask, part, nest, print, Task, Of, Outcome, Ended, Halt, Server, run, one_more, plus, after, nested_limit}
use Rattle.es_model.specs.Grows.{KeepsScript}
use Rattle.es_model.specs.Outcomes.{world_of, requests_of}
use Rattle.es_model.specs.Servers.{Programs, serve_by, depth_for, model_by, AreWithin, BeginsWithCharge, ChargeFirst, IsThrifty}
use Rattle.es_model.specs.Weights.{weight, charges, renewed, renewed_by, renewed_if, IsWithin}
use Rattle.es_model.proofs.Rests.{leaves-changed, charged-turns, charged-script, printed-turns, printed-script}
use Rattle.es_model.proofs.Carried.{serve-script}
use Rattle.es_model.proofs.Runs.{turns-one_more, turns-plus, turns-pay, turn-pays}
use Rattle.es_model.proofs.Within.{weight-below}

pub requests-one_more : (o : Outcome) → requests_of (one_more o) ≡ suc (requests_of o)
requests-one_more (Ended c w n) = refl
requests-one_more (Halt w n) = refl

pub requests-plus : (n : ℕ) (o : Outcome) → requests_of (plus n o) ≡ n + requests_of o
requests-plus zero o = omega arith
requests-plus (suc n) o = let e = requests-one_more (plus n o) in let f = requests-plus n o in omega arith

-- the requests, and what the turns that are left pay for
abbrev pub spent : ℕ → Outcome → ℕ
spent u o = requests_of o + (2 * u) * (world_of o).turns

-- what a task that took a turn leaves for what goes on after it
abbrev pub saved : ℕ → Bool → Outcome → ℕ
saved u true (Ended c w n) = u
saved u true (Halt w n) = 0
saved u false o = 0

-- each task comes to no more than its weight, and leaves a new budget where it took a turn
abbrev pub Counts : Tree → Server → Type 0
Counts script S = (n : ℕ) (t : Task) (w : World) → w.script ≡ script →
    spent (renewed script) (S n t w) + saved (renewed script) (charges t) (S n t w) ≤ weight t + (2 * renewed script) * w.turns

spent-plus : (u n : ℕ) (o : Outcome) → spent u (plus n o) ≡ n + spent u o
spent-plus u n o = let e = requests-plus n o in let f = ap (λ t. (2 * u) * t) (turns-plus n o) in omega arith

spent-one_more : (u : ℕ) (o : Outcome) → spent u (one_more o) ≡ suc (spent u o)
spent-one_more u o = let e = requests-one_more o in let f = ap (λ t. (2 * u) * t) (turns-one_more o) in omega arith

pub spent-after : (script : Tree) (charging : Bool) (a left x u : ℕ) (o : Outcome) (next : Completion → World → Outcome) → (world_of o).script ≡ script → spent u o + saved u charging o ≤ a + x →
    ((c : Completion) (w : World) → w.script ≡ script → spent u (next c w) ≤ renewed_if u charging left + (2 * u) * w.turns) → spent u (after o next) ≤ a + left + x
spent-after script true a left x u (Ended c w n) next same fits h = let e = spent-plus u n (next c w) in let g = h c w same in omega arith
spent-after script false a left x u (Ended c w n) next same fits h = let e = spent-plus u n (next c w) in let g = h c w same in omega arith
spent-after script true a left x u (Halt w n) next same fits h = omega arith
spent-after script false a left x u (Halt w n) next same fits h = omega arith

spent-cond : (u : ℕ) (b : Bool) (o o' : Outcome) (m : ℕ) → (b ≡ true → spent u o ≤ m) → spent u o' ≤ m → spent u (cond b o o') ≤ m
spent-cond u true o o' m h h' = h refl
spent-cond u false o o' m h h' = h'

spent-charge : (u t b : ℕ) (w : World) (o : Outcome) → nat_le t w.turns ≡ true → spent u o ≤ renewed_by u t b + (2 * u) * (charged w t).turns → spent u o ≤ b + (2 * u) * w.turns
spent-charge u zero b w o fit h =
    let same = charged-turns w zero in let paid = turns-pay (2 * u) (charged w zero).turns w.turns (omega arith) in omega arith
spent-charge u (suc t) b w o fit h =
    let same = charged-turns w (suc t) in let le = leb-true (suc t) w.turns fit in let paid = turn-pays (2 * u) (charged w (suc t)).turns w.turns (omega arith) in omega arith

-- a program within a budget comes to no more than that
pub run-counts : (script : Tree) (S : Server) → KeepsScript S → Counts script S → (p : Program) (b n : ℕ) (w : World) → w.script ≡ script → IsWithin (renewed script) b p →
    spent (renewed script) (run S p n w) ≤ b + (2 * renewed script) * w.turns
run-counts script S stays h (done c) b n w same ok = omega arith
run-counts script S stays h (look f) b n w same ok = run-counts script S stays h (f w.lists) b n w same (ok w.lists)
run-counts script S stays h (change op p) b n w same ok =
    let leaves = leaves-changed op w in
    let e = run-counts script S stays h p b n (changed op w) (leaves.script ∙ same) ok in
    let paid = turns-pay (2 * renewed script) (changed op w).turns w.turns (let f = leaves.turns in omega arith) in omega arith
run-counts script S stays h (charge t p) b n w same ok =
    spent-cond (renewed script) (nat_le t w.turns) (run S p n (charged w t)) (Halt w 0) (b + (2 * renewed script) * w.turns)
    (λ fit. spent-charge (renewed script) t b w (run S p n (charged w t)) fit (run-counts script S stays h p (renewed_by (renewed script) t b) n (charged w t) (charged-script w t ∙ same) ok)) (omega arith)
run-counts script S stays h (ask q k) b n w same (left, below, ok) =
    let rest : Completion → World → Outcome = λ c v. run S (k c) n v in
    let e = spent-after script false (weight (Of q)) left ((2 * renewed script) * w.turns) (renewed script) (S n (Of q) w) rest (stays n (Of q) w ∙ same) (h n (Of q) w same) (λ c v e. run-counts script S stays h (k c) left n v e (ok c)) in
    let f = spent-one_more (renewed script) (after (S n (Of q) w) rest) in omega arith
run-counts script S stays h (part t k) b n w same (left, below, ok) =
    let rest : Completion → World → Outcome = λ c v. run S (k c) n v in
    let e = spent-after script (charges t) (weight t) left ((2 * renewed script) * w.turns) (renewed script) (S n t w) rest (stays n t w ∙ same) (h n t w same)
    (λ c v e. run-counts script S stays h (k c) (renewed_if (renewed script) (charges t) left) n v e (ok c)) in
    let f = spent-one_more (renewed script) (after (S n t w) rest) in omega arith
run-counts script S stays h (nest p q) b n w same ok =
    spent-cond (renewed script) (nat_lt n nested_limit) (run S p (suc n) w) (run S q n w) (b + (2 * renewed script) * w.turns)
    (λ room. run-counts script S stays h p b (suc n) w same ok.0) (run-counts script S stays h q b n w same ok.1)
run-counts script S stays h (print bytes p) b n w same ok =
    let e = run-counts script S stays h p b n (printed_more w bytes) (printed-script w bytes ∙ same) ok in
    let paid = turns-pay (2 * renewed script) (printed_more w bytes).turns w.turns (let f = printed-turns w bytes in omega arith) in omega arith

saved-low : (u : ℕ) (charging : Bool) (o : Outcome) → saved u charging o ≤ u
saved-low u true (Ended c w n) = omega arith
saved-low u true (Halt w n) = omega arith
saved-low u false o = omega arith

-- a task that takes a turn first: the turn pays for the budget after it, and for that of what goes on after the task
saved-cond : (u : ℕ) (b : Bool) (o : Outcome) (w : World) → (b ≡ true → spent u o + u ≤ (2 * u) * w.turns) → spent u (cond b o (Halt w 0)) + saved u true (cond b o (Halt w 0)) ≤ (2 * u) * w.turns
saved-cond u true o w h = let e = h refl in let low = saved-low u true o in omega arith
saved-cond u false o w h = omega arith

first-counts : (script : Tree) (S : Server) → KeepsScript S → Counts script S → (p : Program) (b n : ℕ) (w : World) → w.script ≡ script → BeginsWithCharge p → IsWithin (renewed script) b p →
    spent (renewed script) (run S p n w) + saved (renewed script) true (run S p n w) ≤ (2 * renewed script) * w.turns
first-counts script S stays h (charge (suc t) p) b n w same first ok =
    saved-cond (renewed script) (nat_le (suc t) w.turns) (run S p n (charged w (suc t))) w
    (λ fit. let e = run-counts script S stays h p (renewed script) n (charged w (suc t)) (charged-script w (suc t) ∙ same) ok in let less = charged-turns w (suc t) in let le = leb-true (suc t) w.turns fit in
    let paid = turn-pays (2 * renewed script) (charged w (suc t)).turns w.turns (omega arith) in omega arith)
first-counts script S stays h (charge zero p) b n w same first ok = absurd first
first-counts script S stays h (done c) b n w same first ok = absurd first
first-counts script S stays h (look f) b n w same first ok = absurd first
first-counts script S stays h (change op p) b n w same first ok = absurd first
first-counts script S stays h (ask q k) b n w same first ok = absurd first
first-counts script S stays h (part t k) b n w same first ok = absurd first
first-counts script S stays h (nest p q) b n w same first ok = absurd first
first-counts script S stays h (print bytes p) b n w same first ok = absurd first

task-counts : (script : Tree) (S : Server) → KeepsScript S → Counts script S → (charging : Bool) (p : Program) (b n : ℕ) (w : World) → w.script ≡ script → (charging ≡ true → BeginsWithCharge p) → IsWithin (renewed script) b p →
    spent (renewed script) (run S p n w) + saved (renewed script) charging (run S p n w) ≤ b + (2 * renewed script) * w.turns
task-counts script S stays h true p b n w same first ok = let e = first-counts script S stays h p b n w same (first refl) ok in omega arith
task-counts script S stays h false p b n w same first ok = let e = run-counts script S stays h p b n w same ok in omega arith

none-saved : (u : ℕ) (charging : Bool) (w : World) → saved u charging (Halt w 0) ≡ 0
none-saved u true w = refl
none-saved u false w = refl

serve-counts : (programs : Programs) → AreWithin programs → ChargeFirst programs → (script : Tree) (d : ℕ) → Counts script (serve_by programs d)
serve-counts programs within first script zero n t w same = let e = none-saved (renewed script) (charges t) w in omega arith
serve-counts programs within first script (suc d) n t w same =
    task-counts script (serve_by programs d) (serve-script programs d) (serve-counts programs within first script d) (charges t) (programs w.script t) (weight t) n w same (first w.script t)
    (subst (λ s. IsWithin (renewed s) (weight t) (programs w.script t)) same (within w.script t))

pub model-counts : (programs : Programs) → AreWithin programs → ChargeFirst programs → (script : Tree) → Counts script (model_by programs)
model-counts programs within first script n t w same = serve-counts programs within first script (suc (depth_for t w)) n t w same

pub model-thrifty : (programs : Programs) → AreWithin programs → ChargeFirst programs → IsThrifty (model_by programs)
model-thrifty programs within first n t w =
    let e = serve-counts programs within first w.script (suc (depth_for t w)) n t w refl in let low = weight-below w.script t in omega arith
