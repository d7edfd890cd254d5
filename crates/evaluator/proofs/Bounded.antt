-- The loop of the machine has steps enough: a server of the tasks of a running body, and what its law says of items that wait.
use Rattle.std.proofs.Common.{◌≡◌, ℕ, zero, suc, ◌+◌, ◌*◌, ◌≤◌, ◌<◌, false, List, [], ◌∷◌, length, refl, sym, ◌∙◌, ap, subst, arith, true≢false}
use Rattle.property_keys.specs.declared.values.Value.TheVariants as value
use Rattle.es_tree.specs.Definitions.{most_definitions}
use Rattle.es_tree.specs.Tree.{Tree}
use Rattle.es_model.specs.declared.kinds.CellNo.{CellNo}
use Rattle.es_model.specs.declared.running.Running.{Running}
use Rattle.es_model.specs.Completions.{Completion, Throw}
use Rattle.es_model.specs.Outcomes.{requests_of, world_of}
use Rattle.es_model.specs.Program.{Program, done, Of, Evaluating, Statements, Round, Outcome, Ended, Halt, Server, one_more, plus, after, run}
use Rattle.es_model.specs.Servers.{AreWithin, ChargeFirst, Programs, model_by}
use Rattle.es_model.specs.Unwinding.{unwind}
use Rattle.es_model.specs.Weights.{IsWithin, renewed}
use Rattle.es_model.specs.World.{World}
use Rattle.es_model.proofs.Carried.{model-script, run-carried, script-carried}
use Rattle.es_model.proofs.Counts.{Counts, model-counts, requests-plus, run-counts, spent, spent-after}
use Rattle.es_model.proofs.Runs.{model-serves}
use Rattle.es_model.proofs.Within.{renewed-enough}
use Rattle.object_heap.specs.Stands.{HeapView}
use Rattle.evaluator.specs.declared.frames.Current.{Current}
use Rattle.evaluator.specs.declared.frames.Current.TheVariants.{At, EndedBy}
use Rattle.evaluator.specs.declared.frames.Pending.{Pending}
use Rattle.evaluator.specs.declared.items.Job.{Job}
use Rattle.evaluator.specs.declared.items.Job.TheVariants as job
use Rattle.evaluator.specs.Contexts.{Context, context}
use Rattle.evaluator.specs.Functions.{body_ended}
use Rattle.evaluator.specs.Machine.{IsServer, current_outcome, height, meaning, pending_rest, steps_for, within}
use Rattle.evaluator.specs.Plans.{item_program, job_program, task_of}
use Rattle.evaluator.specs.Tasks.{node_program, round_program, statements_program}
use Rattle.evaluator.proofs.FunctionsWithin.{body_ended-within}
use Rattle.evaluator.proofs.ItemsWithin.{item-within}
use Rattle.evaluator.proofs.Looped.{Stood}
use Rattle.evaluator.proofs.TasksWithin.{node-within, round-within, statements-within}
use Rattle.evaluator.proofs.WordsWithin.{within-whole}

-- ---- a server that serves the tasks of a running body, and throws at each request

abbrev pub job_tasks : Programs
job_tasks script (Of q) = done (Throw value.Undefined)
job_tasks script (Evaluating body cells name n) = node_program script body cells name n
job_tasks script (Statements body cells list i) = statements_program script body cells list i
job_tasks script (Round body cells n) = round_program script body cells n

-- a charge gives enough for the longest object literal of the script
renewed-is : (script : Tree) → renewed script ≡ 200 + 40 * most_definitions script.nodes
unfolding renewed
renewed-is script = refl

renewed-literals : (script : Tree) → 200 + 40 * most_definitions script.nodes ≤ renewed script
renewed-literals script = let e = renewed-is script in omega arith

tasks-within : AreWithin job_tasks
tasks-within script (Of q) = tt
tasks-within script (Evaluating body cells name n) = node-within (renewed script) script body cells name n (renewed-literals script)
tasks-within script (Statements body cells list i) = statements-within (renewed script) script body cells list i (renewed-enough script)
tasks-within script (Round body cells n) = round-within (renewed script) script body cells n (renewed-enough script)

tasks-first : ChargeFirst job_tasks
tasks-first script (Of q) e = absurd (true≢false (sym e))
tasks-first script (Evaluating body cells name n) e = tt
tasks-first script (Statements body cells list i) e = absurd (true≢false (sym e))
tasks-first script (Round body cells n) e = absurd (true≢false (sym e))

abbrev pub job_server : Server
job_server = model_by job_tasks

served : (body : Running) (cells : List CellNo) (j : Job) (n : ℕ) (w : World) → job_server n (task_of (context w.script body cells) j) w ≡ run job_server (job_tasks w.script (task_of (context w.script body cells) j)) n w
served body cells j n w = (model-serves job_tasks tasks-within tasks-first).serves n (task_of (context w.script body cells) j) w

pub job_serves : IsServer job_server
job_serves = record {
  serves = λ body cells j n w. elim j as (λ i. job_server n (task_of (context w.script body cells) i) w ≡ run job_server (job_program (context w.script body cells) i) n w) [
    | job.Node name m ↦ served body cells (job.Node name m) n w
    | job.Round m ↦ served body cells (job.Round m) n w
    | job.Statements list i ↦ served body cells (job.Statements list i) n w
  ];
}

steps-enough : (definitions turns waiting : ℕ) →
    2 * (200 + 40 * definitions + (2 * (200 + 40 * definitions)) * turns + (200 + 40 * definitions) * waiting) + 3 + waiting ≤ steps_for turns waiting definitions
steps-enough definitions turns waiting = omega arith

-- the first count of the steps
pub steps_enough : (script : Tree) (turns waiting : ℕ) →
    2 * (renewed script + (2 * renewed script) * turns + renewed script * waiting) + 3 + waiting ≤ steps_for turns waiting (most_definitions script.nodes)
steps_enough script turns waiting =
    subst (λ r. 2 * (r + (2 * r) * turns + r * waiting) + 3 + waiting ≤ steps_for turns waiting (most_definitions script.nodes)) (sym (renewed-is script)) (steps-enough (most_definitions script.nodes) turns waiting)

-- ---- what the items that wait come to

world-more : (o : Outcome) → world_of (one_more o) ≡ world_of o
world-more (Ended c w n) = refl
world-more (Halt w n) = refl

world-plus : (n : ℕ) (o : Outcome) → world_of (plus n o) ≡ world_of o
world-plus zero o = refl
world-plus (suc n) o = world-more (plus n o) ∙ world-plus n o

after-script : (script : Tree) (o : Outcome) (next : Completion → World → Outcome) → (world_of o).script ≡ script → ((c : Completion) (v : World) → v.script ≡ script → (world_of (next c v)).script ≡ script) →
    (world_of (after o next)).script ≡ script
after-script script (Ended c v n) next same h = ap (λ (u : World). u.script) (world-plus n (next c v)) ∙ h c v same
after-script script (Halt v n) next same h = same

unwind-script : {F : Type 0} (script : Tree) (rest : F → Completion → World → Outcome) → ((f : F) (c : Completion) (v : World) → v.script ≡ script → (world_of (rest f c v)).script ≡ script) →
    (fs : List F) (o : Outcome) → (world_of o).script ≡ script → (world_of (unwind rest fs o)).script ≡ script
unfolding unwind
unwind-script script rest h [] o same = same
unwind-script script rest h (f ∷ fs) o same = after-script script (unwind rest fs o) (rest f) (unwind-script script rest h fs o same) (h f)

-- each item comes to no more than a budget
unwind-counts : {F : Type 0} (script : Tree) (rest : F → Completion → World → Outcome) (b : ℕ) → ((f : F) (c : Completion) (v : World) → v.script ≡ script → (world_of (rest f c v)).script ≡ script) →
    ((f : F) (c : Completion) (v : World) → v.script ≡ script → spent (renewed script) (rest f c v) ≤ b + (2 * renewed script) * v.turns) →
    (fs : List F) (o : Outcome) (x : ℕ) → (world_of o).script ≡ script → spent (renewed script) o ≤ x → spent (renewed script) (unwind rest fs o) ≤ x + b * length fs
unfolding unwind
unwind-counts script rest b s h [] o x same fits = omega arith
unwind-counts script rest b s h (f ∷ fs) o x same fits =
    let below = unwind-counts script rest b s h fs o x same fits in
    let e = spent-after script false 0 b (x + b * length fs) (renewed script) (unwind rest fs o) (rest f) (unwind-script script rest s fs o same) (omega arith) (h f) in omega arith

-- ---- what is in hand comes to

run-script : (p : Program) (n : ℕ) (w : World) → (world_of (run job_server p n w)).script ≡ w.script
run-script = run-carried (λ w v. v.script ≡ w.script) script-carried job_server (model-script job_tasks)

counts : (script : Tree) → Counts script job_server
counts script = model-counts job_tasks tasks-within tasks-first script

program-counts : (script : Tree) (p : Program) (b n : ℕ) (w : World) → w.script ≡ script → IsWithin (renewed script) b p → spent (renewed script) (run job_server p n w) ≤ b + (2 * renewed script) * w.turns
program-counts script p b n w same ok = run-counts script job_server (model-script job_tasks) (counts script) p b n w same ok

rest-counts : (here : Context) (n : ℕ) (p : Pending) (c : Completion) (v : World) → v.script ≡ here.script →
    spent (renewed here.script) (pending_rest here job_server n p c v) ≤ renewed here.script + (2 * renewed here.script) * v.turns
rest-counts here n p c v same =
    program-counts here.script (item_program (within here p.depth) p.item c) (renewed here.script) n v same
    (within-whole (renewed here.script) (renewed here.script) _ (item-within (renewed here.script) (within here p.depth) p.item (renewed-literals here.script) c))

job-counts : (here : Context) (n : ℕ) (j : Job) (w : World) → w.script ≡ here.script → spent (renewed here.script) (job_server n (task_of here j) w) ≤ 1 + (2 * renewed here.script) * w.turns
job-counts here n (job.Node name m) w same = let e = counts here.script n (task_of here (job.Node name m)) w same in omega arith
job-counts here n (job.Round m) w same = let e = counts here.script n (task_of here (job.Round m)) w same in omega arith
job-counts here n (job.Statements list i) w same = let e = counts here.script n (task_of here (job.Statements list i)) w same in omega arith

current-counts : (here : Context) (n : ℕ) (now : Current) (w : World) → w.script ≡ here.script → spent (renewed here.script) (current_outcome here job_server n now w) ≤ 1 + (2 * renewed here.script) * w.turns
current-counts here n (At j) w same = job-counts here n j w same
current-counts here n (EndedBy e) w same = omega arith

current-script : (here : Context) (n : ℕ) (now : Current) (w : World) → w.script ≡ here.script → (world_of (current_outcome here job_server n now w)).script ≡ here.script
current-script here n (At j) w same = model-script job_tasks n (task_of here j) w ∙ same
current-script here n (EndedBy e) w same = same

meaning-counts : (here : Context) (n : ℕ) (ps : List Pending) (now : Current) (w : World) → w.script ≡ here.script →
    spent (renewed here.script) (meaning here job_server n ps now w) ≤ 1 + (2 * renewed here.script) * w.turns + renewed here.script * length ps
meaning-counts here n ps now w same =
    let o : Outcome = current_outcome here job_server n now w in
    let kept : (p : Pending) (c : Completion) (v : World) → v.script ≡ here.script → (world_of (pending_rest here job_server n p c v)).script ≡ here.script =
    λ p c v e. run-script (item_program (within here p.depth) p.item c) n v ∙ e in
    let below = unwind-counts here.script (pending_rest here job_server n) (renewed here.script) kept (rest-counts here n) ps o (1 + (2 * renewed here.script) * w.turns) (current-script here n now w same) (current-counts here n now w same) in
    let e = spent-after here.script false 0 0 (1 + (2 * renewed here.script) * w.turns + renewed here.script * length ps) (renewed here.script) (unwind (pending_rest here job_server n) ps o) (λ c v. run job_server (body_ended here c) n v)
    (unwind-script here.script (pending_rest here job_server n) kept ps o (current-script here n now w same)) (omega arith) (λ c v e. program-counts here.script (body_ended here c) 0 n v e (within-whole (renewed here.script) 0 _ (body_ended-within (renewed here.script) 0 here c))) in omega arith

height-some : (ps : List Pending) (now : Current) → 0 < height ps now
height-some ps (At j) = omega arith
height-some ps (EndedBy e) = omega arith

-- a step is left
pub some_left : (left : ℕ) (script : Tree) (body : Running) (n : ℕ) (a b : HeapView) (w : World) (cells : List CellNo) (ps : List Pending) (now : Current) (cells1 : List CellNo) (ps1 : List Pending) (now1 : Current) → w.script ≡ script →
    Stood (left + 3) (2 * (renewed script + (2 * renewed script) * w.turns + renewed script * length ps) + 3) script body job_server n a b w cells ps now cells1 ps1 now1 → 0 < left
some_left left script body n a b w cells ps now cells1 ps1 now1 same (v, g, st, e) =
    let falls = e.falls in
    let paid = meaning-counts (context script body cells) n ps now w same in
    let some = height-some ps1 now1 in
    let enough = renewed-enough script in
    let all : requests_of (meaning (context script body cells) job_server n ps now w) ≡ e.served + requests_of (meaning (context script body cells1) job_server n ps1 now1 v) =
    ap requests_of e.same ∙ requests-plus e.served (meaning (context script body cells1) job_server n ps1 now1 v) in
    omega arith
