-- A task is done: the machine ends as before.
use Rattle.std.proofs.Common.{◌≡◌, ◌<◌, ◌∙◌, ◌++◌, ap, refl, ℕ, ◌+◌, List, [], ◌∷◌, arith}
use Rattle.script_grammar.specs.declared.leaf.Leaf.{Leaf}
use Rattle.script_grammar.specs.declared.node.ParseNode.{ParseNode}
use Rattle.script_grammar.specs.declared.labels.Wrap.{Wrap}
use Rattle.script_grammar.specs.declared.labels.Pair.{Pair}
use Rattle.script_grammar.specs.declared.labels.Triple.{Triple}
use Rattle.script_grammar.specs.declared.labels.Quad.{Quad}
use Rattle.script_grammar.specs.Scripts.{Parts}
use Rattle.script_grammar.specs.Tree.{ParseTree}
use Rattle.script_grammar.specs.Tree.{ParseTree as parse_tree}
use Rattle.script_rules.specs.declared.scope.Scope.{Scope}
use Rattle.script_rules.specs.Arena.{tree_at}
use Rattle.script_checker.specs.declared.machine.Machine.{Machine}
use Rattle.script_checker.specs.declared.tasks.Setting.{Setting}
use Rattle.script_checker.specs.declared.tasks.Task.{Task}
use Rattle.script_checker.specs.declared.tasks.Task.TheVariants as task
use Rattle.script_checker.specs.Driving.{AreTasks, Does, IsTask, work, work_left, work_of}
use Rattle.script_checker.specs.Machine.{Finish, Step, Visit, after, around_of, plan, run, state, step_of, steps_of}
use Rattle.script_checker.specs.Made.{Around, after_triple, before_pair, before_triple, in_for, in_pair, in_triple, in_wrap}
use Rattle.script_checker.specs.Settings.{Grows}
use Rattle.script_checker.proofs.Entering.{around_later, known_later}
use Rattle.script_checker.proofs.Plans.{planned, run_more}

-- ---- scopes that are entered later change no task

task_later : (ns : List ParseNode) (old new : List (List Scope)) (k : Task) → Grows old new → IsTask ns old k → IsTask ns new k
task_later ns old new (task.Visit n a) g h = (h.0, known_later old new a g h.1)
task_later ns old new (task.Finish n a inner) g h = (h.0, known_later old new a g h.1, known_later old new inner g h.2)

pub tasks_later : (ns : List ParseNode) (old new : List (List Scope)) (ks : List Task) → Grows old new → AreTasks ns old ks → AreTasks ns new ks
tasks_later ns old new [] g h = tt
tasks_later ns old new (k ∷ ks) g h = (task_later ns old new k g h.0, tasks_later ns old new ks g h.1)

step_later : (ns : List ParseNode) (old new : List (List Scope)) (k : Task) → Grows old new → IsTask ns old k → step_of ns new k ≡ step_of ns old k
step_later ns old new (task.Visit n a) g h = ap (λ (b : Around). Visit b (tree_at ns n)) (around_later old new a g h.1)
step_later ns old new (task.Finish n a inner) g h = rw (around_later old new a g h.1, around_later old new inner g h.2) refl

steps_later : (ns : List ParseNode) (old new : List (List Scope)) (ks : List Task) → Grows old new → AreTasks ns old ks → steps_of ns new ks ≡ steps_of ns old ks
steps_later ns old new [] g h = refl
steps_later ns old new (k ∷ ks) g h = rw (step_later ns old new k g h.0, steps_later ns old new ks g h.1) refl

steps_append : (ns : List ParseNode) (chains : List (List Scope)) (ks ms : List Task) → steps_of ns chains (ks ++ ms) ≡ steps_of ns chains ks ++ steps_of ns chains ms
steps_append ns chains [] ms = refl
steps_append ns chains (k ∷ ks) ms = ap (λ s. step_of ns chains k ∷ s) (steps_append ns chains ks ms)

are_append : (ns : List ParseNode) (chains : List (List Scope)) (ks ms : List Task) → AreTasks ns chains ks → AreTasks ns chains ms → AreTasks ns chains (ks ++ ms)
are_append ns chains [] ms h i = i
are_append ns chains (k ∷ ks) ms h i = (h.0, are_append ns chains ks ms h.1 i)

work_append : (ks ms : List Step) → work_left (ks ++ ms) ≡ work_left ks + work_left ms
work_append [] ms = omega arith
work_append (k ∷ ks) ms = omega (arith, work_append ks ms)

-- ---- a part that has parts is visited

-- the machine got these tasks, which are the part's plan, and nothing else changed but the table of scopes
pub record Plans (s : Parts) (old new : Machine) (n : ℕ) (a : Setting) (ts : List Task) : Type 0 where
  pub grown : Grows old.scopes new.scopes
  pub tasks : new.tasks ≡ ts ++ old.tasks
  pub good : AreTasks s.nodes new.scopes ts
  pub steps : steps_of s.nodes new.scopes ts ≡ plan s.leaves (around_of old.scopes a) (tree_at s.nodes n)
  pub less : work_left (plan s.leaves (around_of old.scopes a) (tree_at s.nodes n)) < work (tree_at s.nodes n)
  pub values : new.values ≡ old.values
  pub maker : new.maker ≡ old.maker

all_steps : (s : Parts) (old new : Machine) (n : ℕ) (a : Setting) (ts : List Task) → AreTasks s.nodes old.scopes old.tasks → Plans s old new n a ts
    → steps_of s.nodes new.scopes new.tasks ≡ plan s.leaves (around_of old.scopes a) (tree_at s.nodes n) ++ steps_of s.nodes old.scopes old.tasks
all_steps s old new n a ts h p =
    ap (steps_of s.nodes new.scopes) p.tasks ∙ steps_append s.nodes new.scopes ts old.tasks
    ∙ rw (p.steps, steps_later s.nodes old.scopes new.scopes old.tasks p.grown h) refl

pub visited : (s : Parts) (old new : Machine) (n : ℕ) (a : Setting) (ts : List Task) → AreTasks s.nodes old.scopes old.tasks → Plans s old new n a ts
    → Does s old new (task.Visit n a)
visited s old new n a ts h p =
    let is = all_steps s old new n a ts h p in
    let steps = plan s.leaves (around_of old.scopes a) (tree_at s.nodes n) in
    let rest = steps_of s.nodes old.scopes old.tasks in
    record {
      tasks = rw p.tasks (are_append s.nodes new.scopes ts old.tasks p.good (tasks_later s.nodes old.scopes new.scopes old.tasks p.grown h));
      same =
          rw (is, p.values, p.maker)
          (run_more s.leaves steps rest (state old.values old.maker)
          ∙ ap (run s.leaves rest) (planned s.leaves (around_of old.scopes a) (tree_at s.nodes n) (state old.values old.maker)));
      less = rw is (omega (arith, work_append steps rest, p.less));
    }

-- ---- the plan of each kind of label

pub wrap_steps : (leaves : List Leaf) (a b inner : Around) (f : Wrap) (x y : ParseTree) → y ≡ parse_tree.Wrap f x → b ≡ a → inner ≡ in_wrap leaves a f x → Visit inner x ∷ Finish b inner y ∷ [] ≡ plan leaves a y
wrap_steps leaves a b inner f x y e p q = rw (e, p, q) refl

pub wrap_less : (leaves : List Leaf) (a : Around) (f : Wrap) (x y : ParseTree) → y ≡ parse_tree.Wrap f x → work_left (plan leaves a y) < work y
wrap_less leaves a f x y e = rw e (omega arith)

pub pair_steps : (leaves : List Leaf) (a b inner first : Around) (f : Pair) (x y z : ParseTree) → z ≡ parse_tree.Pair f x y → b ≡ a → inner ≡ in_pair leaves a f x y → first ≡ before_pair b inner f
    → Visit first x ∷ Visit inner y ∷ Finish b inner z ∷ [] ≡ plan leaves a z
pair_steps leaves a b inner first f x y z e p q r = rw (e, r, p, q) refl

pub pair_less : (leaves : List Leaf) (a : Around) (f : Pair) (x y z : ParseTree) → z ≡ parse_tree.Pair f x y → work_left (plan leaves a z) < work z
pair_less leaves a f x y z e = rw e (omega arith)

pub triple_steps : (leaves : List Leaf) (a b inner first last : Around) (f : Triple) (x y z w : ParseTree) → w ≡ parse_tree.Triple f x y z → b ≡ a → inner ≡ in_triple leaves a f y z → first ≡ before_triple b f
    → last ≡ after_triple inner f → Visit first x ∷ Visit inner y ∷ Visit last z ∷ Finish b inner w ∷ [] ≡ plan leaves a w
triple_steps leaves a b inner first last f x y z w e p q r u = rw (e, r, u, p, q) refl

pub triple_less : (leaves : List Leaf) (a : Around) (f : Triple) (x y z w : ParseTree) → w ≡ parse_tree.Triple f x y z → work_left (plan leaves a w) < work w
triple_less leaves a f x y z w e = rw e (omega arith)

pub for_steps : (leaves : List Leaf) (a b inner : Around) (f : Quad) (x y z w v : ParseTree) → v ≡ parse_tree.Quad f x y z w → b ≡ a → inner ≡ in_for leaves a x
    → Visit inner x ∷ Visit inner y ∷ Visit inner z ∷ Visit inner w ∷ Finish b inner v ∷ [] ≡ plan leaves a v
for_steps leaves a b inner f x y z w v e p q = rw (e, p, q) refl

pub for_less : (leaves : List Leaf) (a : Around) (f : Quad) (x y z w v : ParseTree) → v ≡ parse_tree.Quad f x y z w → work_left (plan leaves a v) < work v
for_less leaves a f x y z w v e = rw e (omega arith)

-- ---- a task that only makes something

pub record Makes (s : Parts) (old new : Machine) (k : Task) : Type 0 where
  pub tasks : new.tasks ≡ old.tasks
  pub scopes : new.scopes ≡ old.scopes
  pub state : state new.values new.maker ≡ after s.leaves (step_of s.nodes old.scopes k) (state old.values old.maker)

pub made_done : (s : Parts) (old new : Machine) (k : Task) → AreTasks s.nodes old.scopes old.tasks → 0 < work_of (step_of s.nodes old.scopes k) → Makes s old new k → Does s old new k
made_done s old new k h lt m = record {
  tasks = rw (m.tasks, m.scopes) h;
  same = rw (m.tasks, m.scopes, m.state) refl;
  less = rw (m.tasks, m.scopes) (omega arith);
}
