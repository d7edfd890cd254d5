-- The tasks of the machine that makes the tree of a script.
use Rattle.std.specs.Prelude.{◌≡◌, ◌<◌, ℕ, ◌+◌, Bool, List, [], ◌∷◌}
use Rattle.es_tree.specs.Tree.{Tree as Checked}
use Rattle.script_grammar.specs.declared.node.ParseNode.{ParseNode}
use Rattle.script_grammar.specs.Scripts.{Parts}
use Rattle.script_grammar.specs.Tree.{ParseTree}
use Rattle.script_grammar.specs.Tree.{ParseTree as parse_tree}
use Rattle.script_rules.specs.declared.scope.Scope.{Scope}
use Rattle.script_rules.specs.Arena.{IsPart}
use Rattle.script_checker.specs.declared.machine.Machine.{Machine}
use Rattle.script_checker.specs.declared.tasks.Task.{Task}
use Rattle.script_checker.specs.declared.tasks.Task.TheVariants as task
use Rattle.script_checker.specs.Machine.{Step, State, Visit, Finish, run, state, step_of, steps_of, top}
use Rattle.script_checker.specs.Spots.{IsKnown}
use Rattle.script_checker.specs.Values.{parts_of}
use Rattle.script_checker.specs.Made.{script_body, script_tree}

-- the node of a task stands for a tree, and its scopes are known
abbrev pub IsTask : List ParseNode → List (List Scope) → Task → Type 0
IsTask ns chains (task.Visit n a) = IsPart ns n × IsKnown chains a
IsTask ns chains (task.Finish n a inner) = IsPart ns n × IsKnown chains a × IsKnown chains inner

abbrev pub AreTasks : List ParseNode → List (List Scope) → List Task → Type 0
AreTasks ns chains [] = Unit {0}
AreTasks ns chains (k ∷ ks) = IsTask ns chains k × AreTasks ns chains ks

-- what the machine ends with, by its tasks
abbrev pub end_of : Parts → Machine → State
end_of s m = run s.leaves (steps_of s.nodes m.scopes m.tasks) (state m.values m.maker)

-- ---- the work that is left

abbrev pub work : ParseTree → ℕ
work (parse_tree.Atom f) = 1
work (parse_tree.Wrap f x) = work x + 2
work (parse_tree.Pair f x y) = work x + work y + 2
work (parse_tree.Triple f x y z) = work x + work y + work z + 2
work (parse_tree.Quad f x y z w) = work x + work y + work z + work w + 2

abbrev pub work_of : Step → ℕ
work_of (Visit a x) = work x
work_of (Finish a inner x) = 1

abbrev pub work_left : List Step → ℕ
work_left [] = 0
work_left (k ∷ ks) = work_of k + work_left ks

abbrev pub left_of : Parts → Machine → ℕ
left_of s m = work_left (steps_of s.nodes m.scopes m.tasks)

-- ---- one task is done: the tasks are good ones, the end is the same, and less is left

pub record Does (s : Parts) (old new : Machine) (k : Task) : Type 0 where
  pub tasks : AreTasks s.nodes new.scopes new.tasks
  pub same : end_of s new ≡ run s.leaves (step_of s.nodes old.scopes k ∷ steps_of s.nodes old.scopes old.tasks) (state old.values old.maker)
  pub less : left_of s new < work_of (step_of s.nodes old.scopes k) + left_of s old

-- ---- the tree of what the machine made, where the script's own code has so many names, and is strict or not

abbrev pub tree_from : Machine → ℕ → (strict : Bool) → Checked
tree_from m names strict = script_tree m.maker (script_body names (parts_of (top m.values).value)) strict
