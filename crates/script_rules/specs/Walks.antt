-- How the parts of a script are gone through for their faults.
use Rattle.std.specs.Prelude.{◌≡◌, ◌<◌, ℕ, suc, ◌+◌, Bool, true, false, List, [], ◌∷◌, ◌++◌, length, Option, Some, None}
use Rattle.es_source.specs.declared.faults.SourceFault.{SourceFault}
use Rattle.script_grammar.specs.declared.leaf.Leaf.{Leaf}
use Rattle.script_grammar.specs.declared.node.ParseNode.{ParseNode}
use Rattle.script_grammar.specs.declared.labels.Atom.TheVariants as atom
use Rattle.script_grammar.specs.Tree.{ParseTree}
use Rattle.script_grammar.specs.Tree.{ParseTree as parse_tree}
use Rattle.script_rules.specs.declared.scope.Scope.{Scope}
use Rattle.script_rules.specs.declared.scope_entry.ScopeId.{ScopeId}
use Rattle.script_rules.specs.declared.faults.walk.Task.{Task}
use Rattle.script_rules.specs.declared.faults.walk.Walk.{Walk}
use Rattle.script_rules.specs.Arena.{tree_at, IsPart}
use Rattle.script_rules.specs.Chains.{chain_at, Enters}
use Rattle.script_rules.specs.Faults.{Around, least, faults, is_name, static_fault}
use Rattle.script_rules.specs.Order.{earlier}

-- ---- what a walk does with its table of scopes, its tasks and the least fault so far

pub record Pushes (old new : Walk) (task : Task) : Type 0 where
  pub scopes : new.scopes ≡ old.scopes
  pub tasks : new.tasks.items ≡ old.tasks.items ++ task ∷ []
  pub fault : new.fault ≡ old.fault

pub record Reports (old new : Walk) (fault : Option SourceFault) : Type 0 where
  pub scopes : new.scopes ≡ old.scopes
  pub tasks : new.tasks.items ≡ old.tasks.items
  pub found : new.fault ≡ earlier old.fault fault

pub record Opens (old new : Walk) (outer : Option ScopeId) (scope : Scope) (id : ScopeId) : Type 0 where
  pub scopes : Enters old.scopes new.scopes outer scope id
  pub tasks : new.tasks.items ≡ old.tasks.items
  pub fault : new.fault ≡ old.fault

pub record Starts (w : Walk) : Type 0 where
  pub scopes : w.scopes ≡ []
  pub tasks : w.tasks.items ≡ []
  pub fault : w.fault ≡ None

pub record Pops (old new : Walk) (task : Task) : Type 0 where
  pub scopes : new.scopes ≡ old.scopes
  pub tasks : old.tasks.items ≡ new.tasks.items ++ task ∷ []
  pub fault : new.fault ≡ old.fault

pub record Ends (old new : Walk) : Type 0 where
  pub tasks : old.tasks.items ≡ []
  pub fault : new.fault ≡ old.fault

-- the last task, or there is none
abbrev pub Takes : Walk → Walk → Option Task → Type 0
Takes old new None = Ends old new
Takes old new (Some task) = Pops old new task

-- ---- what is still to be found

abbrev pub around_task : List (List Scope) → Task → Around
around_task chains task = record { scopes = chain_at chains task.scope.0; in_loop = task.in_loop }

abbrev pub task_faults : List Leaf → List ParseNode → List (List Scope) → Task → List SourceFault
task_faults leaves ns chains task = faults leaves (around_task chains task) (tree_at ns task.node)

abbrev pub pending : List Leaf → List ParseNode → List (List Scope) → List Task → List SourceFault
pending leaves ns chains [] = []
pending leaves ns chains (task ∷ tasks) = task_faults leaves ns chains task ++ pending leaves ns chains tasks

-- the least of what was found and of what is still to be found
unfoldable pub outcome : List Leaf → List ParseNode → Walk → Option SourceFault
outcome leaves ns w = earlier w.fault (least (pending leaves ns w.scopes w.tasks.items))

pub record IsTask (ns : List ParseNode) (chains : List (List Scope)) (task : Task) : Type 0 where
  pub part : IsPart ns task.node
  pub scope : task.scope.0 < length chains

abbrev pub AllTasks : List ParseNode → List (List Scope) → List Task → Type 0
AllTasks ns chains [] = Unit {0}
AllTasks ns chains (task ∷ tasks) = IsTask ns chains task × AllTasks ns chains tasks

-- each task is a part of the script within a scope of the table
unfoldable pub IsReady : List ParseNode → Walk → Type 0
IsReady ns w = AllTasks ns w.scopes w.tasks.items

-- how many labels a tree has
abbrev pub size : ParseTree → ℕ
size (parse_tree.Atom f) = 1
size (parse_tree.Wrap f x) = suc (size x)
size (parse_tree.Pair f x y) = suc (size x + size y)
size (parse_tree.Triple f x y z) = suc (size x + size y + size z)
size (parse_tree.Quad f x y z w) = suc (size x + size y + size z + size w)

-- how many labels its parts have
abbrev pub size_of_parts : ParseTree → ℕ
size_of_parts (parse_tree.Atom f) = 0
size_of_parts (parse_tree.Wrap f x) = size x
size_of_parts (parse_tree.Pair f x y) = size x + size y
size_of_parts (parse_tree.Triple f x y z) = size x + size y + size z
size_of_parts (parse_tree.Quad f x y z w) = size x + size y + size z + size w

unfoldable pub size_at : List ParseNode → ℕ → ℕ
size_at ns n = size (tree_at ns n)

abbrev pub weight_of : List ParseNode → List Task → ℕ
weight_of ns [] = 0
weight_of ns (task ∷ tasks) = size_at ns task.node + weight_of ns tasks

-- how many labels are still to be gone through
unfoldable pub weight : List ParseNode → Walk → ℕ
weight ns w = weight_of ns w.tasks.items

-- these faults were found or put off, and parts of so many labels were put off
pub record Visits (leaves : List Leaf) (ns : List ParseNode) (old new : Walk) (found : List SourceFault) (labels : ℕ) : Type 0 where
  pub more : List (List Scope)
  pub kept : new.scopes ≡ old.scopes ++ more
  pub ready : IsReady ns new
  pub outcome_is : outcome leaves ns new ≡ earlier (outcome leaves ns old) (least found)
  pub weight_is : weight ns new ≡ weight ns old + labels

-- ---- what stands in parentheses

pub record IsParenthesis (ns : List ParseNode) (n i : ℕ) : Type 0 where
  pub named : is_name (tree_at ns n) ≡ is_name (tree_at ns i)
  pub below : i < n
  pub part : IsPart ns i

abbrev pub is_name_alone : ParseTree → Bool
is_name_alone (parse_tree.Atom (atom.Name i)) = true
is_name_alone other = false

abbrev pub Parenthesised : List ParseNode → ℕ → Option ℕ → Type 0
Parenthesised ns n None = is_name (tree_at ns n) ≡ is_name_alone (tree_at ns n)
Parenthesised ns n (Some i) = IsParenthesis ns n i

-- ---- the whole walk

-- a walk of a script: its outcome is the script's fault
pub record StartsAt (leaves : List Leaf) (ns : List ParseNode) (root : ℕ) (w : Walk) : Type 0 where
  pub ready : IsReady ns w
  pub outcome_is : outcome leaves ns w ≡ static_fault leaves (tree_at ns root)
