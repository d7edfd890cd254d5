-- The tree of a script by tasks: a part is visited by visiting its parts in order and then finishing it.
use Rattle.std.specs.Prelude.{ℕ, List, [], ◌∷◌, Option, None}
use Rattle.script_grammar.specs.declared.leaf.Leaf.{Leaf}
use Rattle.script_grammar.specs.declared.node.ParseNode.{ParseNode}
use Rattle.script_grammar.specs.Tree.{ParseTree, first_token}
use Rattle.script_grammar.specs.Tree.{ParseTree as parse_tree}
use Rattle.script_rules.specs.declared.scope.Scope.{Scope}
use Rattle.script_rules.specs.Arena.{tree_at}
use Rattle.script_rules.specs.Chains.{chain_at}
use Rattle.script_checker.specs.declared.tasks.StackedPart.{StackedPart}
use Rattle.script_checker.specs.declared.tasks.Setting.{Setting}
use Rattle.script_checker.specs.declared.tasks.Task.{Task}
use Rattle.script_checker.specs.declared.tasks.Task.TheVariants as task
use Rattle.script_checker.specs.declared.made_parts.MadePart.TheVariants as made_part
use Rattle.script_checker.specs.declared.made_parts.MadeParts.{MadeParts}
use Rattle.script_checker.specs.declared.made_parts.MadeParts.TheVariants as made_parts
use Rattle.script_checker.specs.Made.{Made, PartWithMade, Around, around, made, place_of, in_wrap, in_pair, before_pair}
use Rattle.script_checker.specs.Made.{in_triple, before_triple, after_triple, in_for, wrap_made, pair_made, triple_made, for_made}
use Rattle.script_checker.specs.Firsts.{wrap_first, pair_first, triple_first, for_first}

-- what is done next
pub data Step : Type 0 where
  Visit : Around → ParseTree → Step
  -- with what stands around it and around its parts
  Finish : Around → Around → ParseTree → Step

-- what the parts became that are not yet in another one, the last first, and all that was made
pub record State : Type 0 where
  pub values : List StackedPart
  pub made : Made

abbrev pub state : List StackedPart → Made → State
state all m = record { values = all; made = m }

abbrev pub entry : MadeParts → Option ℕ → StackedPart
entry v token = record { value = v; first = token }

abbrev pub no_entry : StackedPart
no_entry = entry (made_parts.One made_part.Nothing) None

abbrev pub top : List StackedPart → StackedPart
top [] = no_entry
top (e ∷ es) = e

abbrev pub below : List StackedPart → List StackedPart
below [] = []
below (e ∷ es) = es

-- a part with its first token, on top of what was there
abbrev pub on_top : List StackedPart → Option ℕ → PartWithMade → State
on_top es first r = state (entry r.value first ∷ es) r.made

-- ---- finishing a part: its parts stand on top, the last one first

abbrev pub finished : List Leaf → Around → Around → ParseTree → State → State
finished leaves a inner (parse_tree.Atom f) s = s
finished leaves a inner (parse_tree.Wrap f x) s =
    let r = top s.values in
    let first = wrap_first f r.first in
    on_top (below s.values) first (wrap_made leaves a inner (place_of leaves first) f r.value s.made)
finished leaves a inner (parse_tree.Pair f x y) s =
    let q = top s.values in
    let r = top (below s.values) in
    let first = pair_first f r.first in
    on_top (below (below s.values)) first (pair_made leaves a inner (place_of leaves first) f x y r.value q.value s.made)
finished leaves a inner (parse_tree.Triple f x y z) s =
    let p = top s.values in
    let q = top (below s.values) in
    let r = top (below (below s.values)) in
    let first = triple_first f r.first in
    on_top (below (below (below s.values))) first (triple_made leaves inner (place_of leaves first) f z r.value q.value p.value s.made)
finished leaves a inner (parse_tree.Quad f x y z w) s =
    let o = top s.values in
    let p = top (below s.values) in
    let q = top (below (below s.values)) in
    let r = top (below (below (below s.values))) in
    let first = for_first f in
    on_top (below (below (below (below s.values)))) first (for_made inner (place_of leaves first) r.value q.value p.value o.value s.made)

abbrev pub after : List Leaf → Step → State → State
after leaves (Visit a x) s = on_top s.values (first_token x) (made leaves a x s.made)
after leaves (Finish a inner x) s = finished leaves a inner x s

abbrev pub run : List Leaf → List Step → State → State
run leaves [] s = s
run leaves (k ∷ ks) s = run leaves ks (after leaves k s)

-- ---- the steps of a part that has parts

abbrev pub plan : List Leaf → Around → ParseTree → List Step
plan leaves a (parse_tree.Atom f) = Visit a (parse_tree.Atom f) ∷ []
plan leaves a (parse_tree.Wrap f x) =
    let inner = in_wrap leaves a f x in
    Visit inner x ∷ Finish a inner (parse_tree.Wrap f x) ∷ []
plan leaves a (parse_tree.Pair f x y) =
    let inner = in_pair leaves a f x y in
    Visit (before_pair a inner f) x ∷ Visit inner y ∷ Finish a inner (parse_tree.Pair f x y) ∷ []
plan leaves a (parse_tree.Triple f x y z) =
    let inner = in_triple leaves a f y z in
    Visit (before_triple a f) x ∷ Visit inner y ∷ Visit (after_triple inner f) z ∷ Finish a inner (parse_tree.Triple f x y z) ∷ []
plan leaves a (parse_tree.Quad f x y z w) =
    let inner = in_for leaves a x in
    Visit inner x ∷ Visit inner y ∷ Visit inner z ∷ Visit inner w ∷ Finish a inner (parse_tree.Quad f x y z w) ∷ []

-- ---- what the tasks of the code are, over the nodes of a script and a table of scopes

abbrev pub around_of : List (List Scope) → Setting → Around
around_of chains s = around (chain_at chains s.scope.0) s.strict s.role

abbrev pub step_of : List ParseNode → List (List Scope) → Task → Step
step_of ns chains (task.Visit n a) = Visit (around_of chains a) (tree_at ns n)
step_of ns chains (task.Finish n a inner) = Finish (around_of chains a) (around_of chains inner) (tree_at ns n)

abbrev pub steps_of : List ParseNode → List (List Scope) → List Task → List Step
steps_of ns chains [] = []
steps_of ns chains (k ∷ ks) = step_of ns chains k ∷ steps_of ns chains ks
