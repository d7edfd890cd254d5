-- The whole walk of a script.
use Rattle.std.proofs.Common.{◌≡◌, ◌<◌, ◌++◌, ◌∙◌, ap, sym, refl, ℕ, suc, false, List, [], ◌∷◌, Option, None, append-nil, arith}
use Rattle.es_source.specs.declared.faults.SourceFault.{SourceFault}
use Rattle.script_grammar.specs.declared.leaf.Leaf.{Leaf}
use Rattle.script_grammar.specs.declared.node.ParseNode.{ParseNode}
use Rattle.script_grammar.specs.Tree.{ParseTree}
use Rattle.script_grammar.specs.Tree.{ParseTree as parse_tree}
use Rattle.script_rules.specs.declared.scope.Scope.{Scope}
use Rattle.script_rules.specs.declared.scope_entry.ScopeId.{ScopeId}
use Rattle.script_rules.specs.declared.manner.Declared.{Declared}
use Rattle.script_rules.specs.declared.faults.walk.Task.{Task}
use Rattle.script_rules.specs.declared.faults.walk.Walk.{Walk}
use Rattle.script_rules.specs.Arena.{tree_at, IsPart}
use Rattle.script_rules.specs.Faults.{duplicates, faults, least, static_fault}
use Rattle.script_rules.specs.Names.{declared_in}
use Rattle.script_rules.specs.Order.{earlier}
use Rattle.script_rules.specs.Scopes.{script_scope}
use Rattle.script_rules.specs.Walks.{Ends, IsReady, IsTask, Opens, Pops, Pushes, Reports, Starts, StartsAt, Visits, around_task, size, size_at, size_of_parts, weight}
use Rattle.script_rules.proofs.Walks.{chain_opened, opened, outcome_end, outcome_popped, outcome_start, pushed, ready_popped, ready_start, reported, then_visits, weight_popped}

-- ---- the start

pub starts : (leaves : List Leaf) (ns : List ParseNode) (root : ℕ) (a b c d : Walk) (fault : Option SourceFault) (made : Scope) (id : ScopeId) (names ds : List Declared) (items : ℕ)
    → items ≡ root → IsPart ns root → Starts a → Reports a b fault → Opens b c None made id → Pushes c d (record { node = items; scope = id; in_loop = false })
    → names ≡ declared_in (tree_at ns root) → ds ≡ declared_in (tree_at ns root) → fault ≡ least (duplicates leaves names) → made ≡ script_scope leaves ds → StartsAt leaves ns root d
starts leaves ns root a b c d fault made id names ds items same_root part s r o p same same' is eq =
    let x = tree_at ns root in
    let found : fault ≡ least (duplicates leaves (declared_in x)) = is ∙ ap (λ (l : List Declared). least (duplicates leaves l)) same in
    let scope : made ≡ script_scope leaves (declared_in x) = eq ∙ ap (script_scope leaves) same' in
    let v₁ = reported leaves ns a b fault (duplicates leaves (declared_in x)) r (ready_start leaves ns a s) found in
    let v₂ = opened leaves ns b c None made id o v₁.ready in
    let v₃ = pushed leaves ns c d (record { node = root; scope = id; in_loop = false }) (made ∷ []) (rw same_root at p) v₂.ready part (chain_opened leaves ns b c None made id o) in
    let v = then_visits leaves ns a c _ _ (then_visits leaves ns a b _ _ v₁ c [] 0 v₂) d _ _ v₃ in
    record {
      ready = v.ready;
      outcome_is =
          v.outcome_is ∙ ap (λ f. earlier f (least (duplicates leaves (declared_in x) ++ [] ++ faults leaves (record { scopes = made ∷ []; in_loop = false }) x))) (outcome_start leaves ns a s)
          ∙ ap (λ (fs : List SourceFault). least (fs ++ faults leaves (record { scopes = made ∷ []; in_loop = false }) x)) (append-nil (duplicates leaves (declared_in x)))
          ∙ ap (λ (m : Scope). least (duplicates leaves (declared_in x) ++ faults leaves (record { scopes = m ∷ []; in_loop = false }) x)) scope;
    }

-- ---- a part after another

module _ (leaves : List Leaf) (ns : List ParseNode) (root : ℕ) (a b : Walk) (task : Task) (p : Pops a b task) (s : StartsAt leaves ns root a) where
  pub ready_next : IsReady ns b
  ready_next = (ready_popped leaves ns a b task p s.ready).0

  pub is_task : IsTask ns b.scopes task
  is_task = (ready_popped leaves ns a b task p s.ready).1

  pub goes_on : (c : Walk) (n : ℕ) → Visits leaves ns b c (faults leaves (around_task b.scopes task) (tree_at ns task.node)) n → StartsAt leaves ns root c
  goes_on c n v = record {
    ready = v.ready;
    outcome_is = v.outcome_is ∙ sym (outcome_popped leaves ns a b task p) ∙ s.outcome_is;
  }

  parts_smaller : (x : ParseTree) → size x ≡ suc (size_of_parts x)
  parts_smaller (parse_tree.Atom f) = refl
  parts_smaller (parse_tree.Wrap f x) = refl
  parts_smaller (parse_tree.Pair f x y) = refl
  parts_smaller (parse_tree.Triple f x y z) = refl
  parts_smaller (parse_tree.Quad f x y z w) = refl

  size_here : (n : ℕ) → size_at ns n ≡ suc (size_of_parts (tree_at ns n))
  unfolding size_at
  size_here n = parts_smaller (tree_at ns n)

  pub falls : (c : Walk) → Visits leaves ns b c (faults leaves (around_task b.scopes task) (tree_at ns task.node)) (size_of_parts (tree_at ns task.node)) → weight ns c < weight ns a
  falls c v = omega (arith, v.weight_is, weight_popped leaves ns a b task p, size_here task.node)

-- ---- the end

pub ends : (leaves : List Leaf) (ns : List ParseNode) (root : ℕ) (a b : Walk) → Ends a b → StartsAt leaves ns root a → b.fault ≡ static_fault leaves (tree_at ns root)
ends leaves ns root a b e s = e.fault ∙ sym (outcome_end leaves ns a e.tasks) ∙ s.outcome_is
