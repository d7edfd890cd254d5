-- What the steps of a walk do to its outcome.
use Rattle.std.proofs.Common.{◌≡◌, ◌++◌, ◌∙◌, ap, sym, refl, ℕ, ◌+◌, List, [], ◌∷◌, length, length-append, append_assoc, append-nil, add_assoc, add-zero, Option, None, arith}
use Rattle.es_source.specs.declared.faults.SourceFault.{SourceFault}
use Rattle.script_grammar.specs.declared.leaf.Leaf.{Leaf}
use Rattle.script_grammar.specs.declared.node.ParseNode.{ParseNode}
use Rattle.script_rules.specs.declared.scope.Scope.{Scope}
use Rattle.script_rules.specs.declared.scope_entry.ScopeId.{ScopeId}
use Rattle.script_rules.specs.declared.faults.walk.Task.{Task}
use Rattle.script_rules.specs.declared.faults.walk.Walk.{Walk}
use Rattle.script_rules.specs.Arena.{tree_at, IsPart}
use Rattle.script_rules.specs.Chains.{chain_from}
use Rattle.script_rules.specs.Faults.{least, faults}
use Rattle.script_rules.specs.Order.{earlier}
use Rattle.script_rules.specs.Walks.{Pushes, Reports, Opens, Starts, Pops, task_faults, pending, outcome, IsTask, AllTasks, IsReady, size_at, weight_of, weight, Visits}
use Rattle.script_rules.specs.Visits.{HasChain}
use Rattle.script_rules.proofs.Chains.{chain_kept}
use Rattle.script_rules.proofs.Earliest.{associates, earlier-None, last_of, least-append}
use Rattle.std.proofs.Math.Seq.{get_or-append_seam}

module _ (leaves : List Leaf) (ns : List ParseNode) where
  pending-append : (chains : List (List Scope)) (xs ys : List Task) → pending leaves ns chains (xs ++ ys) ≡ pending leaves ns chains xs ++ pending leaves ns chains ys
  pending-append chains [] ys = refl
  pending-append chains (x ∷ xs) ys = ap (λ fs. task_faults leaves ns chains x ++ fs) (pending-append chains xs ys) ∙ sym (append_assoc (task_faults leaves ns chains x) (pending leaves ns chains xs) (pending leaves ns chains ys))

  pending_one : (chains : List (List Scope)) (xs : List Task) (x : Task) → least (pending leaves ns chains (xs ++ x ∷ [])) ≡ earlier (least (pending leaves ns chains xs)) (least (task_faults leaves ns chains x))
  pending_one chains xs x =
      ap least (pending-append chains xs (x ∷ []) ∙ ap (λ fs. pending leaves ns chains xs ++ fs) (append-nil (task_faults leaves ns chains x)))
      ∙ least-append (pending leaves ns chains xs) (task_faults leaves ns chains x)

  pending_kept : (chains more : List (List Scope)) (xs : List Task) → AllTasks ns chains xs → pending leaves ns (chains ++ more) xs ≡ pending leaves ns chains xs
  pending_kept chains more [] all = refl
  pending_kept chains more (x ∷ xs) all =
      let here : task_faults leaves ns (chains ++ more) x ≡ task_faults leaves ns chains x =
      ap (λ (s : List Scope). faults leaves (record { scopes = s; in_loop = x.in_loop }) (tree_at ns x.node)) (chain_kept chains more x.scope.0 all.0.scope) in
      ap (λ fs. fs ++ pending leaves ns (chains ++ more) xs) here ∙ ap (λ fs. task_faults leaves ns chains x ++ fs) (pending_kept chains more xs all.1)

module _ (ns : List ParseNode) where
  all_kept : (chains more : List (List Scope)) (xs : List Task) → AllTasks ns chains xs → AllTasks ns (chains ++ more) xs
  all_kept chains more [] all = tt
  all_kept chains more (x ∷ xs) all = (record { part = all.0.part; scope = omega (arith, all.0.scope, length-append chains more) }, all_kept chains more xs all.1)

  all_one : (chains : List (List Scope)) (xs : List Task) (x : Task) → AllTasks ns chains xs → IsTask ns chains x → AllTasks ns chains (xs ++ x ∷ [])
  all_one chains [] x all is = (is, tt)
  all_one chains (y ∷ xs) x all is = (all.0, all_one chains xs x all.1 is)

  front : (chains : List (List Scope)) (xs : List Task) (x : Task) → AllTasks ns chains (xs ++ x ∷ []) → AllTasks ns chains xs × IsTask ns chains x
  front chains [] x all = (tt, all.0)
  front chains (y ∷ xs) x all = let f = front chains xs x all.1 in ((all.0, f.0), f.1)

  weight_one : (xs : List Task) (x : Task) → weight_of ns (xs ++ x ∷ []) ≡ weight_of ns xs + size_at ns x.node
  weight_one [] x = omega arith
  weight_one (y ∷ xs) x = let w = weight_one xs x in omega arith

-- ---- each step

module _ (leaves : List Leaf) (ns : List ParseNode) (old new : Walk) where
  pub pushed : (task : Task) (s : List Scope) → Pushes old new task → IsReady ns old → IsPart ns task.node → HasChain old.scopes task.scope s
      → Visits leaves ns old new (faults leaves (record { scopes = s; in_loop = task.in_loop }) (tree_at ns task.node)) (size_at ns task.node)
  unfolding IsReady outcome weight
  pushed task s p ready part h = record {
    more = [];
    kept = p.scopes ∙ sym (append-nil old.scopes);
    ready = rw (p.scopes, p.tasks) (all_one ns old.scopes old.tasks.items task ready (record { part = part; scope = h.known }));
    outcome_is = rw (p.scopes, p.tasks, p.fault) (
        ap (earlier old.fault) (pending_one leaves ns old.scopes old.tasks.items task
        ∙ ap (λ (c : List Scope). earlier (least (pending leaves ns old.scopes old.tasks.items)) (least (faults leaves (record { scopes = c; in_loop = task.in_loop }) (tree_at ns task.node)))) h.chain)
        ∙ sym (associates old.fault (least (pending leaves ns old.scopes old.tasks.items)) (least (faults leaves (record { scopes = s; in_loop = task.in_loop }) (tree_at ns task.node)))));
    weight_is = rw p.tasks (weight_one ns old.tasks.items task);
  }

  pub reported : (fault : Option SourceFault) (found : List SourceFault) → Reports old new fault → IsReady ns old → fault ≡ least found → Visits leaves ns old new found 0
  unfolding IsReady outcome weight
  reported fault found r ready is = record {
    more = [];
    kept = r.scopes ∙ sym (append-nil old.scopes);
    ready = rw (r.scopes, r.tasks) ready;
    outcome_is = rw (r.scopes, r.tasks, r.found, is) (last_of old.fault (least found) (least (pending leaves ns old.scopes old.tasks.items)));
    weight_is = rw r.tasks (sym (add-zero (weight_of ns old.tasks.items)));
  }

  pub opened : (outer : Option ScopeId) (s : Scope) (id : ScopeId) → Opens old new outer s id → IsReady ns old → Visits leaves ns old new [] 0
  unfolding IsReady outcome weight
  opened outer s id o ready = record {
    more = (s ∷ chain_from old.scopes outer) ∷ [];
    kept = o.scopes.chains;
    ready = rw (o.scopes.chains, o.tasks) (all_kept ns old.scopes ((s ∷ chain_from old.scopes outer) ∷ []) old.tasks.items ready);
    outcome_is = rw (o.scopes.chains, o.tasks, o.fault) (
        ap (λ fs. earlier old.fault (least fs)) (pending_kept leaves ns old.scopes ((s ∷ chain_from old.scopes outer) ∷ []) old.tasks.items ready)
        ∙ sym (earlier-None (earlier old.fault (least (pending leaves ns old.scopes old.tasks.items)))));
    weight_is = rw o.tasks (sym (add-zero (weight_of ns old.tasks.items)));
  }

  pub chain_opened : (outer : Option ScopeId) (s : Scope) (id : ScopeId) → Opens old new outer s id → HasChain new.scopes id (s ∷ chain_from old.scopes outer)
  chain_opened outer s id o = record {
    known = omega (arith, o.scopes.last, ap length o.scopes.chains, length-append old.scopes ((s ∷ chain_from old.scopes outer) ∷ []));
    chain = rw (o.scopes.chains, o.scopes.last) (get_or-append_seam old.scopes (s ∷ chain_from old.scopes outer) [] []);
  }

-- ---- steps after another

module _ (leaves : List Leaf) (ns : List ParseNode) (a b : Walk) (f : List SourceFault) (m : ℕ) (v : Visits leaves ns a b f m) where
  pub still : (id : ScopeId) (s : List Scope) → HasChain a.scopes id s → HasChain b.scopes id s
  still id s h = record {
    known = omega (arith, h.known, ap length v.kept, length-append a.scopes v.more);
    chain = rw v.kept (chain_kept a.scopes v.more id.0 h.known ∙ h.chain);
  }

  pub then_visits : (c : Walk) (g : List SourceFault) (n : ℕ) → Visits leaves ns b c g n → Visits leaves ns a c (f ++ g) (m + n)
  then_visits c g n w = record {
    more = v.more ++ w.more;
    kept = w.kept ∙ ap (λ (s : List (List Scope)). s ++ w.more) v.kept ∙ append_assoc a.scopes v.more w.more;
    ready = w.ready;
    outcome_is =
        w.outcome_is ∙ ap (λ o. earlier o (least g)) v.outcome_is ∙ associates (outcome leaves ns a) (least f) (least g) ∙ ap (earlier (outcome leaves ns a)) (sym (least-append f g));
    weight_is = w.weight_is ∙ ap (λ k. k + n) v.weight_is ∙ add_assoc (weight ns a) m n;
  }

-- nothing was done
pub idle : (leaves : List Leaf) (ns : List ParseNode) (w : Walk) → IsReady ns w → Visits leaves ns w w [] 0
idle leaves ns w ready = record {
  more = [];
  kept = sym (append-nil w.scopes);
  ready = ready;
  outcome_is = sym (earlier-None (outcome leaves ns w));
  weight_is = sym (add-zero (weight ns w));
}

pub as_visits : (leaves : List Leaf) (ns : List ParseNode) (a b : Walk) (f g : List SourceFault) (m n : ℕ) → Visits leaves ns a b f m → f ≡ g → m ≡ n → Visits leaves ns a b g n
as_visits leaves ns a b f g m n v e k = rw (← e, ← k) v

-- ---- the start and the end

module _ (leaves : List Leaf) (ns : List ParseNode) (w : Walk) where
  pub ready_start : Starts w → IsReady ns w
  unfolding IsReady
  ready_start s = rw (s.scopes, s.tasks) tt

  pub outcome_start : Starts w → outcome leaves ns w ≡ None
  unfolding outcome
  outcome_start s = rw (s.scopes, s.tasks, s.fault) refl

  pub outcome_end : w.tasks.items ≡ [] → outcome leaves ns w ≡ w.fault
  unfolding outcome
  outcome_end e = rw e (earlier-None w.fault)

module _ (leaves : List Leaf) (ns : List ParseNode) (old new : Walk) (task : Task) (p : Pops old new task) where
  pub ready_popped : IsReady ns old → IsReady ns new × IsTask ns new.scopes task
  unfolding IsReady
  ready_popped ready = rw p.scopes (front ns old.scopes new.tasks.items task (rw p.tasks at ready))

  pub outcome_popped : outcome leaves ns old ≡ earlier (outcome leaves ns new) (least (task_faults leaves ns new.scopes task))
  unfolding outcome
  outcome_popped =
      rw (p.scopes, p.fault, p.tasks) (ap (earlier old.fault) (pending_one leaves ns old.scopes new.tasks.items task)
      ∙ sym (associates old.fault (least (pending leaves ns old.scopes new.tasks.items)) (least (task_faults leaves ns old.scopes task))))

  pub weight_popped : weight ns old ≡ weight ns new + size_at ns task.node
  unfolding weight
  weight_popped = rw p.tasks (weight_one ns new.tasks.items task)

pub ready_reported : (ns : List ParseNode) (old new : Walk) (fault : Option SourceFault) → Reports old new fault → IsReady ns old → IsReady ns new
unfolding IsReady
ready_reported ns old new fault r ready = rw (r.scopes, r.tasks) ready
