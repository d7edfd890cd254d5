-- The steps of a visit, as the contracts of their calls say them.
use Rattle.std.proofs.Common.{◌≡◌, ◌<◌, ◌++◌, ap, refl, ℕ, ◌+◌, Bool, List, [], length, Option, Some, Result, Ok, Err, OnOk, IfOk, append-nil}
use Rattle.es_source.specs.declared.faults.SourceFault.{SourceFault}
use Rattle.script_grammar.specs.declared.leaf.Leaf.{Leaf}
use Rattle.script_grammar.specs.declared.node.ParseNode.{ParseNode}
use Rattle.script_rules.specs.declared.scope.Scope.{Scope}
use Rattle.script_rules.specs.declared.scope_entry.ScopeId.{ScopeId}
use Rattle.script_rules.specs.declared.faults.walk.Walk.{Walk}
use Rattle.script_grammar.specs.Tree.{ParseTree}
use Rattle.script_rules.specs.Chains.{chain_at}
use Rattle.script_rules.specs.Faults.{faults, least}
use Rattle.script_rules.specs.Visits.{OpensScope, HasChain, around_in}
use Rattle.script_rules.specs.Walks.{Reports, Opens, IsReady, Visits}
use Rattle.script_rules.proofs.Walks.{reported, opened, chain_opened, then_visits, as_visits}

pub on_ok : {T E : Type 0} {A B : Type 0} (r : Result T E) → (A → B) → OnOk r A → OnOk r B
on_ok (Ok x) f a = f a
on_ok (Err e) f a = a

pub if_ok : {T E : Type 0} {P Q : T → Type 0} (r : Result T E) → ((x : T) → P x → Q x) → IfOk r P → IfOk r Q
if_ok (Ok x) f a = f x a
if_ok (Err e) f a = a

pub here : (chains : List (List Scope)) (id : ScopeId) → id.0 < length chains → HasChain chains id (chain_at chains id.0)
here chains id k = record { known = k; chain = refl }

module _ (leaves : List Leaf) (ns : List ParseNode) where
  pub opens_scope : (a b c : Walk) (fault : Option SourceFault) (outer : ScopeId) (s : Scope) (id : ScopeId) (found : List SourceFault) → IsReady ns a → outer.0 < length a.scopes
      → Reports a b fault → Opens b c (Some outer) s id → fault ≡ least found → OpensScope leaves ns a c found outer s id
  opens_scope a b c fault outer s id found ready known r o is =
      let v = reported leaves ns a b fault found r ready is in
      let w = opened leaves ns b c (Some outer) s id o v.ready in
      record {
        visits = as_visits leaves ns a c (found ++ []) found (0 + 0) 0 (then_visits leaves ns a b found 0 v c [] 0 w) (append-nil found) refl;
        has = rw (← r.scopes) (chain_opened leaves ns b c (Some outer) s id o);
      }

  -- a step more, at a scope that is known before it
  pub onto : (a b c : Walk) (f : List SourceFault) (m n : ℕ) (id : ScopeId) (s : List Scope) (looping : Bool) (x : ParseTree) → Visits leaves ns a b f m → HasChain b.scopes id s
      → Visits leaves ns b c (faults leaves (around_in b.scopes id looping) x) n
      → Visits leaves ns a c (f ++ faults leaves (record { scopes = s; in_loop = looping }) x) (m + n)
  onto a b c f m n id s looping x v h w =
      then_visits leaves ns a b f m v c (faults leaves (record { scopes = s; in_loop = looping }) x) n
      (rw (ap (λ (t : List Scope). faults leaves (record { scopes = t; in_loop = looping }) x) h.chain) at w)
