-- Scopes that are entered later change no setting, and no step.
use Rattle.std.proofs.Common.{◌≡◌, ap, sym, List, [], ◌∷◌, length-append, append-nil, Some, arith}
use Rattle.std.proofs.Math.ListN.{get_or-append}
use Rattle.std.proofs.Math.Seq.{get_or-append_seam}
use Rattle.script_rules.specs.declared.scope.Scope.{Scope}
use Rattle.script_rules.specs.declared.scope_entry.ScopeId.{ScopeId}
use Rattle.script_rules.specs.Chains.{Enters, chain_at}
use Rattle.script_checker.specs.declared.tasks.Setting.{Setting}
use Rattle.script_checker.specs.Made.{around}
use Rattle.script_checker.specs.Machine.{around_of}
use Rattle.script_checker.specs.Settings.{Grows, Opened}
use Rattle.script_checker.specs.Spots.{IsKnown}

pub known_later : (old new : List (List Scope)) (s : Setting) → Grows old new → IsKnown old s → IsKnown new s
known_later old new s g k = rw (g.1, length-append old g.0) (omega arith)

pub around_later : (old new : List (List Scope)) (s : Setting) → Grows old new → IsKnown old s → around_of new s ≡ around_of old s
around_later old new s g k = rw g.1 (ap (λ (chain : List Scope). around chain s.strict s.role) (get_or-append old g.0 [] s.scope.0 k))

pub grows_not : (old : List (List Scope)) → Grows old old
grows_not old = ([], sym (append-nil old))

-- a scope was entered within another one
pub entered : (old new : List (List Scope)) (outer : Setting) (s : Scope) (id : ScopeId) (inner : Setting) → Enters old new (Some outer.scope) s id → inner.scope ≡ id
    → Opened old new (around (s ∷ chain_at old outer.scope.0) inner.strict inner.role) inner
entered old new outer s id inner e is = record {
  grown = ((s ∷ chain_at old outer.scope.0) ∷ [], e.chains);
  known = rw (is, e.chains, e.last, length-append old ((s ∷ chain_at old outer.scope.0) ∷ [])) (omega arith);
  around = rw (is, e.chains, e.last) (ap (λ (chain : List Scope). around chain inner.strict inner.role) (get_or-append_seam old (s ∷ chain_at old outer.scope.0) [] []));
}
