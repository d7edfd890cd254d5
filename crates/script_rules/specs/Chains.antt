-- Of each scope of a table the list of itself and the scopes around it, the innermost first.
use Rattle.std.specs.Prelude.{◌≡◌, ◌<◌, ℕ, ◌+◌, ◌^◌, Bool, not, ◌&&◌, ◌||◌, nat_eq, if◌then◌else◌, List, [], ◌∷◌, ◌++◌, length, Option, Some, None, Result, Ok, Err, unwrap_or, slice_index_or}
use Rattle.script_rules.specs.declared.resolved.Resolved.{Resolved}
use Rattle.script_rules.specs.declared.scope.Scope.{Scope}
use Rattle.script_rules.specs.declared.scope_entry.Outside.{Outside}
use Rattle.script_rules.specs.declared.scope_entry.ScopeEntry.{ScopeEntry}
use Rattle.script_rules.specs.declared.scope_entry.ScopeId.{ScopeId}
use Rattle.script_rules.specs.Scopes.{first_place, in_force, in_force_after, is_in_function, is_of_function}

abbrev pub chain_at : List (List Scope) → ℕ → List Scope
chain_at chains id = slice_index_or chains id []

-- the scopes around a part: no scope has none around it
abbrev pub chain_from : List (List Scope) → Option ScopeId → List Scope
chain_from chains None = []
chain_from chains (Some id) = chain_at chains id.0

abbrev pub IsKnown : List (List Scope) → Option ScopeId → Type 0
IsKnown chains None = Unit {0}
IsKnown chains (Some id) = id.0 < length chains

-- how many names the innermost scope has
abbrev pub names_in : List Scope → ℕ
names_in [] = 0
names_in (s ∷ outer) = length s.names

-- ---- scopes that say nothing of any name: they have none, and are not those of functions

abbrev pub is_silent : Scope → Bool
is_silent s = not (is_of_function s.owner) && nat_eq (length s.names) 0

-- the scopes from the first on that may say something of a name
abbrev pub speaking : List Scope → List Scope
speaking [] = []
speaking (s ∷ outer) = if is_silent s then speaking outer else s ∷ outer

-- what is known of the scopes around a scope
pub record IsOutside (chains : List (List Scope)) (around : Option ScopeId) (o : Outside) : Type 0 where
  pub outer : o.outer ≡ around
  pub speaker : IsKnown chains o.speaker
  pub speaks : chain_from chains o.speaker ≡ speaking (chain_from chains around)
  pub in_force : o.in_force ≡ in_force (chain_from chains around)
  pub in_function : o.in_function ≡ is_in_function (chain_from chains around)

-- ---- what entering a scope does

pub record Enters (old new : List (List Scope)) (outer : Option ScopeId) (s : Scope) (id : ScopeId) : Type 0 where
  pub chains : new ≡ old ++ (s ∷ chain_from old outer) ∷ []
  pub last : id.0 ≡ length old

-- a scope was entered; after an error the scopes are as before
abbrev pub Entered : {E : Type 0} → List (List Scope) → List (List Scope) → Option ScopeId → Scope → Result ScopeId E → Type 0
Entered old new outer s (Ok id) = Enters old new outer s id
Entered old new outer s (Err e) = new ≡ old

-- ---- the table's entries, from the first on

abbrev pub chain_of : List (List Scope) → ScopeEntry → List Scope
chain_of chains e = e.scope ∷ chain_from chains e.outer

abbrev pub chains_after : List (List Scope) → List ScopeEntry → List (List Scope)
chains_after done [] = done
chains_after done (e ∷ es) = chains_after (done ++ chain_of done e ∷ []) es

pub record Counts (outside : List Scope) (e : ScopeEntry) : Type 0 where
  pub first : e.first ≡ first_place e.scope.owner (in_force outside)
  pub in_force : e.in_force ≡ in_force (e.scope ∷ outside)
  pub in_function : e.in_function ≡ is_in_function (e.scope ∷ outside)
  pub room : e.first + length e.scope.names < 2 ^ 32

pub record Fits (chains : List (List Scope)) (e : ScopeEntry) : Type 0 where
  pub outer : IsKnown chains e.outer
  pub speaker : IsKnown chains e.speaker
  pub speaks : chain_from chains e.speaker ≡ speaking (chain_from chains e.outer)
  pub counts : Counts (chain_from chains e.outer) e

abbrev pub AllFit : List (List Scope) → List ScopeEntry → Type 0
AllFit done [] = Unit {0}
AllFit done (e ∷ es) = Fits done e × AllFit (done ++ chain_of done e ∷ []) es

-- ---- an entry of the table

abbrev pub IsBelow : ℕ → Option ScopeId → Type 0
IsBelow n None = Unit {0}
IsBelow n (Some id) = id.0 < n

pub record IsEntry (chains : List (List Scope)) (n : ℕ) (e : ScopeEntry) : Type 0 where
  pub chain : chain_at chains n ≡ chain_of chains e
  pub speaker : IsBelow n e.speaker
  pub speaks : chain_from chains e.speaker ≡ speaking (chain_from chains e.outer)
  pub counts : Counts (chain_from chains e.outer) e

-- the entry of a scope, where this is known of those outside of it
pub record HoldsScope (outside : Outside) (s : Scope) (e : ScopeEntry) : Type 0 where
  pub scope : e.scope ≡ s
  pub outer : e.outer ≡ outside.outer
  pub speaker : e.speaker ≡ outside.speaker
  pub first : e.first ≡ first_place s.owner outside.in_force
  pub in_force : e.in_force ≡ in_force_after s.owner outside.in_force (length s.names)
  pub in_function : e.in_function ≡ (is_of_function s.owner || outside.in_function)
  pub room : e.first + length s.names < 2 ^ 32

-- what a scope says of a name, or what the scopes outside say
abbrev pub Says : (Resolved → Resolved) → Option Resolved → Type 0
Says resolves said = (outside : Resolved) → resolves outside ≡ unwrap_or said outside

-- how far it is from a scope outwards, at most
abbrev pub outwards : Option ScopeId → ℕ
outwards None = 0
outwards (Some id) = id.0 + 1
