-- What names are bound to (ECMA-262, 9.1), and the names of scopes (10.2.11, 14.2.3, 16.1.7).
use Rattle.std.specs.Prelude.{◌≡◌, ℕ, Bool, true, false, List, [], ◌∷◌, codes, Option, Some, None}
use Rattle.es_tree.specs.declared.names.Binding.TheVariants as binding
use Rattle.script_grammar.specs.declared.leaf.Leaf.{Leaf}
use Rattle.script_grammar.specs.declared.leaf.LeafKind.TheVariants as leaf
use Rattle.script_rules.specs.declared.manner.Manner.TheVariants as manner
use Rattle.script_rules.specs.declared.resolved.Resolved.{Resolved}
use Rattle.script_rules.specs.declared.resolved.Resolved.TheVariants as found
use Rattle.script_rules.specs.declared.scope.Owner.{Owner}
use Rattle.script_rules.specs.declared.scope.Owner.TheVariants as owner
use Rattle.script_rules.specs.declared.scope.Scope.{Scope}
use Rattle.script_rules.specs.Bounds.{bounds_of}
use Rattle.script_rules.specs.Names.{declared_as}
use Rattle.script_rules.specs.Scopes.{function_scope, part_scope, resolved, script_scope}

-- a scope with these names, each with whether it is constant
abbrev pub scope_with : Owner → List (List ℕ × Bool) → Option (List ℕ) → Scope
scope_with kind names own_name = record { owner = kind; names = bounds_of names; callee = own_name }

-- ---- what a name is bound to

-- scopes, the innermost first, a name, and what it is bound to there
abbrev pub BindingRow : Type 0
BindingRow = List Scope × List ℕ × Resolved

abbrev pub IsBound : BindingRow → Type 0
IsBound row = resolved row.0 row.1 ≡ row.2

-- the script with `a` and a constant `b`
abbrev pub top : Scope
top = scope_with owner.Script ((codes "a", false) ∷ (codes "b", true) ∷ []) None

-- a block with `x` and a constant `y`
abbrev pub block_of_two : Scope
block_of_two = scope_with owner.Part ((codes "x", false) ∷ (codes "y", true) ∷ []) None

-- a block with a constant `c`
abbrev pub block_of_one : Scope
block_of_one = scope_with owner.Part ((codes "c", true) ∷ []) None

-- a function expression `f` with `c` and a constant `d`
abbrev pub outer_function : Scope
outer_function = scope_with owner.Function ((codes "c", false) ∷ (codes "d", true) ∷ []) (Some (codes "f"))

-- a function without an own name, with `c`
abbrev pub inner_function : Scope
inner_function = scope_with owner.Function ((codes "c", false) ∷ []) None

abbrev pub top_at : ℕ → Bool → Resolved
top_at cell constant = found.Finds (binding.Top cell constant)

abbrev pub own_at : ℕ → Bool → Resolved
own_at place constant = found.Finds (binding.Own place constant)

abbrev pub script_binding_rows : List BindingRow
script_binding_rows =
    (top ∷ [], codes "a", top_at 0 false)
    ∷ (top ∷ [], codes "b", top_at 1 true)
    ∷ (top ∷ [], codes "z", found.Finds binding.Global)
    ∷ (top ∷ [], codes "arguments", found.Finds binding.Global)
    ∷ (block_of_two ∷ top ∷ [], codes "x", own_at 0 false)
    ∷ (block_of_two ∷ top ∷ [], codes "y", own_at 1 true)
    ∷ (block_of_two ∷ top ∷ [], codes "b", top_at 1 true)
    -- a place behind those of the block around
    ∷ (block_of_one ∷ block_of_two ∷ top ∷ [], codes "c", own_at 2 true)
    ∷ (block_of_one ∷ block_of_two ∷ top ∷ [], codes "x", own_at 0 false)
    ∷ []

abbrev pub function_binding_rows : List BindingRow
function_binding_rows =
    (outer_function ∷ top ∷ [], codes "c", own_at 0 false)
    ∷ (outer_function ∷ top ∷ [], codes "d", own_at 1 true)
    ∷ (outer_function ∷ top ∷ [], codes "f", found.Finds binding.Callee)
    ∷ (outer_function ∷ top ∷ [], codes "arguments", found.Finds binding.Arguments)
    ∷ (outer_function ∷ top ∷ [], codes "a", top_at 0 false)
    ∷ (outer_function ∷ top ∷ [], codes "z", found.Finds binding.Global)
    -- in a block of the function: the innermost `c`
    ∷ (block_of_one ∷ outer_function ∷ top ∷ [], codes "c", own_at 2 true)
    ∷ (block_of_one ∷ outer_function ∷ top ∷ [], codes "d", own_at 1 true)
    ∷ (block_of_one ∷ outer_function ∷ top ∷ [], codes "f", found.Finds binding.Callee)
    ∷ (block_of_one ∷ outer_function ∷ top ∷ [], codes "arguments", found.Finds binding.Arguments)
    -- in a function inside a block of the script: its places begin anew
    ∷ (outer_function ∷ block_of_two ∷ top ∷ [], codes "d", own_at 1 true)
    ∷ (outer_function ∷ block_of_two ∷ top ∷ [], codes "x", found.Captures)
    ∷ (outer_function ∷ block_of_two ∷ top ∷ [], codes "b", top_at 1 true)
    -- in a function inside a function
    ∷ (inner_function ∷ block_of_one ∷ outer_function ∷ top ∷ [], codes "c", own_at 0 false)
    ∷ (inner_function ∷ block_of_two ∷ outer_function ∷ top ∷ [], codes "x", found.Captures)
    ∷ (inner_function ∷ block_of_two ∷ outer_function ∷ top ∷ [], codes "d", found.Captures)
    ∷ (inner_function ∷ outer_function ∷ top ∷ [], codes "f", found.Captures)
    ∷ (inner_function ∷ outer_function ∷ top ∷ [], codes "arguments", found.Finds binding.Arguments)
    ∷ (inner_function ∷ outer_function ∷ top ∷ [], codes "a", top_at 0 false)
    ∷ (inner_function ∷ outer_function ∷ top ∷ [], codes "z", found.Finds binding.Global)
    ∷ (block_of_two ∷ inner_function ∷ outer_function ∷ top ∷ [], codes "x", own_at 1 false)
    ∷ (block_of_two ∷ inner_function ∷ outer_function ∷ top ∷ [], codes "d", found.Captures)
    ∷ []

-- ---- the names of a scope

-- a scope, and what it is
abbrev pub ScopeRow : Type 0
ScopeRow = Scope × Scope

abbrev pub IsScope : ScopeRow → Type 0
IsScope row = row.0 ≡ row.1

abbrev pub named : List ℕ → Leaf
named units = record { kind = leaf.Name units; place = record { line = 1; column = 1 } }

-- the tokens `a b c a e`
abbrev pub five_names : List Leaf
five_names = named (codes "a") ∷ named (codes "b") ∷ named (codes "c") ∷ named (codes "a") ∷ named (codes "e") ∷ []

abbrev pub scope_rows : List ScopeRow
scope_rows =
    -- of the declarations of a script those that are lexical
    (
      script_scope five_names (declared_as manner.Let 0 ∷ declared_as manner.Function 1 ∷ declared_as manner.Const 2 ∷ []),
      scope_with owner.Script ((codes "a", false) ∷ (codes "c", true) ∷ []) None,
    )
    -- parameters, then functions, then lexical names; a name that stands there twice is one
    ∷ (
      function_scope five_names (Some (codes "f")) (declared_as manner.Parameter 0 ∷ declared_as manner.Parameter 1 ∷ [])
          (declared_as manner.Const 2 ∷ declared_as manner.Function 3 ∷ declared_as manner.Function 4 ∷ []),
      scope_with owner.Function ((codes "a", false) ∷ (codes "b", false) ∷ (codes "e", false) ∷ (codes "c", true) ∷ []) (Some (codes "f")),
    )
    ∷ (function_scope five_names None [] (declared_as manner.Let 0 ∷ []), scope_with owner.Function ((codes "a", false) ∷ []) None)
    ∷ (
      part_scope five_names (declared_as manner.Let 0 ∷ declared_as manner.Const 2 ∷ []),
      scope_with owner.Part ((codes "a", false) ∷ (codes "c", true) ∷ []) None,
    )
    ∷ (part_scope five_names (declared_as manner.Catch 1 ∷ []), scope_with owner.Part ((codes "b", false) ∷ []) None)
    ∷ []
