-- Scopes, and what a name is bound to.
use Rattle.std.specs.Prelude.{ℕ, ◌+◌, Bool, true, false, ◌||◌, List, [], ◌∷◌, map, length, codes, bytes_eq, Option, Some, None, if◌then◌else◌}
use Rattle.std.specs.List.{list_any}
use Rattle.es_tree.specs.declared.names.Binding.{Binding}
use Rattle.es_tree.specs.declared.names.Binding.TheVariants as binding
use Rattle.script_grammar.specs.declared.leaf.Leaf.{Leaf}
use Rattle.script_rules.specs.declared.manner.Manner.{Manner}
use Rattle.script_rules.specs.declared.manner.Manner.TheVariants as manner
use Rattle.script_rules.specs.declared.resolved.Resolved.{Resolved}
use Rattle.script_rules.specs.declared.resolved.Resolved.TheVariants as found
use Rattle.script_rules.specs.declared.scope.Owner.{Owner}
use Rattle.script_rules.specs.declared.scope.Owner.TheVariants as owner
use Rattle.script_rules.specs.declared.scope.Scope.{Scope}
use Rattle.script_rules.specs.Bounds.{Bound, bound, with_names, place_from}
use Rattle.script_rules.specs.declared.manner.Declared.{Declared}
use Rattle.script_rules.specs.Names.{units_at}

-- ---- the names of a scope

abbrev pub is_constant : Manner → Bool
is_constant manner.Const = true
is_constant other = false

abbrev pub is_lexical : Manner → Bool
is_lexical manner.Let = true
is_lexical manner.Const = true
is_lexical other = false

abbrev pub is_function : Manner → Bool
is_function manner.Function = true
is_function other = false

abbrev pub bound_of : List Leaf → Declared → Bound
bound_of leaves d = bound (units_at leaves d.name) (is_constant d.manner)

abbrev pub bounds_where : (Manner → Bool) → List Leaf → List Declared → List Bound
bounds_where is_wanted leaves [] = []
bounds_where is_wanted leaves (d ∷ ds) =
    if is_wanted d.manner then bound_of leaves d ∷ bounds_where is_wanted leaves ds else bounds_where is_wanted leaves ds

-- the lexical names of the script (16.1.7): its declared functions are properties of the global object
abbrev pub script_scope : List Leaf → List Declared → Scope
script_scope leaves declared = record { owner = owner.Script; names = with_names [] (bounds_where is_lexical leaves declared); callee = None }

-- the names of a function (10.2.11): its parameters, then its declared functions, then its lexical names
abbrev pub function_scope : List Leaf → Option (List ℕ) → List Declared → List Declared → Scope
function_scope leaves own_name parameters declared = record {
  owner = owner.Function;
  names =
      with_names (with_names (with_names [] (map (bound_of leaves) parameters)) (bounds_where is_function leaves declared))
      (bounds_where is_lexical leaves declared);
  callee = own_name;
}

-- the names of a block, of the head of a `for` or of a catch
abbrev pub part_scope : List Leaf → List Declared → Scope
part_scope leaves declared = record { owner = owner.Part; names = with_names [] (map (bound_of leaves) declared); callee = None }

-- ---- what a name is bound to. Of a list of scopes the innermost stands first

-- how many names of the running body are in force after a scope, where so many are outside of it
abbrev pub in_force_after : Owner → ℕ → ℕ → ℕ
in_force_after owner.Script outside names = 0
in_force_after owner.Function outside names = names
in_force_after owner.Part outside names = outside + names

abbrev pub in_force : List Scope → ℕ
in_force [] = 0
in_force (s ∷ outer) = in_force_after s.owner (in_force outer) (length s.names)

-- the place of the first name of a scope, where so many names are in force outside of it
abbrev pub first_place : Owner → ℕ → ℕ
first_place owner.Script outside = 0
first_place owner.Function outside = 0
first_place owner.Part outside = outside

-- a name of the running body, unless the use stands in a function inside it
abbrev pub own_or_captured : (away : Bool) → Binding → Resolved
own_or_captured away b = if away then found.Captures else found.Finds b

abbrev pub found_in : Owner → (away : Bool) → ℕ → Bool → Resolved
found_in owner.Script away place constant = found.Finds (binding.Top place constant)
found_in owner.Function away place constant = own_or_captured away (binding.Own place constant)
found_in owner.Part away place constant = own_or_captured away (binding.Own place constant)

abbrev pub is_callee : List ℕ → Option (List ℕ) → Bool
is_callee units None = false
is_callee units (Some name) = bytes_eq units name

abbrev pub arguments_name : List ℕ
arguments_name = codes "arguments"

-- a name that is none of the scope's: it is one of those outside, unless it is `arguments` in a function, or the own name of a function expression
abbrev pub passed_at : Owner → Scope → (away : Bool) → List ℕ → Resolved → Resolved
passed_at owner.Script s away units outside = outside
passed_at owner.Part s away units outside = outside
passed_at owner.Function s away units outside =
    if bytes_eq units arguments_name then found.Finds binding.Arguments
    else (if is_callee units s.callee then own_or_captured away binding.Callee else outside)

abbrev pub is_of_function : Owner → Bool
is_of_function owner.Function = true
is_of_function other = false

abbrev pub resolved_by : Scope → (away : Bool) → List ℕ → Option (ℕ × Bool) → Resolved → Resolved
resolved_by s away units (Some place) outside = found_in s.owner away place.0 place.1
resolved_by s away units None outside = passed_at s.owner s away units outside

-- `away` where a function stands between the use and these scopes
abbrev pub resolved_from : (away : Bool) → List Scope → List ℕ → Resolved
resolved_from away [] units = found.Finds binding.Global
resolved_from away (s ∷ outer) units =
    resolved_by s away units (place_from (first_place s.owner (in_force outer)) s.names units) (resolved_from (away || is_of_function s.owner) outer units)

-- what a name that is used within these scopes is bound to
abbrev pub resolved : List Scope → List ℕ → Resolved
resolved scopes units = resolved_from false scopes units

abbrev pub is_captured : Resolved → Bool
is_captured found.Captures = true
is_captured (found.Finds b) = false

-- whether the use stands in a function
abbrev pub is_in_function : List Scope → Bool
is_in_function scopes = list_any (λ (s : Scope). is_of_function s.owner) scopes
