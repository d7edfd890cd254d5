-- The static rules of a script, as pairs of place and code, and the least of them.
use Rattle.std.specs.Prelude.{ℕ, Bool, true, false, ◌&&◌, ◌||◌, not, List, [], ◌∷◌, ◌++◌, flat_map, drop}
use Rattle.std.specs.Prelude.{codes, bytes_eq, nat_lt, nat_eq, Option, Some, None, if◌then◌else◌, slice_get}
use Rattle.std.specs.List.{list_any}
use Rattle.es_tree.specs.declared.expressions.UnaryOperator.{UnaryOperator}
use Rattle.es_tree.specs.declared.expressions.UnaryOperator.TheVariants as unary_operator
use Rattle.es_source.specs.Codes.{code_number}
use Rattle.es_source.specs.declared.faults.FaultCode.{FaultCode}
use Rattle.es_source.specs.declared.faults.FaultCode.TheVariants as code
use Rattle.es_source.specs.declared.faults.SourceFault.{SourceFault}
use Rattle.script_grammar.specs.declared.leaf.Leaf.{Leaf}
use Rattle.script_grammar.specs.declared.labels.Atom.TheVariants as atom
use Rattle.script_grammar.specs.declared.labels.Wrap.TheVariants as wrap
use Rattle.script_grammar.specs.declared.labels.Pair.TheVariants as pair
use Rattle.script_grammar.specs.declared.labels.Triple.TheVariants as triple
use Rattle.script_grammar.specs.declared.labels.Quad.TheVariants as quad
use Rattle.script_grammar.specs.Tree.{ParseTree}
use Rattle.script_grammar.specs.Tree.{ParseTree as parse_tree}
use Rattle.script_rules.specs.declared.manner.Manner.{Manner}
use Rattle.script_rules.specs.declared.manner.Manner.TheVariants as manner
use Rattle.script_rules.specs.declared.manner.Declared.{Declared}
use Rattle.script_rules.specs.Names.{units_at, members, declared_as, declared_by, declared_in, parameters_in, declared_in_block}
use Rattle.script_rules.specs.declared.scope.Scope.{Scope}
use Rattle.script_rules.specs.Scopes.{script_scope, function_scope, part_scope, resolved, is_captured, is_in_function, arguments_name}

-- What stands around a part: its scopes, and whether a loop of the same function is among it.
pub record Around : Type 0 where
  pub scopes : List Scope
  pub in_loop : Bool

abbrev pub within : Scope → Around → Around
within s a = record a { scopes = s ∷ a.scopes }

abbrev pub in_function : Scope → Around → Around
in_function s a = record { scopes = s ∷ a.scopes; in_loop = false }

abbrev pub looping : Around → Around
looping a = record a { in_loop = true }

-- ---- one rule each, as the faults at a token

abbrev pub fault_by : FaultCode → Option Leaf → List SourceFault
fault_by fault None = []
fault_by fault (Some leaf) = record { code = fault; place = leaf.place } ∷ []

abbrev pub fault_where : Bool → List Leaf → FaultCode → ℕ → List SourceFault
fault_where is_fault leaves fault i = if is_fault then fault_by fault (slice_get leaves i) else []

-- Duplicate: a `let` or `const` name bound twice in one scope, or with a function declaration of that scope, a parameter of that function or the catch
-- parameter of that block; a parameter twice. It stands at the later name.
abbrev pub clashes : Manner → Manner → Bool
clashes manner.Function manner.Function = false
clashes manner.Function manner.Parameter = false
clashes manner.Parameter manner.Function = false
clashes earlier later = true

abbrev pub clash : List Leaf → Declared → Declared → Bool
clash leaves later earlier = bytes_eq (units_at leaves earlier.name) (units_at leaves later.name) && clashes earlier.manner later.manner

abbrev pub duplicates_after : List Leaf → List Declared → List Declared → List SourceFault
duplicates_after leaves earlier [] = []
duplicates_after leaves earlier (d ∷ ds) =
    fault_where (list_any (clash leaves d) earlier) leaves code.Duplicate d.name ++ duplicates_after leaves (earlier ++ d ∷ []) ds

-- the names of one scope, in the order of the source
abbrev pub duplicates : List Leaf → List Declared → List SourceFault
duplicates leaves declared = duplicates_after leaves [] declared

-- Duplicate: a second `__proto__` with a colon in one literal. It stands at the later name.
abbrev pub prototype_key : List Leaf → ParseTree → List ℕ
prototype_key leaves (parse_tree.Pair pair.Property (parse_tree.Atom (atom.Key i)) value) =
    if bytes_eq (units_at leaves i) (codes "__proto__") then i ∷ [] else []
prototype_key leaves other = []

abbrev pub second_prototypes : List Leaf → ParseTree → List SourceFault
second_prototypes leaves properties = flat_map (fault_where true leaves code.Duplicate) (drop 1 (flat_map (prototype_key leaves) (members properties)))

-- Capture: a name used in a function whose binding is not that function's own and not of the script's top scope. It stands at the use.
abbrev pub use_faults : List Leaf → Around → ℕ → List SourceFault
use_faults leaves a i = fault_where (is_captured (resolved a.scopes (units_at leaves i))) leaves code.Capture i

-- BadBinding: a binding named `eval`, `arguments` or `undefined`. It stands at the name.
abbrev pub is_fixed_name : List ℕ → Bool
is_fixed_name units = bytes_eq units (codes "eval") || bytes_eq units arguments_name

abbrev pub binding_faults : List Leaf → ℕ → List SourceFault
binding_faults leaves i = fault_where (is_fixed_name (units_at leaves i) || bytes_eq (units_at leaves i) (codes "undefined")) leaves code.BadBinding i

-- BadBinding: assignment to or update of `eval` or `arguments`. It stands at the name.
abbrev pub target_faults : List Leaf → ParseTree → List SourceFault
target_faults leaves (parse_tree.Atom (atom.Name i)) = fault_where (is_fixed_name (units_at leaves i)) leaves code.BadBinding i
target_faults leaves other = []

-- Misplaced: `return` outside a function, `break` or `continue` outside a loop of the same function. It stands at that word.
abbrev pub return_faults : List Leaf → Around → ℕ → List SourceFault
return_faults leaves a i = fault_where (not (is_in_function a.scopes)) leaves code.Misplaced i

abbrev pub loop_faults : List Leaf → Around → ℕ → List SourceFault
loop_faults leaves a i = fault_where (not a.in_loop) leaves code.Misplaced i

-- Misplaced: `delete` of a name, also in parentheses. It stands at the word.
abbrev pub is_name : ParseTree → Bool
is_name (parse_tree.Atom (atom.Name i)) = true
is_name (parse_tree.Wrap (wrap.Parenthesis i) x) = is_name x
is_name other = false

abbrev pub is_delete : UnaryOperator → Bool
is_delete unary_operator.Delete = true
is_delete other = false

abbrev pub delete_faults : List Leaf → UnaryOperator → ℕ → ParseTree → List SourceFault
delete_faults leaves op i operand = fault_where (is_delete op && is_name operand) leaves code.Misplaced i

-- ---- the scopes that parts make

abbrev pub catch_names : ℕ → ParseTree → List Declared
catch_names parameter block = declared_as manner.Catch parameter ∷ declared_in_block block

-- the names of the first part of a `for`
abbrev pub head_names : ParseTree → List Declared
head_names first = declared_by first

abbrev pub setter_names : ℕ → List Declared
setter_names parameter = declared_as manner.Parameter parameter ∷ []

abbrev pub own_units : List Leaf → Option ℕ → Option (List ℕ)
own_units leaves None = None
own_units leaves (Some i) = Some (units_at leaves i)

-- what stands around the parts of a function: its own name, its parameters, and what its body declares
abbrev pub function_around : List Leaf → Around → Option ℕ → List Declared → ParseTree → Around
function_around leaves a own_name parameters body = in_function (function_scope leaves (own_units leaves own_name) parameters (declared_in body)) a

-- ---- all the faults of a part, within what stands around it

abbrev pub faults : List Leaf → Around → ParseTree → List SourceFault
faults leaves a (parse_tree.Atom (atom.Name i)) = use_faults leaves a i
faults leaves a (parse_tree.Atom (atom.Shorthand i)) = use_faults leaves a i
faults leaves a (parse_tree.Atom (atom.Binding i)) = binding_faults leaves i
faults leaves a (parse_tree.Atom (atom.Break i)) = loop_faults leaves a i
faults leaves a (parse_tree.Atom (atom.Continue i)) = loop_faults leaves a i
faults leaves a (parse_tree.Atom (atom.Return i)) = return_faults leaves a i
faults leaves a (parse_tree.Atom other) = []
faults leaves a (parse_tree.Wrap (wrap.Unary op i) e) = delete_faults leaves op i e ++ faults leaves a e
faults leaves a (parse_tree.Wrap (wrap.Update increment prefix i) e) = target_faults leaves e ++ faults leaves a e
faults leaves a (parse_tree.Wrap (wrap.Object i) properties) = second_prototypes leaves properties ++ faults leaves a properties
faults leaves a (parse_tree.Wrap (wrap.Binding i) e) = binding_faults leaves i ++ faults leaves a e
faults leaves a (parse_tree.Wrap (wrap.Block i) items) =
    duplicates leaves (declared_in items) ++ faults leaves (within (part_scope leaves (declared_in items)) a) items
faults leaves a (parse_tree.Wrap (wrap.Return i) e) = return_faults leaves a i ++ faults leaves a e
faults leaves a (parse_tree.Wrap (wrap.CatchName i) block) =
    binding_faults leaves i ++ duplicates leaves (catch_names i block)
    ++ faults leaves (within (part_scope leaves (declared_as manner.Catch i ∷ [])) a) block
faults leaves a (parse_tree.Wrap other e) = faults leaves a e
faults leaves a (parse_tree.Pair (pair.Assign op) target e) = target_faults leaves target ++ faults leaves a target ++ faults leaves a e
faults leaves a (parse_tree.Pair (pair.Function i) parameters body) =
    let inner = function_around leaves a None (parameters_in parameters) body in
    duplicates leaves (parameters_in parameters ++ declared_in body) ++ faults leaves inner parameters ++ faults leaves inner body
faults leaves a (parse_tree.Pair (pair.NamedFunction i name) parameters body) =
    let inner = function_around leaves a (Some name) (parameters_in parameters) body in
    binding_faults leaves name
    ++ duplicates leaves (parameters_in parameters ++ declared_in body) ++ faults leaves inner parameters ++ faults leaves inner body
faults leaves a (parse_tree.Pair (pair.DeclaredFunction i name) parameters body) =
    let inner = function_around leaves a None (parameters_in parameters) body in
    binding_faults leaves name
    ++ duplicates leaves (parameters_in parameters ++ declared_in body) ++ faults leaves inner parameters ++ faults leaves inner body
faults leaves a (parse_tree.Pair (pair.Getter i) key body) =
    faults leaves a key ++ duplicates leaves (declared_in body) ++ faults leaves (function_around leaves a None [] body) body
faults leaves a (parse_tree.Pair (pair.Setter i parameter) key body) =
    faults leaves a key ++ binding_faults leaves parameter
    ++ duplicates leaves (setter_names parameter ++ declared_in body) ++ faults leaves (function_around leaves a None (setter_names parameter) body) body
faults leaves a (parse_tree.Pair (pair.While i) test body) = faults leaves a test ++ faults leaves (looping a) body
faults leaves a (parse_tree.Pair other x y) = faults leaves a x ++ faults leaves a y
faults leaves a (parse_tree.Triple triple.Method key parameters body) =
    let inner = function_around leaves a None (parameters_in parameters) body in
    faults leaves a key
    ++ duplicates leaves (parameters_in parameters ++ declared_in body) ++ faults leaves inner parameters ++ faults leaves inner body
faults leaves a (parse_tree.Triple other x y z) = faults leaves a x ++ faults leaves a y ++ faults leaves a z
faults leaves a (parse_tree.Quad (quad.For i) first test step body) =
    let inner = within (part_scope leaves (head_names first)) a in
    duplicates leaves (head_names first)
    ++ faults leaves inner first ++ faults leaves inner test ++ faults leaves inner step ++ faults leaves (looping inner) body

-- ---- the script

abbrev pub around_script : List Leaf → ParseTree → Around
around_script leaves items = record { scopes = script_scope leaves (declared_in items) ∷ []; in_loop = false }

abbrev pub script_faults : List Leaf → ParseTree → List SourceFault
script_faults leaves items = duplicates leaves (declared_in items) ++ faults leaves (around_script leaves items) items

-- ---- the least pair: the least place counts, and at one place the lower code

abbrev pub is_before : SourceFault → SourceFault → Bool
is_before a b =
    nat_lt a.place.line b.place.line || (nat_eq a.place.line b.place.line && (nat_lt a.place.column b.place.column
    || (nat_eq a.place.column b.place.column && nat_lt (code_number a.code) (code_number b.code))))

abbrev pub lesser : SourceFault → Option SourceFault → SourceFault
lesser a None = a
lesser a (Some b) = if is_before b a then b else a

abbrev pub least : List SourceFault → Option SourceFault
least [] = None
least (a ∷ faults) = Some (lesser a (least faults))

abbrev pub static_fault : List Leaf → ParseTree → Option SourceFault
static_fault leaves items = least (script_faults leaves items)
