-- The tree of a script: its nodes in the order in which they end in the source, each after its parts, with the functions, literals and sites that they name.
use Rattle.std.specs.Prelude.{ℕ, ℤ, pos, Bool, true, false, ◌||◌, List, [], ◌∷◌, ◌++◌, length, codes, bytes_eq, Option, Some, None, slice_get, if◌then◌else◌}
use Rattle.property_keys.specs.Decimals.{whole_units}
use Rattle.es_tree.specs.declared.body.Body.{Body}
use Rattle.es_tree.specs.declared.expressions.AssignOperator.{AssignOperator}
use Rattle.es_tree.specs.declared.expressions.AssignOperator.TheVariants as assign_operator
use Rattle.es_tree.specs.declared.expressions.Access.{Access}
use Rattle.es_tree.specs.declared.expressions.Access.TheVariants as access
use Rattle.es_tree.specs.declared.expressions.Operator.{Operator}
use Rattle.es_tree.specs.declared.expressions.Operator.TheVariants as operator
use Rattle.es_tree.specs.declared.expressions.UnaryOperator.{UnaryOperator}
use Rattle.es_tree.specs.declared.facts.FunctionFacts.{FunctionFacts}
use Rattle.es_tree.specs.declared.facts.LiteralFacts.{LiteralFacts}
use Rattle.es_tree.specs.declared.facts.SiteFacts.{SiteFacts}
use Rattle.es_tree.specs.declared.names.Binding.{Binding}
use Rattle.es_tree.specs.declared.names.Binding.TheVariants as binding
use Rattle.es_tree.specs.declared.names.Named.{Named}
use Rattle.es_tree.specs.declared.node.Node.{Node}
use Rattle.es_tree.specs.declared.node.Node.TheVariants as node
use Rattle.es_tree.specs.declared.numbers.FunctionNo.{FunctionNo}
use Rattle.es_tree.specs.declared.numbers.NodeId.{NodeId}
use Rattle.es_tree.specs.declared.numbers.SiteId.{SiteId}
use Rattle.es_source.specs.declared.place.Place.{Place}
use Rattle.es_tree.specs.declared.primaries.Key.TheVariants as key
use Rattle.es_tree.specs.declared.primaries.Primary.{Primary}
use Rattle.es_tree.specs.declared.primaries.Primary.TheVariants as primary
use Rattle.es_tree.specs.declared.primaries.Property.{Property}
use Rattle.es_tree.specs.declared.primaries.Property.TheVariants as property
use Rattle.es_tree.specs.declared.statements.Statement.{Statement}
use Rattle.es_tree.specs.declared.statements.Statement.TheVariants as statement
use Rattle.es_tree.specs.Tree.{Tree as Checked, tree_of}
use Rattle.script_grammar.specs.declared.leaf.Leaf.{Leaf}
use Rattle.script_grammar.specs.declared.leaf.LeafKind.{LeafKind}
use Rattle.script_grammar.specs.declared.leaf.LeafKind.TheVariants as leaf
use Rattle.script_grammar.specs.declared.labels.Atom.{Atom}
use Rattle.script_grammar.specs.declared.labels.Atom.TheVariants as atom
use Rattle.script_grammar.specs.declared.labels.Wrap.{Wrap}
use Rattle.script_grammar.specs.declared.labels.Wrap.TheVariants as wrap
use Rattle.script_grammar.specs.declared.labels.Pair.{Pair}
use Rattle.script_grammar.specs.declared.labels.Pair.TheVariants as pair
use Rattle.script_grammar.specs.declared.labels.Triple.{Triple}
use Rattle.script_grammar.specs.declared.labels.Triple.TheVariants as triple
use Rattle.script_grammar.specs.Tree.{ParseTree, first_token}
use Rattle.script_grammar.specs.Tree.{ParseTree as parse_tree}
use Rattle.script_rules.specs.declared.role.Role.{Role}
use Rattle.script_rules.specs.declared.role.Role.TheVariants as role
use Rattle.script_rules.specs.declared.resolved.Resolved.{Resolved}
use Rattle.script_rules.specs.declared.resolved.Resolved.TheVariants as found
use Rattle.script_rules.specs.declared.scope.Scope.{Scope}
use Rattle.script_rules.specs.declared.manner.Manner.TheVariants as manner
use Rattle.script_rules.specs.declared.manner.Declared.{Declared}
use Rattle.script_rules.specs.Chains.{names_in}
use Rattle.script_rules.specs.Names.{units_at, declared_as, declared_in, parameters_in}
use Rattle.script_rules.specs.Scopes.{script_scope, function_scope, part_scope, resolved}
use Rattle.script_rules.specs.Faults.{own_units, head_names, setter_names, is_delete}
use Rattle.script_checker.specs.declared.made_parts.MadePart.{MadePart}
use Rattle.script_checker.specs.declared.made_parts.MadePart.TheVariants as made_part
use Rattle.script_checker.specs.declared.made_parts.MadeParts.{MadeParts}
use Rattle.script_checker.specs.declared.made_parts.MadeParts.TheVariants as made_parts
use Rattle.script_checker.specs.Own.{names_arguments, this_names, is_strict}
use Rattle.script_checker.specs.Values.{node_of, target_of, key_of, block_of, optional_block, optional_catch, item_of}
use Rattle.script_checker.specs.Values.{parts_of, front_of, nodes_in, elements_in, binds_in, properties_in, functions_in}

-- What was made of the parts of a script so far.
pub record Made : Type 0 where
  pub nodes : List Node
  pub places : List Place
  pub functions : List FunctionFacts
  pub bodies : List Body
  pub literals : List LiteralFacts
  pub sites : List SiteFacts

abbrev pub made_of : List Node → List Place → List FunctionFacts → List Body → List LiteralFacts → List SiteFacts → Made
made_of all_nodes all_places all_functions all_bodies all_literals all_sites = record {
  nodes = all_nodes;
  places = all_places;
  functions = all_functions;
  bodies = all_bodies;
  literals = all_literals;
  sites = all_sites;
}

abbrev pub nothing_made : Made
nothing_made = made_of [] [] [] [] [] []

-- What a part became, and all that was made up to its end.
pub record PartWithMade : Type 0 where
  pub value : MadeParts
  pub made : Made

abbrev pub part : MadeParts → Made → PartWithMade
part v m = record { value = v; made = m }

abbrev pub one : MadePart → Made → PartWithMade
one x m = part (made_parts.One x) m

abbrev pub many : List MadePart → Made → PartWithMade
many items m = part (made_parts.Many items) m

-- What stands around a part: its scopes, the innermost first, whether its code is strict, and what it is to the part around it.
pub record Around : Type 0 where
  pub scopes : List Scope
  pub strict : Bool
  pub role : Role

abbrev pub around : List Scope → Bool → Role → Around
around all_scopes is_strict_code the_role = record { scopes = all_scopes; strict = is_strict_code; role = the_role }

abbrev pub as_role : Role → Around → Around
as_role r a = around a.scopes a.strict r

abbrev pub plain : Around → Around
plain a = as_role role.Plain a

abbrev pub within : Scope → Around → Around
within s a = around (s ∷ a.scopes) a.strict role.Plain

-- ---- what tokens say

abbrev pub no_place : Place
no_place = record { line = 0; column = 0 }

abbrev pub place_by : Option Leaf → Place
place_by None = no_place
place_by (Some x) = x.place

abbrev pub place_of : List Leaf → Option ℕ → Place
place_of leaves None = no_place
place_of leaves (Some i) = place_by (slice_get leaves i)

abbrev pub number_in : LeafKind → ℤ
number_in (leaf.Number n) = n
number_in other = pos 0

abbrev pub number_by : Option Leaf → ℤ
number_by None = pos 0
number_by (Some x) = number_in x.kind

abbrev pub number_at : List Leaf → ℕ → ℤ
number_at leaves i = number_by (slice_get leaves i)

-- a property name: the text of a number is its decimal
abbrev pub key_in : LeafKind → List ℕ
key_in (leaf.Number n) = whole_units n
key_in (leaf.Name units) = units
key_in (leaf.Text units strict) = units
key_in leaf.Punctuator = []

abbrev pub key_by : Option Leaf → List ℕ
key_by None = []
key_by (Some x) = key_in x.kind

abbrev pub key_at : List Leaf → ℕ → List ℕ
key_at leaves i = key_by (slice_get leaves i)

-- ---- names

abbrev pub binding_in : Resolved → Binding
binding_in (found.Finds b) = b
-- no script without a fault has such a name
binding_in found.Captures = binding.Global

abbrev pub named : List Leaf → List Scope → ℕ → Named
named leaves scopes i = let units = units_at leaves i in record { name = units; binding = binding_in (resolved scopes units) }

-- ---- what is made, with the number that it gets

abbrev pub next_node : Made → NodeId
next_node m = record { 0 = length m.nodes }

-- a node, with the place of its first token
abbrev pub add_node : Place → Node → Made → Made
add_node place n m = record m { nodes = m.nodes ++ n ∷ []; places = m.places ++ place ∷ [] }

abbrev pub with_node : Place → Node → Made → PartWithMade
with_node place n m = one (made_part.Node (next_node m)) (add_node place n m)

abbrev pub with_statement : Place → Statement → Made → PartWithMade
with_statement place s m = with_node place (node.Statement s) m

abbrev pub with_operator : Place → Operator → Made → PartWithMade
with_operator place o m = with_node place (node.Operator o) m

abbrev pub with_access : Place → Access → Made → PartWithMade
with_access place a m = with_node place (node.Access a) m

abbrev pub with_primary : Place → Primary → Made → PartWithMade
with_primary place p m = with_node place (node.Primary p) m

-- A part that has to be a node. Where it is none nothing is made, which happens in no script.
abbrev pub with_one : Option NodeId → Made → (NodeId → PartWithMade) → PartWithMade
with_one (Some n) m f = f n
with_one None m f = one made_part.Nothing m

abbrev pub with_two : Option NodeId → Option NodeId → Made → (NodeId → NodeId → PartWithMade) → PartWithMade
with_two x y m f = with_one x m (λ l. with_one y m (λ n. f l n))

abbrev pub with_three : Option NodeId → Option NodeId → Option NodeId → Made → (NodeId → NodeId → NodeId → PartWithMade) → PartWithMade
with_three x y z m f = with_one x m (λ c. with_one y m (λ l. with_one z m (λ n. f c l n)))

-- A site, at the token of the `.` or `[`. An access has one where it is read and one where it is written, read first; the operand of `delete` has none.
abbrev pub add_site : Place → (write : Bool) → Made → Made
add_site place writes m = record m { sites = m.sites ++ record { place = place; write = writes } ∷ [] }

abbrev pub next_site : Made → Option SiteId
next_site m = Some (record { 0 = length m.sites })

abbrev pub is_read : Role → Bool
is_read role.Written = false
is_read role.Deleted = false
is_read other = true

abbrev pub is_written : Role → Bool
is_written role.Written = true
is_written role.Updated = true
is_written other = false

-- the site of one direction, where the access has it
abbrev pub site_where : Bool → Made → Option SiteId
site_where has m = if has then next_site m else None

abbrev pub add_site_where : Bool → Place → (write : Bool) → Made → Made
add_site_where has place writes m = if has then add_site place writes m else m

abbrev pub accessed : Place → Place → Role → (Option SiteId → Option SiteId → Access) → Made → PartWithMade
accessed place token r access_by m =
    let m' = add_site_where (is_read r) token false m in
    with_access place (access_by (site_where (is_read r) m) (site_where (is_written r) m')) (add_site_where (is_written r) token true m')

-- an object literal with so many property definitions, at its `{`
abbrev pub add_literal : Place → ℕ → Made → Made
add_literal place count m = record m { literals = m.literals ++ record { place = place; definitions = count } ∷ [] }

abbrev pub with_object : Place → List MadePart → Made → PartWithMade
with_object place items m = with_primary place (primary.Object (record { 0 = length m.literals }) (properties_in items)) (add_literal place (length items) m)

-- ---- functions

abbrev pub next_function : Made → FunctionNo
next_function m = record { 0 = length m.functions }

abbrev pub add_function : FunctionFacts → Body → Made → Made
add_function facts code m = record m { functions = m.functions ++ facts ∷ []; bodies = m.bodies ++ code ∷ [] }

-- the place of its first token, its number of parameters, its body, and whether it can construct and is strict
abbrev pub facts_of : List Leaf → Place → ℕ → ParseTree → Bool → Bool → FunctionFacts
facts_of leaves place count code constructs is_strict_code = record {
  place = place;
  parameters = count;
  this_names = this_names leaves code;
  constructor = constructs;
  strict = is_strict_code;
}

-- a body with the name that is written at its function, the scope of its function, and what its items became
abbrev pub body_of : List Leaf → Option ℕ → List Scope → ParseTree → List MadePart → Body
body_of leaves own scopes code items = record {
  name = own_units leaves own;
  names = names_in scopes;
  arguments = names_arguments leaves code;
  declared = functions_in items;
  items = nodes_in items;
}

-- a function after its body, within what stands around that body
abbrev pub function_made : List Leaf → Around → Place → Bool → Option ℕ → ℕ → ParseTree → List MadePart → Made → Made
function_made leaves inner place constructs own count code items m =
    add_function (facts_of leaves place count code constructs inner.strict) (body_of leaves own inner.scopes code items) m

-- a method or an accessor, which is a node when it is made, and which is no constructor
abbrev pub method_function : List Leaf → Around → Place → ℕ → ParseTree → List MadePart → Made → Made
method_function leaves inner place count code items m = function_made leaves inner place false None count code items m

abbrev pub method_added : List Leaf → Around → Place → ℕ → ParseTree → List MadePart → Made → Made
method_added leaves inner place count code items m =
    add_node place (node.Primary (primary.Method (next_function m))) (method_function leaves inner place count code items m)

-- in its property definition
abbrev pub method_made : List Leaf → Around → Place → (NodeId → Property) → ℕ → ParseTree → List MadePart → Made → PartWithMade
method_made leaves inner place definition count code items m =
    one (made_part.Property (definition (next_node (method_function leaves inner place count code items m))))
    (method_added leaves inner place count code items m)

-- ---- what stands around the parts of a part

abbrev pub operand_role : UnaryOperator → Role
operand_role op = if is_delete op then role.Deleted else role.Plain

-- the operand of `delete` may stand in parentheses
abbrev pub inner_role : Role → Role
inner_role role.Deleted = role.Deleted
inner_role other = role.Plain

abbrev pub target_role : AssignOperator → Role
target_role assign_operator.Plain = role.Written
target_role other = role.Updated

abbrev pub is_target_role : Role → Bool
is_target_role role.Written = true
is_target_role role.Updated = true
is_target_role other = false

abbrev pub catch_scope : List Leaf → ℕ → Scope
catch_scope leaves i = part_scope leaves (declared_as manner.Catch i ∷ [])

-- the body of a function and its parameters: the name of a function expression is bound in its own body
abbrev pub in_function : List Leaf → Around → Option ℕ → List Declared → ParseTree → Around
in_function leaves a callee parameters code =
    around (function_scope leaves (own_units leaves callee) parameters (declared_in code) ∷ a.scopes) (a.strict || is_strict leaves code) role.Plain

abbrev pub in_wrap : List Leaf → Around → Wrap → ParseTree → Around
in_wrap leaves a (wrap.Parenthesis i) x = as_role (inner_role a.role) a
in_wrap leaves a (wrap.Unary op i) x = as_role (operand_role op) a
in_wrap leaves a (wrap.Update up before i) x = as_role role.Updated a
in_wrap leaves a (wrap.Block i) items = within (part_scope leaves (declared_in items)) a
in_wrap leaves a wrap.Catch block = as_role role.Block a
in_wrap leaves a (wrap.CatchName i) block = as_role role.Block (within (catch_scope leaves i) a)
in_wrap leaves a other x = plain a

-- around the second part
abbrev pub in_pair : List Leaf → Around → Pair → ParseTree → ParseTree → Around
in_pair leaves a (pair.Function i) parameters body = in_function leaves a None (parameters_in parameters) body
in_pair leaves a (pair.NamedFunction i name) parameters body = in_function leaves a (Some name) (parameters_in parameters) body
in_pair leaves a (pair.DeclaredFunction i name) parameters body = in_function leaves a None (parameters_in parameters) body
in_pair leaves a (pair.Getter i) key body = in_function leaves a None [] body
in_pair leaves a (pair.Setter i parameter) key body = in_function leaves a None (setter_names parameter) body
in_pair leaves a other x y = plain a

-- around the first part, of which the second is in the last one
abbrev pub before_pair : Around → Around → Pair → Around
before_pair a inner pair.Comma = as_role role.Listed a
before_pair a inner (pair.Assign op) = as_role (target_role op) a
before_pair a inner (pair.Function i) = inner
before_pair a inner (pair.NamedFunction i name) = inner
before_pair a inner (pair.DeclaredFunction i name) = inner
before_pair a inner other = plain a

-- around the second part, the first part and the last part
abbrev pub in_triple : List Leaf → Around → Triple → ParseTree → ParseTree → Around
in_triple leaves a triple.Method parameters body = in_function leaves a None (parameters_in parameters) body
in_triple leaves a other y z = plain a

abbrev pub before_triple : Around → Triple → Around
before_triple a (triple.Try i) = as_role role.Block a
before_triple a other = plain a

abbrev pub after_triple : Around → Triple → Around
after_triple inner (triple.Try i) = as_role role.Block inner
after_triple inner other = inner

-- around all parts of a `for`
abbrev pub in_for : List Leaf → Around → ParseTree → Around
in_for leaves a first = within (part_scope leaves (head_names first)) a

-- ---- one label each, after its parts. Beside the label stand what is around it, what is around its parts, its place, and what its parts became

abbrev pub name_made : List Leaf → Around → Place → ℕ → Made → PartWithMade
name_made leaves a place i m =
    if is_target_role a.role then one (made_part.Name (named leaves a.scopes i)) m else with_primary place (primary.Name (named leaves a.scopes i)) m

abbrev pub atom_made : List Leaf → Around → Place → Atom → Made → PartWithMade
atom_made leaves a place atom.Nothing m = one made_part.Nothing m
atom_made leaves a place (atom.This i) m = with_primary place primary.This m
atom_made leaves a place (atom.Null i) m = with_primary place primary.Null m
atom_made leaves a place (atom.Bool b i) m = with_primary place (primary.Bool b) m
atom_made leaves a place (atom.Name i) m = name_made leaves a place i m
atom_made leaves a place (atom.Number i) m = with_primary place (primary.Number (number_at leaves i)) m
atom_made leaves a place (atom.Text i) m = with_primary place (primary.Text (units_at leaves i)) m
atom_made leaves a place atom.Hole m = one made_part.Hole m
atom_made leaves a place (atom.Shorthand i) m = one (made_part.Property (property.Shorthand (named leaves a.scopes i))) m
atom_made leaves a place (atom.Key i) m = one (made_part.Key (key.Fixed (key_at leaves i))) m
atom_made leaves a place (atom.Binding i) m = one (made_part.Bind (record { named = named leaves a.scopes i; value = None })) m
atom_made leaves a place (atom.Empty i) m = with_statement place statement.Empty m
atom_made leaves a place (atom.Break i) m = with_statement place statement.Break m
atom_made leaves a place (atom.Continue i) m = with_statement place statement.Continue m
atom_made leaves a place (atom.Return i) m = with_statement place (statement.Return None) m

-- a block with so many names: a statement, or a part of a `try` or of a catch
abbrev pub is_part : Role → Bool
is_part role.Block = true
is_part other = false

abbrev pub block_made : Place → Role → ℕ → List MadePart → Made → PartWithMade
block_made place r count items m =
    if is_part r then one (made_part.Block (record { names = count; items = nodes_in items })) m
    else with_statement place (statement.Block (record { names = count; items = nodes_in items })) m

abbrev pub wrap_made : List Leaf → Around → Around → Place → Wrap → MadeParts → Made → PartWithMade
wrap_made leaves a inner place (wrap.Parenthesis i) x m = part x m
wrap_made leaves a inner place (wrap.Unary op i) x m = with_one (node_of x) m (λ n. with_operator place (operator.Unary op n) m)
wrap_made leaves a inner place (wrap.Update up before i) x m = with_operator place (operator.Update up before (target_of (item_of x))) m
wrap_made leaves a inner place (wrap.Member dot word) x m =
    with_one (node_of x) m (λ n. accessed place (place_of leaves (Some dot)) a.role (λ read write. access.Member n (units_at leaves word) read write) m)
wrap_made leaves a inner place (wrap.Array i) xs m = with_primary place (primary.Array (elements_in (parts_of xs))) m
wrap_made leaves a inner place (wrap.Object i) xs m = with_object place (parts_of xs) m
wrap_made leaves a inner place (wrap.Computed i) x m = with_one (node_of x) m (λ n. one (made_part.Key (key.Computed n)) m)
wrap_made leaves a inner place (wrap.Binding i) x m =
    one (made_part.Bind (record { named = named leaves a.scopes i; value = node_of x })) m
wrap_made leaves a inner place (wrap.Lexical constant i) xs m = with_statement place (statement.Lexical constant (binds_in (parts_of xs))) m
wrap_made leaves a inner place (wrap.Block i) xs m = block_made place a.role (names_in inner.scopes) (parts_of xs) m
wrap_made leaves a inner place wrap.Evaluate x m = with_one (node_of x) m (λ n. with_statement place (statement.Expression n) m)
wrap_made leaves a inner place (wrap.Return i) x m = with_statement place (statement.Return (node_of x)) m
wrap_made leaves a inner place (wrap.Throw i) x m = with_one (node_of x) m (λ n. with_statement place (statement.Throw n) m)
wrap_made leaves a inner place wrap.Catch x m = one (made_part.Catch (record { parameter = None; block = block_of (item_of x) })) m
wrap_made leaves a inner place (wrap.CatchName i) x m =
    one (made_part.Catch (record { parameter = Some (named leaves inner.scopes i); block = block_of (item_of x) })) m

-- a comma list, or the front of one
abbrev pub is_front : Role → Bool
is_front role.Listed = true
is_front other = false

abbrev pub comma_made : Place → Role → List MadePart → Made → PartWithMade
comma_made place r items m = if is_front r then many items m else with_operator place (operator.Comma (nodes_in items)) m

-- `__proto__: value` with a written name sets the prototype (13.2.5.5)
abbrev pub sets_prototype : List Leaf → ParseTree → Bool
sets_prototype leaves (parse_tree.Atom (atom.Key i)) = bytes_eq (units_at leaves i) (codes "__proto__")
sets_prototype leaves other = false

abbrev pub property_of : Bool → MadePart → NodeId → Property
property_of sets name n = if sets then property.Prototype n else property.Value (key_of name) n

-- a function expression, or a declared function, which is no node
abbrev pub expression_made : List Leaf → Around → Place → Option ℕ → ℕ → ParseTree → List MadePart → Made → PartWithMade
expression_made leaves inner place own count code items m =
    with_primary place (primary.Function (next_function m)) (function_made leaves inner place true own count code items m)

abbrev pub declaration_made : List Leaf → Around → Around → Place → ℕ → ℕ → ParseTree → List MadePart → Made → PartWithMade
declaration_made leaves a inner place name count code items m =
    one (made_part.Function (next_function m) (named leaves a.scopes name)) (function_made leaves inner place true (Some name) count code items m)

abbrev pub pair_made : List Leaf → Around → Around → Place → Pair → ParseTree → ParseTree → MadeParts → MadeParts → Made → PartWithMade
pair_made leaves a inner place pair.And x y r q m = many (parts_of r ++ item_of q ∷ []) m
pair_made leaves a inner place pair.Comma x y r q m = comma_made place a.role (front_of r ++ item_of q ∷ []) m
pair_made leaves a inner place (pair.Assign op) x y r q m =
    with_one (node_of q) m (λ n. with_operator place (operator.Assign op (target_of (item_of r)) n) m)
pair_made leaves a inner place (pair.Short op) x y r q m = with_two (node_of r) (node_of q) m (λ l n. with_operator place (operator.Short op l n) m)
pair_made leaves a inner place (pair.Binary op) x y r q m = with_two (node_of r) (node_of q) m (λ l n. with_operator place (operator.Binary op l n) m)
pair_made leaves a inner place (pair.Index square) x y r q m =
    with_two (node_of r) (node_of q) m
    (λ l n. accessed place (place_of leaves (Some square)) a.role (λ read write. access.Index l n read write) m)
pair_made leaves a inner place pair.Call x y r q m = with_one (node_of r) m (λ n. with_access place (access.Call n (nodes_in (parts_of q))) m)
pair_made leaves a inner place (pair.New i) x y r q m = with_one (node_of r) m (λ n. with_access place (access.New n (nodes_in (parts_of q))) m)
pair_made leaves a inner place (pair.Function i) x y r q m = expression_made leaves inner place None (length (parts_of r)) y (parts_of q) m
pair_made leaves a inner place (pair.NamedFunction i name) x y r q m =
    expression_made leaves inner place (Some name) (length (parts_of r)) y (parts_of q) m
pair_made leaves a inner place (pair.DeclaredFunction i name) x y r q m =
    declaration_made leaves a inner place name (length (parts_of r)) y (parts_of q) m
pair_made leaves a inner place pair.Property x y r q m =
    with_one (node_of q) m (λ n. one (made_part.Property (property_of (sets_prototype leaves x) (item_of r) n)) m)
pair_made leaves a inner place (pair.Getter i) x y r q m =
    method_made leaves inner place (λ n. property.Getter (key_of (item_of r)) n) 0 y (parts_of q) m
pair_made leaves a inner place (pair.Setter i parameter) x y r q m =
    method_made leaves inner place (λ n. property.Setter (key_of (item_of r)) n) 1 y (parts_of q) m
pair_made leaves a inner place (pair.If i) x y r q m = with_two (node_of r) (node_of q) m (λ l n. with_statement place (statement.If l n None) m)
pair_made leaves a inner place (pair.While i) x y r q m = with_two (node_of r) (node_of q) m (λ l n. with_statement place (statement.While l n) m)

abbrev pub triple_made : List Leaf → Around → Place → Triple → ParseTree → MadeParts → MadeParts → MadeParts → Made → PartWithMade
triple_made leaves inner place triple.Conditional z r q p m =
    with_three (node_of r) (node_of q) (node_of p) m (λ c l n. with_operator place (operator.Conditional c l n) m)
triple_made leaves inner place (triple.IfElse i) z r q p m =
    with_two (node_of r) (node_of q) m (λ l n. with_statement place (statement.If l n (node_of p)) m)
triple_made leaves inner place triple.Method z r q p m =
    method_made leaves inner place (λ n. property.Method (key_of (item_of r)) n) (length (parts_of q)) z (parts_of p) m
triple_made leaves inner place (triple.Try i) z r q p m =
    with_statement place (statement.Try (block_of (item_of r)) (optional_catch (item_of q)) (optional_block (item_of p))) m

abbrev pub for_made : Around → Place → MadeParts → MadeParts → MadeParts → MadeParts → Made → PartWithMade
for_made inner place r q p o m =
    with_one (node_of o) m
    (λ n. with_statement place (statement.For (names_in inner.scopes) (node_of r) (node_of q) (node_of p) n) m)

-- ---- the tree of a part, within what stands around it, after all that stands before it in the source: its parts in their order, and then itself

abbrev pub place_in : List Leaf → ParseTree → Place
place_in leaves x = place_of leaves (first_token x)

abbrev pub made : List Leaf → Around → ParseTree → Made → PartWithMade
made leaves a (parse_tree.Atom f) m = atom_made leaves a (place_in leaves (parse_tree.Atom f)) f m
made leaves a (parse_tree.Wrap f x) m =
    let inner = in_wrap leaves a f x in
    let r = made leaves inner x m in
    wrap_made leaves a inner (place_in leaves (parse_tree.Wrap f x)) f r.value r.made
made leaves a (parse_tree.Pair f x y) m =
    let inner = in_pair leaves a f x y in
    let r = made leaves (before_pair a inner f) x m in
    let q = made leaves inner y r.made in
    pair_made leaves a inner (place_in leaves (parse_tree.Pair f x y)) f x y r.value q.value q.made
made leaves a (parse_tree.Triple f x y z) m =
    let inner = in_triple leaves a f y z in
    let r = made leaves (before_triple a f) x m in
    let q = made leaves inner y r.made in
    let p = made leaves (after_triple inner f) z q.made in
    triple_made leaves inner (place_in leaves (parse_tree.Triple f x y z)) f z r.value q.value p.value p.made
made leaves a (parse_tree.Quad f x y z w) m =
    let inner = in_for leaves a x in
    let r = made leaves inner x m in
    let q = made leaves inner y r.made in
    let p = made leaves inner z q.made in
    let o = made leaves inner w p.made in
    for_made inner (place_in leaves (parse_tree.Quad f x y z w)) r.value q.value p.value o.value o.made

-- ---- the script

abbrev pub around_script : List Leaf → ParseTree → Around
around_script leaves items = around (script_scope leaves (declared_in items) ∷ []) (is_strict leaves items) role.Plain

-- the script's own code, with so many names
abbrev pub script_body : ℕ → List MadePart → Body
script_body count items = record { name = None; names = count; arguments = false; declared = functions_in items; items = nodes_in items }

abbrev pub script_tree : Made → Body → (strict : Bool) → Checked
script_tree m code strict = tree_of m.nodes m.places m.functions m.bodies m.literals m.sites code strict

-- the tree of a script without a fault
abbrev pub checked_tree : List Leaf → ParseTree → Checked
checked_tree leaves items =
    let inner = around_script leaves items in
    let r = made leaves inner items nothing_made in
    script_tree r.made (script_body (names_in inner.scopes) (parts_of r.value)) inner.strict
