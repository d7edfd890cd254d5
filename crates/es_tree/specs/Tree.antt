-- The syntax tree in a list of nodes: a child's number is below its parent's.
use Rattle.std.specs.Prelude.{◌≡◌, ◌<◌, ◌++◌, ◌∷◌, [], ◌^◌, ⊤, ℕ, Bool, false, List, Option, Some, None, flat_map, length, slice_get, option_to_list}
use Rattle.std.specs.List.{AllByRecursion}
use Rattle.es_tree.specs.declared.numbers.FunctionNo.{FunctionNo}
use Rattle.es_tree.specs.declared.numbers.NodeId.{NodeId}
use Rattle.es_tree.specs.declared.numbers.SiteId.{SiteId}
use Rattle.es_tree.specs.declared.names.Target.{Target}
use Rattle.es_tree.specs.declared.names.Target.TheVariants as target
use Rattle.es_tree.specs.declared.body.Body.{Body}
use Rattle.es_tree.specs.declared.body.DeclaredFunction.{DeclaredFunction}
use Rattle.es_source.specs.declared.place.Place.{Place}
use Rattle.es_tree.specs.declared.statements.Block.{Block}
use Rattle.es_tree.specs.declared.statements.Catch.{Catch}
use Rattle.es_tree.specs.declared.statements.Declared.{Declared}
use Rattle.es_tree.specs.declared.statements.Statement.{Statement}
use Rattle.es_tree.specs.declared.statements.Statement.TheVariants as statement
use Rattle.es_tree.specs.declared.expressions.Operator.{Operator}
use Rattle.es_tree.specs.declared.expressions.Operator.TheVariants as operator
use Rattle.es_tree.specs.declared.expressions.Access.{Access}
use Rattle.es_tree.specs.declared.expressions.Access.TheVariants as access
use Rattle.es_tree.specs.declared.primaries.Key.{Key}
use Rattle.es_tree.specs.declared.primaries.Key.TheVariants as key
use Rattle.es_tree.specs.declared.primaries.Property.{Property}
use Rattle.es_tree.specs.declared.primaries.Property.TheVariants as property
use Rattle.es_tree.specs.declared.primaries.Primary.{Primary}
use Rattle.es_tree.specs.declared.primaries.Primary.TheVariants as primary
use Rattle.es_tree.specs.declared.node.Node.{Node}
use Rattle.es_tree.specs.declared.node.Node.TheVariants as node
use Rattle.es_tree.specs.declared.facts.FunctionFacts.{FunctionFacts}
use Rattle.es_tree.specs.declared.facts.LiteralFacts.{LiteralFacts}
use Rattle.es_tree.specs.declared.facts.SiteFacts.{SiteFacts}

-- The nodes of a script with the places of their first tokens, its functions with their code, its object literals and its sites, each named by its place, and
-- the script's own code, and whether that is strict.
pub record Tree : Type 0 where
  pub nodes : List Node
  pub places : List Place
  pub functions : List FunctionFacts
  pub bodies : List Body
  pub literals : List LiteralFacts
  pub sites : List SiteFacts
  pub script : Body
  pub strict : Bool

abbrev pub tree_of : List Node → List Place → List FunctionFacts → List Body → List LiteralFacts → List SiteFacts → Body → Bool → Tree
tree_of all_nodes all_places all_functions all_bodies all_literals all_sites code is_strict_code = record {
  nodes = all_nodes;
  places = all_places;
  functions = all_functions;
  bodies = all_bodies;
  literals = all_literals;
  sites = all_sites;
  script = code;
  strict = is_strict_code;
}

-- a script without items
abbrev pub empty_body : Body
empty_body = record { name = None; names = 0; arguments = false; declared = []; items = [] }

abbrev pub empty_tree : Tree
empty_tree = tree_of [] [] [] [] [] [] empty_body false

-- how many lexical names the script's top scope has (16.1.7)
abbrev pub top_names : Tree → ℕ
top_names tree = tree.script.names

abbrev pub optional : Option NodeId → List NodeId
optional child = option_to_list child

abbrev pub target_children : Target → List NodeId
target_children (target.Name named) = []
target_children (target.Access child) = child ∷ []

abbrev pub catch_children : Option Catch → List NodeId
catch_children None = []
catch_children (Some catch) = catch.block.items

abbrev pub last_children : Option Block → List NodeId
last_children None = []
last_children (Some block) = block.items

abbrev pub statement_children : Statement → List NodeId
statement_children (statement.Block block) = block.items
statement_children (statement.Lexical constant names) = flat_map (λ (d : Declared). optional d.value) names
statement_children statement.Empty = []
statement_children (statement.Expression child) = child ∷ []
statement_children (statement.If test then otherwise) = test ∷ then ∷ optional otherwise
statement_children (statement.While test body) = test ∷ body ∷ []
statement_children (statement.For names first test step body) = optional first ++ optional test ++ optional step ++ body ∷ []
statement_children statement.Break = []
statement_children statement.Continue = []
statement_children (statement.Return value) = optional value
statement_children (statement.Throw value) = value ∷ []
statement_children (statement.Try block catch finally) = block.items ++ catch_children catch ++ last_children finally

abbrev pub operator_children : Operator → List NodeId
operator_children (operator.Comma items) = items
operator_children (operator.Assign kind place value) = target_children place ++ value ∷ []
operator_children (operator.Update increment prefix place) = target_children place
operator_children (operator.Conditional test then otherwise) = test ∷ then ∷ otherwise ∷ []
operator_children (operator.Short kind left right) = left ∷ right ∷ []
operator_children (operator.Binary kind left right) = left ∷ right ∷ []
operator_children (operator.Unary kind operand) = operand ∷ []

abbrev pub access_children : Access → List NodeId
access_children (access.Member base name read write) = base ∷ []
access_children (access.Index base index read write) = base ∷ index ∷ []
access_children (access.Call callee arguments) = callee ∷ arguments
access_children (access.New callee arguments) = callee ∷ arguments

abbrev pub key_children : Key → List NodeId
key_children (key.Fixed text) = []
key_children (key.Computed child) = child ∷ []

abbrev pub property_children : Property → List NodeId
property_children (property.Value name child) = key_children name ++ child ∷ []
property_children (property.Shorthand named) = []
property_children (property.Prototype child) = child ∷ []
property_children (property.Method name child) = key_children name ++ child ∷ []
property_children (property.Getter name child) = key_children name ++ child ∷ []
property_children (property.Setter name child) = key_children name ++ child ∷ []

abbrev pub primary_children : Primary → List NodeId
primary_children (primary.Array elements) = flat_map optional elements
primary_children (primary.Object literal properties) = flat_map property_children properties
primary_children _ = []

-- the parts of a node that are nodes of their own, in the order of the source
abbrev pub children_of : Node → List NodeId
children_of (node.Statement s) = statement_children s
children_of (node.Operator o) = operator_children o
children_of (node.Access a) = access_children a
children_of (node.Primary p) = primary_children p

-- each child's number is below its parent's
abbrev pub IsOrdered : List Node → Type 0
IsOrdered nodes = (n : ℕ) (parent : Node) → slice_get nodes n ≡ Some parent → AllByRecursion (λ (child : NodeId). child.0 < n) (children_of parent)

-- ---- a node names functions, literals and sites that are there

abbrev pub IsSite : Tree → Option SiteId → Type 0
IsSite tree None = ⊤
IsSite tree (Some site) = site.0 < length tree.sites

abbrev pub IsFunction : Tree → FunctionNo → Type 0
IsFunction tree function = function.0 < length tree.functions

abbrev pub NamesSites : Tree → Access → Type 0
NamesSites tree (access.Member base name read write) = IsSite tree read × IsSite tree write
NamesSites tree (access.Index base index read write) = IsSite tree read × IsSite tree write
NamesSites tree other = ⊤

abbrev pub NamesParts : Tree → Primary → Type 0
NamesParts tree (primary.Object literal properties) = literal.0 < length tree.literals
NamesParts tree (primary.Function function) = IsFunction tree function
NamesParts tree (primary.Method function) = IsFunction tree function
NamesParts tree other = ⊤

abbrev pub NamesKnown : Tree → Node → Type 0
NamesKnown tree (node.Access a) = NamesSites tree a
NamesKnown tree (node.Primary p) = NamesParts tree p
NamesKnown tree other = ⊤

-- the statements and the declared functions of a body are there
pub record IsBody (tree : Tree) (body : Body) : Type 0 where
  pub items : AllByRecursion (λ (n : NodeId). n.0 < length tree.nodes) body.items
  pub declared : AllByRecursion (λ (d : DeclaredFunction). IsFunction tree d.function) body.declared

-- ---- there are fewer than 2^32 of each, a place for each node and a body for each function
pub record IsCounted (tree : Tree) : Type 0 where
  pub nodes : length tree.nodes < 2 ^ 32
  pub functions : length tree.functions < 2 ^ 32
  pub literals : length tree.literals < 2 ^ 32
  pub sites : length tree.sites < 2 ^ 32
  pub places : length tree.places ≡ length tree.nodes
  pub bodies : length tree.bodies ≡ length tree.functions

pub record IsTree (tree : Tree) : Type 0 where
  pub counted : IsCounted tree
  pub ordered : IsOrdered tree.nodes
  pub known : AllByRecursion (NamesKnown tree) tree.nodes
  pub bodies : AllByRecursion (IsBody tree) tree.bodies
  pub script : IsBody tree tree.script
