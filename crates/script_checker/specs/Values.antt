-- What the parts of a script become in its tree: a part of the kind that its place in the grammar gives, and lists of such parts.
use Rattle.std.specs.Prelude.{ℕ, Bool, not, List, [], ◌∷◌, bytes_eq, Option, Some, None}
use Rattle.std.specs.List.{list_any}
use Rattle.es_tree.specs.declared.body.DeclaredFunction.{DeclaredFunction}
use Rattle.es_tree.specs.declared.numbers.FunctionNo.{FunctionNo}
use Rattle.es_tree.specs.declared.numbers.NodeId.{NodeId}
use Rattle.es_tree.specs.declared.names.Named.{Named}
use Rattle.es_tree.specs.declared.names.Target.{Target}
use Rattle.es_tree.specs.declared.names.Target.TheVariants as target
use Rattle.es_tree.specs.declared.names.Binding.TheVariants as binding
use Rattle.es_tree.specs.declared.statements.Block.{Block}
use Rattle.es_tree.specs.declared.statements.Catch.{Catch}
use Rattle.es_tree.specs.declared.statements.Declared.{Declared}
use Rattle.es_tree.specs.declared.primaries.Key.{Key}
use Rattle.es_tree.specs.declared.primaries.Key.TheVariants as key
use Rattle.es_tree.specs.declared.primaries.Property.{Property}
use Rattle.script_checker.specs.declared.made_parts.MadePart.{MadePart}
use Rattle.script_checker.specs.declared.made_parts.MadePart.TheVariants as made_part
use Rattle.script_checker.specs.declared.made_parts.MadeParts.{MadeParts}
use Rattle.script_checker.specs.declared.made_parts.MadeParts.TheVariants as made_parts

-- ---- a part

-- a part that may be left out
abbrev pub optional_node : MadePart → Option NodeId
optional_node (made_part.Node n) = Some n
optional_node other = None

abbrev pub no_name : Named
no_name = record { name = []; binding = binding.Global }

abbrev pub target_of : MadePart → Target
target_of (made_part.Node n) = target.Access n
target_of (made_part.Name named) = target.Name named
target_of other = target.Name no_name

abbrev pub key_of : MadePart → Key
key_of (made_part.Key k) = k
key_of other = key.Fixed []

abbrev pub no_block : Block
no_block = record { names = 0; items = [] }

abbrev pub block_of : MadePart → Block
block_of (made_part.Block b) = b
block_of other = no_block

abbrev pub optional_block : MadePart → Option Block
optional_block (made_part.Block b) = Some b
optional_block other = None

abbrev pub optional_catch : MadePart → Option Catch
optional_catch (made_part.Catch c) = Some c
optional_catch other = None

-- ---- lists

abbrev pub item_of : MadeParts → MadePart
item_of (made_parts.One x) = x
item_of (made_parts.Many items) = made_part.Nothing

-- a part that is a node, if it is one
abbrev pub node_of : MadeParts → Option NodeId
node_of v = optional_node (item_of v)

abbrev pub parts_of : MadeParts → List MadePart
parts_of (made_parts.One x) = []
parts_of (made_parts.Many items) = items

-- the front of a comma list, or its first expression
abbrev pub front_of : MadeParts → List MadePart
front_of (made_parts.One x) = x ∷ []
front_of (made_parts.Many items) = items

abbrev pub nodes_in : List MadePart → List NodeId
nodes_in [] = []
nodes_in (made_part.Node n ∷ items) = n ∷ nodes_in items
nodes_in (other ∷ items) = nodes_in items

abbrev pub elements_in : List MadePart → List (Option NodeId)
elements_in [] = []
elements_in (x ∷ items) = optional_node x ∷ elements_in items

abbrev pub binds_in : List MadePart → List Declared
binds_in [] = []
binds_in (made_part.Bind d ∷ items) = d ∷ binds_in items
binds_in (other ∷ items) = binds_in items

abbrev pub properties_in : List MadePart → List Property
properties_in [] = []
properties_in (made_part.Property p ∷ items) = p ∷ properties_in items
properties_in (other ∷ items) = properties_in items

abbrev pub is_named : List ℕ → DeclaredFunction → Bool
is_named units f = bytes_eq units f.named.name

abbrev pub function_of : MadePart → Option (FunctionNo × Named)
function_of (made_part.Function f own) = Some (f, own)
function_of other = None

-- a declared function with those after it: it is the last one of its name where none of them has it
abbrev pub with_function : Option (FunctionNo × Named) → List DeclaredFunction → List DeclaredFunction
with_function None later = later
with_function (Some f) later = record { function = f.0; named = f.1; is_last = not (list_any (is_named f.1.name) later) } ∷ later

abbrev pub functions_in : List MadePart → List DeclaredFunction
functions_in [] = []
functions_in (x ∷ items) = with_function (function_of x) (functions_in items)
