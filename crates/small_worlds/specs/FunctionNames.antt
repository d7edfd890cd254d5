-- Worked examples of the names of functions, worked out by hand from 8.4.5, 10.2.9, 13.2.5.5, 13.15.2, 14.3.1.2, 15.2.5 and 15.4 of ECMA-262: where an
-- anonymous function, a method or an accessor gets its name, and from what.
use Rattle.std.specs.Prelude.{◌≡◌, ℕ, true, false, Option, Some, None, List, [], ◌∷◌, codes}
use Rattle.property_keys.specs.declared.keys.PropKey.TheVariants.{Name, Sym}
use Rattle.property_keys.specs.declared.values.Value.TheVariants as value
use Rattle.descriptors.specs.declared.property.Complete.{Complete}
use Rattle.descriptors.specs.declared.property.Complete.TheVariants as complete
use Rattle.es_tree.specs.declared.body.Body.{Body}
use Rattle.es_tree.specs.declared.expressions.AssignOperator.TheVariants as assign_operator
use Rattle.es_tree.specs.declared.names.Binding.TheVariants as binding
use Rattle.es_tree.specs.declared.names.Named.{Named}
use Rattle.es_tree.specs.declared.node.Node.{Node}
use Rattle.es_tree.specs.declared.node.Node.TheVariants as node
use Rattle.es_tree.specs.declared.primaries.Key.{Key}
use Rattle.es_tree.specs.declared.primaries.Key.TheVariants as key
use Rattle.es_tree.specs.declared.primaries.Primary.TheVariants as primary
use Rattle.es_tree.specs.declared.primaries.Property.{Property}
use Rattle.es_tree.specs.declared.primaries.Property.TheVariants as property
use Rattle.es_tree.specs.declared.statements.Statement.TheVariants as statement
use Rattle.es_tree.specs.Tree.{Tree, empty_body, tree_of}
use Rattle.es_model.specs.declared.answers.Reply.TheVariants as reply
use Rattle.es_model.specs.declared.requests.Operation.TheVariants as operation
use Rattle.es_model.specs.declared.requests.Request.TheVariants.{Work}
use Rattle.es_model.specs.Completions.{Normal}
use Rattle.es_model.specs.World.{World, Lists, number_of, own, units_of}
use Rattle.es_model.specs.Program.{Outcome, Ended, Halt, Evaluating}
use Rattle.small_worlds.specs.Evaluations.{Answers, block_of, body_of, number, puts, served, the, to, usual}
use Rattle.small_worlds.specs.FunctionRuns.{code_of, facts_of, function_at}
use Rattle.small_worlds.specs.SmallWorlds.{at, plain}

-- ---- a script with one function, which is no constructor; what is written before its parameters

abbrev pub with_code : List Node → Body → Tree
with_code nodes code = tree_of nodes [] (facts_of 0 false true ∷ []) (code ∷ []) [] [] empty_body false

-- an anonymous function, and one whose name is `f`
abbrev pub anonymous : List Node → Tree
anonymous nodes = with_code nodes (code_of 0 [] [])

abbrev pub called_f : List Node → Tree
called_f nodes = with_code nodes (record { name = Some (codes "f"); names = 0; arguments = false; declared = []; items = [] })

-- two objects are there, and two Symbols: one without a description, and one with `ab`
abbrev pub place : Tree → World
place script = record {
  script = script;
  lists = record { objects = plain None [] ∷ plain None [] ∷ []; texts = codes "ab" ∷ []; symbols = None ∷ Some (record { 0 = 0 }) ∷ []; cells = [] };
  turns = 20;
  trace = [];
  printed = [];
}

-- what a node comes to in strict code
abbrev pub comes_to : Answers → Tree → ℕ → Outcome
comes_to answers script n = served answers 30 0 (Evaluating (body_of true) [] None (the n)) (place script)

-- ---- the own property `name` of an object at the end

abbrev pub text_in : Lists → Option Complete → Option (List ℕ)
text_in l (Some (complete.Stored (value.Text t) flags)) = Some (units_of l t)
text_in l other = None

abbrev pub name_in : Lists → ℕ → Option (List ℕ)
name_in l o = text_in l (own l (at o) (Name (number_of l (codes "name"))))

abbrev pub name_of_object : ℕ → Outcome → Option (List ℕ)
name_of_object o (Ended c w n) = name_in w.lists o
name_of_object o (Halt w n) = None

-- ---- nodes: a function expression stands first

-- the name `k`, the first of a block
abbrev pub the_first : Named
the_first = record { name = codes "k"; binding = binding.Own 0 false }

abbrev pub an_expression : Node
an_expression = node.Primary (primary.Function (function_at 0))

abbrev pub a_method : Node
a_method = node.Primary (primary.Method (function_at 0))

-- function () {}: the empty text
abbrev pub NamelessIsEmpty : Type 0
NamelessIsEmpty = name_of_object 2 (comes_to usual (anonymous (an_expression ∷ [])) 0) ≡ Some []

-- function f() {}
abbrev pub WrittenNameIsGiven : Type 0
WrittenNameIsGiven = name_of_object 2 (comes_to usual (called_f (an_expression ∷ [])) 0) ≡ Some (codes "f")

-- { let k = function () {}; }, and the same with function f() {}
abbrev pub a_declaration : List Node
a_declaration =
    an_expression ∷ node.Statement (statement.Lexical false (record { named = the_first; value = Some (the 0) } ∷ []))
    ∷ node.Statement (statement.Block (block_of 1 (the 1 ∷ []))) ∷ []

abbrev pub BindingNames : Type 0
BindingNames = name_of_object 2 (comes_to usual (anonymous a_declaration) 2) ≡ Some (codes "k")

abbrev pub WrittenNameStays : Type 0
WrittenNameStays = name_of_object 2 (comes_to usual (called_f a_declaration) 2) ≡ Some (codes "f")

-- g = function () {}
abbrev pub an_assignment : List Node
an_assignment = an_expression ∷ puts assign_operator.Plain (to (record { name = codes "g"; binding = binding.Global })) 0 ∷ []

abbrev pub AssignmentNames : Type 0
AssignmentNames = name_of_object 2 (comes_to usual (anonymous an_assignment) 1) ≡ Some (codes "g")

-- ---- property definitions. The literal is object 2, the function object 3

abbrev pub literal_of : Property → List Node
literal_of p = an_expression ∷ a_method ∷ number 5 ∷ node.Primary (primary.Object (record { 0 = 0 }) (p ∷ [])) ∷ []

abbrev pub defined_by : Answers → Property → Option (List ℕ)
defined_by answers p = name_of_object 3 (comes_to answers (anonymous (literal_of p)) 3)

-- a text too long to be an array index
abbrev pub a_key : Key
a_key = key.Fixed (codes "description")

-- [5]
abbrev pub computed : Key
computed = key.Computed (the 2)

-- { description: function () {} }, { description() {} }, { get description() {} }, { set description() {} }
abbrev pub PropertyNames : Type 0
PropertyNames = defined_by usual (property.Value a_key (the 0)) ≡ Some (codes "description")

abbrev pub MethodIsNamed : Type 0
MethodIsNamed = defined_by usual (property.Method a_key (the 1)) ≡ Some (codes "description")

abbrev pub GetterIsNamed : Type 0
GetterIsNamed = defined_by usual (property.Getter a_key (the 1)) ≡ Some (codes "get description")

abbrev pub SetterIsNamed : Type 0
SetterIsNamed = defined_by usual (property.Setter a_key (the 1)) ≡ Some (codes "set description")

-- a function that has a name gets none
abbrev pub WrittenNameStaysInLiteral : Type 0
WrittenNameStaysInLiteral = name_of_object 3 (comes_to usual (called_f (literal_of (property.Value a_key (the 0)))) 3) ≡ Some (codes "f")

-- the key becomes a Symbol
abbrev pub to_symbol : ℕ → Answers
to_symbol s marks (Work operation.ToKey operands) = Normal (reply.Key (Sym (record { 0 = s })))
to_symbol s marks q = usual marks q

-- a Symbol without a description names by the empty text, one with a description by that in brackets
abbrev pub SymbolNames : Type 0
SymbolNames = defined_by (to_symbol 1) (property.Value computed (the 0)) ≡ Some (codes "[ab]")

abbrev pub BareSymbolNames : Type 0
BareSymbolNames = defined_by (to_symbol 0) (property.Method computed (the 1)) ≡ Some []

abbrev pub SymbolGetterIsNamed : Type 0
SymbolGetterIsNamed = defined_by (to_symbol 1) (property.Getter computed (the 1)) ≡ Some (codes "get [ab]")

abbrev pub BareSymbolSetterIsNamed : Type 0
BareSymbolSetterIsNamed = defined_by (to_symbol 0) (property.Setter computed (the 1)) ≡ Some (codes "set ")
