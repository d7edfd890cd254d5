-- Worked examples of functions of the script: what calls of them and constructions by them come to, and what a script declares. Worked out by hand from 10.2,
-- 14.10, 15.2 and 16.1.7 of ECMA-262. Each node that is evaluated takes a turn, and so does each declared function that is made. There are twenty turns, and
-- the requests are marked and answered as in the examples of evaluation.
use Rattle.std.specs.Prelude.{◌≡◌, ℕ, Bool, true, false, Option, Some, None, List, [], ◌∷◌, codes, length, pos, slice_get}
use Rattle.property_keys.specs.declared.identifiers.ObjectId.{ObjectId}
use Rattle.property_keys.specs.declared.values.Value.{Value}
use Rattle.property_keys.specs.declared.values.Value.TheVariants as value
use Rattle.es_tree.specs.declared.body.Body.{Body}
use Rattle.es_tree.specs.declared.body.DeclaredFunction.{DeclaredFunction}
use Rattle.es_tree.specs.declared.facts.FunctionFacts.{FunctionFacts}
use Rattle.es_tree.specs.declared.expressions.AssignOperator.TheVariants as assign_operator
use Rattle.es_tree.specs.declared.names.Binding.TheVariants as binding
use Rattle.es_tree.specs.declared.names.Named.{Named}
use Rattle.es_tree.specs.declared.node.Node.{Node}
use Rattle.es_tree.specs.declared.node.Node.TheVariants as node
use Rattle.es_tree.specs.declared.numbers.FunctionNo.{FunctionNo}
use Rattle.es_tree.specs.declared.numbers.NodeId.{NodeId}
use Rattle.es_tree.specs.declared.primaries.Primary.TheVariants as primary
use Rattle.es_tree.specs.declared.statements.Statement.TheVariants as statement
use Rattle.es_tree.specs.Tree.{Tree, empty_body, tree_of}
use Rattle.es_model.specs.declared.intrinsics.Class.TheVariants as class
use Rattle.es_model.specs.declared.intrinsics.Intrinsic.TheVariants as intrinsic
use Rattle.es_model.specs.Completions.{Completion, Break, Throw}
use Rattle.es_model.specs.StartObjects.{object_of}
use Rattle.es_model.specs.Objects.{Object, object_at}
use Rattle.es_model.specs.World.{World}
use Rattle.es_model.specs.Program.{Outcome, Ended, Halt, Program, run}
use Rattle.evaluator.specs.Functions.{call_program, construct_answered, construct_program, script_program}
use Rattle.small_worlds.specs.Conversations.{type_error}
use Rattle.small_worlds.specs.Evaluations.{fails, puts, reference_error, served, the, to, usual}
use Rattle.small_worlds.specs.SmallWorlds.{at, gives, object, plain, whole}

-- ---- functions and their bodies

abbrev pub function_at : ℕ → FunctionNo
function_at f = record { 0 = f }

-- a function with so many parameters
abbrev pub facts_of : ℕ → (constructor strict : Bool) → FunctionFacts
facts_of n constructor strict =
    record { place = record { line = 1; column = 1 }; parameters = n; this_names = 0; constructor = constructor; strict = strict }

-- the code of a function with so many names
abbrev pub code_of : ℕ → List DeclaredFunction → List NodeId → Body
code_of n declared items = record { name = None; names = n; arguments = false; declared = declared; items = items }

abbrev pub own : List ℕ → ℕ → Named
own units place = record { name = units; binding = binding.Own place false }

abbrev pub declared_as : Named → ℕ → Bool → DeclaredFunction
declared_as named f is_last = record { function = function_at f; named = named; is_last = is_last }

-- a function's own name, where nothing of its body has that name
abbrev pub own_name : Named
own_name = record { name = codes "f"; binding = binding.Callee }

-- the nodes of all examples: `return a`, `return b`, `return this`, `return 7`, `throw 7`, `7;`, `return f`, and `f = 7;`
abbrev pub nodes : List Node
nodes =
    node.Primary (primary.Name (own (codes "a") 0)) ∷ node.Statement (statement.Return (Some (the 0)))
    ∷ node.Primary (primary.Name (own (codes "b") 1)) ∷ node.Statement (statement.Return (Some (the 2)))
    ∷ node.Primary primary.This ∷ node.Statement (statement.Return (Some (the 4)))
    ∷ node.Primary (primary.Number (pos 7)) ∷ node.Statement (statement.Return (Some (the 6)))
    ∷ node.Statement (statement.Throw (the 6)) ∷ node.Statement (statement.Expression (the 6))
    ∷ node.Primary (primary.Name own_name) ∷ node.Statement (statement.Return (Some (the 10)))
    ∷ puts assign_operator.Plain (to own_name) 6 ∷ node.Statement (statement.Expression (the 12)) ∷ []

abbrev pub return_a : NodeId
return_a = the 1

abbrev pub return_b : NodeId
return_b = the 3

abbrev pub return_this : NodeId
return_this = the 5

abbrev pub return_seven : NodeId
return_seven = the 7

abbrev pub throw_seven : NodeId
throw_seven = the 8

abbrev pub seven : NodeId
seven = the 9

abbrev pub return_own : NodeId
return_own = the 11

abbrev pub put_own : NodeId
put_own = the 13

abbrev pub script_of : List FunctionFacts → List Body → Body → Tree
script_of functions bodies code = tree_of nodes [] functions bodies [] [] code false

-- a script of one function in strict code, or in other code
abbrev pub strict_of : ℕ → Body → Tree
strict_of parameters code = script_of (facts_of parameters true true ∷ []) (code ∷ []) empty_body

abbrev pub loose_of : ℕ → Body → Tree
loose_of parameters code = script_of (facts_of parameters true false ∷ []) (code ∷ []) empty_body

-- ---- the world: two objects, of which the first is the global object

abbrev pub scene : Tree → ℕ → World
scene script turns = record {
  script = script;
  lists = record { objects = plain None [] ∷ plain None [] ∷ []; texts = []; symbols = []; cells = [] };
  turns = turns;
  trace = [];
  printed = [];
}

abbrev pub runs : Tree → ℕ → Program → Outcome
runs script turns p = run (served usual 40) p 0 (scene script turns)

-- how a run ends, the turns that are left, and the marks
abbrev pub sees : Outcome → Completion × ℕ × List ℕ
sees (Ended c w n) = (c, w.turns, w.printed)
sees (Halt w n) = (Break, w.turns, w.printed)

-- ---- calls

abbrev pub called : Tree → Value → List Value → Outcome
called script this vs = runs script 20 (call_program script (function_at 0) (at 1) this vs)

-- function () {}
abbrev pub EmptyBodyGivesUndefined : Type 0
EmptyBodyGivesUndefined = sees (called (strict_of 0 (code_of 0 [] [])) value.Undefined []) ≡ (gives value.Undefined, 20, [])

-- function (a) { return a; }
abbrev pub first_given : Tree
first_given = strict_of 1 (code_of 1 [] (return_a ∷ []))

abbrev pub ArgumentIsBound : Type 0
ArgumentIsBound = sees (called first_given value.Undefined (whole 5 ∷ [])) ≡ (gives (whole 5), 18, [])

abbrev pub NoArgumentIsUndefined : Type 0
NoArgumentIsUndefined = sees (called first_given value.Undefined []) ≡ (gives value.Undefined, 18, [])

abbrev pub MoreArgumentsAreDropped : Type 0
MoreArgumentsAreDropped = sees (called first_given value.Undefined (whole 1 ∷ whole 2 ∷ whole 3 ∷ [])) ≡ (gives (whole 1), 18, [])

-- function (a, b) { return b; }
abbrev pub second_given : Tree
second_given = strict_of 2 (code_of 2 [] (return_b ∷ []))

abbrev pub SecondIsBound : Type 0
SecondIsBound = sees (called second_given value.Undefined (whole 1 ∷ whole 2 ∷ [])) ≡ (gives (whole 2), 18, [])

abbrev pub SecondIsUndefined : Type 0
SecondIsUndefined = sees (called second_given value.Undefined (whole 1 ∷ [])) ≡ (gives value.Undefined, 18, [])

-- function () { return this; } in strict code and in other code. Object 0 is the global object
abbrev pub strict_this : Tree
strict_this = strict_of 0 (code_of 0 [] (return_this ∷ []))

abbrev pub loose_this : Tree
loose_this = loose_of 0 (code_of 0 [] (return_this ∷ []))

abbrev pub StrictReceiverIsKept : Type 0
StrictReceiverIsKept = sees (called strict_this value.Undefined []) ≡ (gives value.Undefined, 18, [])

abbrev pub StrictNumberIsKept : Type 0
StrictNumberIsKept = sees (called strict_this (whole 5) []) ≡ (gives (whole 5), 18, [])

abbrev pub UndefinedIsGlobal : Type 0
UndefinedIsGlobal = sees (called loose_this value.Undefined []) ≡ (gives (object 0), 18, [])

abbrev pub NullIsGlobal : Type 0
NullIsGlobal = sees (called loose_this value.Null []) ≡ (gives (object 0), 18, [])

abbrev pub NumberIsWrapped : Type 0
NumberIsWrapped = sees (called loose_this (whole 5) []) ≡ (gives (object 2), 18, [])

abbrev pub ObjectIsReceiver : Type 0
ObjectIsReceiver = sees (called loose_this (object 1) []) ≡ (gives (object 1), 18, [])

-- function f() { return f; }: the function's object is object 1
abbrev pub OwnNameIsCallee : Type 0
OwnNameIsCallee = sees (called (strict_of 0 (code_of 0 [] (return_own ∷ []))) value.Undefined []) ≡ (gives (object 1), 18, [])

-- function f() { f = 7; } in strict code, and in other code
abbrev pub put_itself : Body
put_itself = code_of 0 [] (put_own ∷ [])

abbrev pub OwnNameIsConstant : Type 0
OwnNameIsConstant = fails (called (strict_of 0 put_itself) value.Undefined []) ≡ (type_error (codes "f is constant"), 17, [])

abbrev pub OwnNameIsNotPut : Type 0
OwnNameIsNotPut = sees (called (loose_of 0 put_itself) value.Undefined []) ≡ (gives value.Undefined, 17, [])

-- function () { throw 7; }
abbrev pub ThrowPasses : Type 0
ThrowPasses = sees (called (strict_of 0 (code_of 0 [] (throw_seven ∷ []))) value.Undefined []) ≡ (Throw (whole 7), 18, [])

-- function () { 7; }
abbrev pub LastValueIsDropped : Type 0
LastValueIsDropped = sees (called (strict_of 0 (code_of 0 [] (seven ∷ []))) value.Undefined []) ≡ (gives value.Undefined, 18, [])

-- function () { return 7; throw 7; }
abbrev pub ReturnLeaves : Type 0
ReturnLeaves = sees (called (strict_of 0 (code_of 0 [] (return_seven ∷ throw_seven ∷ []))) value.Undefined []) ≡ (gives (whole 7), 18, [])

-- function () { 7; return 7; } with three turns
abbrev pub HaltsInBody : Type 0
HaltsInBody =
    let script : Tree = strict_of 0 (code_of 0 [] (seven ∷ return_seven ∷ [])) in
    sees (runs script 3 (call_program script (function_at 0) (at 1) value.Undefined [])) ≡ (Break, 0, [])

-- a function that the script has not
abbrev pub NoFunctionThrows : Type 0
NoFunctionThrows = sees (called (script_of [] [] empty_body) value.Undefined []) ≡ (Throw value.Undefined, 20, [])

-- ---- declared functions and lexical names of a body

-- function (a) { return a; function a() {} }: the function takes the parameter's cell. It is object 2, and takes a turn
abbrev pub declared_over : Tree
declared_over =
    script_of (facts_of 1 true true ∷ facts_of 0 false true ∷ []) (code_of 1 (declared_as (own (codes "a") 0) 1 true ∷ []) (return_a ∷ []) ∷ code_of 0 [] [] ∷ [])
    empty_body

abbrev pub DeclaredTakesParameter : Type 0
DeclaredTakesParameter = sees (called declared_over value.Undefined (whole 5 ∷ [])) ≡ (gives (object 2), 17, [])

-- function () { return a; function a() {} function a() {} }: the last is made alone
abbrev pub declared_twice : Tree
declared_twice =
    script_of (facts_of 0 true true ∷ facts_of 0 false true ∷ facts_of 1 false true ∷ [])
    (code_of 1 (declared_as (own (codes "a") 0) 1 false ∷ declared_as (own (codes "a") 0) 2 true ∷ []) (return_a ∷ []) ∷ code_of 0 [] [] ∷ code_of 1 [] [] ∷ []) empty_body

abbrev pub LastDeclaredIsMade : Type 0
LastDeclaredIsMade = sees (called declared_twice value.Undefined []) ≡ (gives (object 2), 17, [])

-- no turn for it
abbrev pub HaltsAtDeclared : Type 0
HaltsAtDeclared = sees (runs declared_over 0 (call_program declared_over (function_at 0) (at 1) value.Undefined [])) ≡ (Break, 0, [])

-- function () { return a; let a; }
abbrev pub LexicalNameIsDead : Type 0
LexicalNameIsDead =
    fails (called (strict_of 0 (code_of 1 [] (return_a ∷ []))) value.Undefined []) ≡ (reference_error (codes "a is not initialised"), 18, [])

-- ---- constructions: the prototype of the new target has been asked for. The new object is object 2

abbrev pub constructed : Tree → List Value → Completion → Outcome
constructed script vs c = runs script 20 (construct_answered script (function_at 0) (at 1) vs (at 1) c)

abbrev pub NewObjectIsGiven : Type 0
NewObjectIsGiven = sees (constructed (strict_of 0 (code_of 0 [] [])) [] (gives (object 1))) ≡ (gives (object 2), 20, [])

abbrev pub PrimitiveIsDropped : Type 0
PrimitiveIsDropped = sees (constructed (strict_of 0 (code_of 0 [] (return_seven ∷ []))) [] (gives (object 1))) ≡ (gives (object 2), 18, [])

abbrev pub ObjectIsResult : Type 0
ObjectIsResult = sees (constructed first_given (object 0 ∷ []) (gives (object 1))) ≡ (gives (object 0), 18, [])

abbrev pub NewObjectIsReceiver : Type 0
NewObjectIsReceiver = sees (constructed loose_this [] (gives (object 1))) ≡ (gives (object 2), 18, [])

abbrev pub ThrowEndsConstruction : Type 0
ThrowEndsConstruction = sees (constructed (strict_of 0 (code_of 0 [] (throw_seven ∷ []))) [] (gives (object 1))) ≡ (Throw (whole 7), 18, [])

abbrev pub NoPrototypeThrows : Type 0
NoPrototypeThrows = sees (constructed first_given [] (Throw (whole 7))) ≡ (Throw (whole 7), 20, [])

-- how many events there are. A construction has its own, also where there is no prototype
abbrev pub events_of : Outcome → ℕ
events_of (Ended c w n) = length w.trace
events_of (Halt w n) = length w.trace

abbrev pub ThrowIsNoted : Type 0
ThrowIsNoted = events_of (constructed first_given [] (Throw (whole 7))) ≡ 1

-- the prototype of object 2 at the end
abbrev pub proto_in : Option Object → Option ObjectId
proto_in None = None
proto_in (Some o) = o.proto

abbrev pub proto_of_new : Outcome → Option ObjectId
proto_of_new (Ended c w n) = proto_in (slice_get w.lists.objects 2)
proto_of_new (Halt w n) = None

abbrev pub PrototypeIsTaken : Type 0
PrototypeIsTaken = proto_of_new (constructed first_given [] (gives (object 1))) ≡ Some (at 1)

abbrev pub OtherPrototypeIsTheRealms : Type 0
OtherPrototypeIsTheRealms = proto_of_new (constructed first_given [] (gives (whole 3))) ≡ Some (object_of (intrinsic.Prototype class.Object))

-- the prototype is asked for with the new target as the receiver, and the answer, 7, is none
abbrev pub PrototypeIsAskedFor : Type 0
PrototypeIsAskedFor =
    sees (runs first_given 20 (construct_program first_given (function_at 0) (at 1) (object 0 ∷ []) (at 1))) ≡ (gives (object 0), 18, 2 ∷ 201 ∷ [])

-- ---- scripts

-- function a() {}: it is a property of the global object, which is object 0
abbrev pub one_declared : Tree
one_declared =
    script_of (facts_of 0 false true ∷ []) (code_of 0 [] [] ∷ [])
    (record { name = None; names = 0; arguments = false; declared = declared_as (record { name = codes "a"; binding = binding.Global }) 0 true ∷ []; items = [] })

abbrev pub global_properties : Outcome → ℕ
global_properties (Ended c w n) = length (object_at w.lists.objects (at 0)).properties
global_properties (Halt w n) = 0

abbrev pub ScriptDeclares : Type 0
ScriptDeclares = sees (runs one_declared 20 (script_program one_declared)) ≡ (gives value.Undefined, 19, [])

abbrev pub DeclaredIsGlobal : Type 0
DeclaredIsGlobal = global_properties (runs one_declared 20 (script_program one_declared)) ≡ 1

-- let a, b: each has a cell without a value
abbrev pub two_names : Tree
two_names = script_of [] [] (code_of 2 [] [])

abbrev pub cells_of : Outcome → List (Option Value)
cells_of (Ended c w n) = w.lists.cells
cells_of (Halt w n) = []

abbrev pub TopNamesHaveCells : Type 0
TopNamesHaveCells = cells_of (runs two_names 20 (script_program two_names)) ≡ None ∷ None ∷ []

-- a script ends as a body does: the value of its last statement is dropped
abbrev pub ScriptGivesUndefined : Type 0
ScriptGivesUndefined =
    let script : Tree = script_of [] [] (code_of 0 [] (seven ∷ [])) in sees (runs script 20 (script_program script)) ≡ (gives value.Undefined, 18, [])
