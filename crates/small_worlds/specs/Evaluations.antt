-- Worked examples of evaluation: what nodes come to over a small world, where each request is marked and answered by a table. Worked out by hand from clauses
-- 13 and 14 of ECMA-262 and from the order of names and member accesses. A node takes a turn. The number behind an outcome is that of the requests and parts.
use Rattle.std.specs.Prelude.{◌≡◌, ◌++◌, ◌+◌, ℕ, zero, suc, Bool, true, false, nat_abs, nat_eq, int_lt}
use Rattle.std.specs.Prelude.{if◌then◌else◌, Option, Some, None, List, [], ◌∷◌, pos, negsuc, codes, length, map}
use Rattle.property_keys.specs.declared.identifiers.ObjectId.{ObjectId}
use Rattle.property_keys.specs.declared.keys.PropKey.{PropKey}
use Rattle.property_keys.specs.declared.keys.PropKey.TheVariants.{Index, Name}
use Rattle.property_keys.specs.declared.values.Value.{Value}
use Rattle.property_keys.specs.declared.values.Value.TheVariants as value
use Rattle.descriptors.specs.declared.property.Complete.TheVariants as complete
use Rattle.es_tree.specs.declared.expressions.Access.TheVariants as access
use Rattle.es_tree.specs.declared.expressions.AssignOperator.{AssignOperator}
use Rattle.es_tree.specs.declared.expressions.AssignOperator.TheVariants as assign_operator
use Rattle.es_tree.specs.declared.expressions.BinaryOperator.{BinaryOperator}
use Rattle.es_tree.specs.declared.expressions.BinaryOperator.TheVariants as binary_operator
use Rattle.es_tree.specs.declared.expressions.Operator.TheVariants as operator
use Rattle.es_tree.specs.declared.expressions.ShortOperator.{ShortOperator}
use Rattle.es_tree.specs.declared.expressions.ShortOperator.TheVariants as short_operator
use Rattle.es_tree.specs.declared.expressions.UnaryOperator.{UnaryOperator}
use Rattle.es_tree.specs.declared.expressions.UnaryOperator.TheVariants as unary_operator
use Rattle.es_tree.specs.declared.names.Binding.TheVariants as binding
use Rattle.es_tree.specs.declared.names.Named.{Named}
use Rattle.es_tree.specs.declared.names.Target.{Target}
use Rattle.es_tree.specs.declared.names.Target.TheVariants as target
use Rattle.es_tree.specs.declared.node.Node.{Node}
use Rattle.es_tree.specs.declared.node.Node.TheVariants as node
use Rattle.es_tree.specs.declared.numbers.NodeId.{NodeId}
use Rattle.es_tree.specs.declared.primaries.Key.TheVariants as key
use Rattle.es_tree.specs.declared.primaries.Primary.TheVariants as primary
use Rattle.es_tree.specs.declared.primaries.Property.{Property}
use Rattle.es_tree.specs.declared.primaries.Property.TheVariants as property
use Rattle.es_tree.specs.declared.statements.Block.{Block}
use Rattle.es_tree.specs.declared.statements.Statement.TheVariants as statement
use Rattle.es_tree.specs.Tree.{Tree, empty_body, tree_of}
use Rattle.es_model.specs.declared.answers.Reply.TheVariants as reply
use Rattle.es_model.specs.declared.intrinsics.Class.TheVariants as class
use Rattle.es_model.specs.declared.intrinsics.Intrinsic.TheVariants as intrinsic
use Rattle.es_model.specs.declared.kinds.CellNo.{CellNo}
use Rattle.es_model.specs.declared.kinds.ErrorKind.TheVariants as error
use Rattle.es_model.specs.declared.owned.OwnProperty.{OwnProperty}
use Rattle.es_model.specs.declared.requests.Operation.{Operation}
use Rattle.es_model.specs.declared.requests.Operation.TheVariants as operation
use Rattle.es_model.specs.declared.requests.Request.{Request}
use Rattle.es_model.specs.declared.requests.Request.TheVariants.{Has, Read, Write, Delete, SetProto, Call, Construct, Work}
use Rattle.es_model.specs.declared.running.Running.{Running}
use Rattle.es_model.specs.Completions.{Completion, Normal, Break, Return, Throw}
use Rattle.es_model.specs.StartObjects.{object_of}
use Rattle.es_model.specs.Objects.{object_at}
use Rattle.es_model.specs.World.{World}
use Rattle.es_model.specs.Changes.{printed_more}
use Rattle.es_model.specs.Program.{Outcome, Ended, Halt, Server, Of, Evaluating, Statements, Round, done, run}
use Rattle.evaluator.specs.Contexts.{context}
use Rattle.evaluator.specs.References.{delete_of, get_of}
use Rattle.evaluator.specs.Tasks.{node_program, round_program, statements_program}
use Rattle.small_worlds.specs.Conversations.{first_of, range_error, thrown, type_error, word}
use Rattle.small_worlds.specs.SmallWorlds.{at, gives, object, says, whole}

-- ---- the world: its texts, and its cells, which hold object 3, the number 5, nothing yet, null and the text `ab`

abbrev pub texts : List (List ℕ)
texts =
    codes "length" ∷ codes "ab" ∷ codes "ab5" ∷ codes "b" ∷ codes "5" ∷ codes "undefined" ∷ codes "number" ∷ codes "object" ∷ codes "k" ∷ codes "g"
    ∷ codes "o" ∷ codes "n" ∷ codes "d" ∷ codes "z" ∷ codes "t" ∷ codes "toLocaleString" ∷ []

-- the same cells, where the second holds this value
abbrev pub cells_with : Value → List (Option Value)
cells_with v = Some (object 3) ∷ Some v ∷ None ∷ Some value.Null ∷ Some (word 1) ∷ []

abbrev pub cells : List (Option Value)
cells = cells_with (whole 5)

abbrev pub script_of : List Node → Tree
script_of nodes = tree_of nodes [] [] [] [] [] empty_body false

-- these nodes, so many turns left, these cells, and the marks of what was asked
abbrev pub scene : List Node → ℕ → List (Option Value) → List ℕ → World
scene nodes turns held marks = record {
  script = script_of nodes;
  lists = record { objects = []; texts = texts; symbols = []; cells = held };
  turns = turns;
  trace = [];
  printed = marks;
}

-- ---- requests: their marks, and the usual answers

abbrev pub value_mark : Value → ℕ
value_mark value.Undefined = 90
value_mark value.Null = 91
value_mark (value.Bool false) = 92
value_mark (value.Bool true) = 93
value_mark (value.Whole n) = nat_abs n
value_mark (value.Text t) = 100 + t.0
value_mark (value.Symbol s) = 94
value_mark (value.Object o) = 200 + o.0

abbrev pub operation_mark : Operation → ℕ
operation_mark operation.ToPrimitiveDefault = 10
operation_mark operation.ToText = 11
operation_mark operation.ToWhole = 12
operation_mark operation.ToKey = 13
operation_mark operation.InstanceOf = 14
operation_mark operation.LooselyEqual = 15
operation_mark operation.LessThan = 16
operation_mark other = 19

abbrev pub marks_of : Request → List ℕ
marks_of (Has o k) = 1 ∷ []
marks_of (Read o k receiver site) = 2 ∷ value_mark receiver ∷ []
marks_of (Write o k v receiver site) = 3 ∷ value_mark receiver ∷ value_mark v ∷ []
marks_of (Delete o k) = 4 ∷ []
marks_of (Call f this arguments) = 5 ∷ value_mark f ∷ value_mark this ∷ map value_mark arguments
marks_of (Construct f arguments target) = 6 ∷ (200 + f.0) ∷ map value_mark arguments
marks_of (SetProto o p) = 7 ∷ []
marks_of (Work op operands) = operation_mark op ∷ map value_mark operands
marks_of other = 9 ∷ []

-- an object converts to its number, and any number to the text `5`
abbrev pub primitive_of : Value → Value
primitive_of (value.Object o) = whole o.0
primitive_of other = other

abbrev pub text_of : Value → Value
text_of (value.Whole n) = word 4
text_of other = other

abbrev pub key_of : Value → PropKey
key_of (value.Whole n) = Index (nat_abs n)
key_of (value.Text t) = Name t
key_of other = Index 0

abbrev pub less_of : List Value → Completion
less_of (value.Whole a ∷ value.Whole b ∷ left_first) = says (int_lt a b)
less_of other = says false

-- who answers goes by the marks so far
abbrev pub Answers : Type 0
Answers = List ℕ → Request → Completion

abbrev pub answers_by : (present obeys : Bool) → Answers
answers_by present obeys marks (Has o k) = says present
answers_by present obeys marks (Read o k receiver site) = gives (whole 7)
answers_by present obeys marks (Write o k v receiver site) = says obeys
answers_by present obeys marks (Delete o k) = says obeys
answers_by present obeys marks (Call f this arguments) = gives (whole 8)
answers_by present obeys marks (Construct f arguments target) = gives (object 6)
answers_by present obeys marks (SetProto o p) = says true
answers_by present obeys marks (Work operation.ToPrimitiveDefault operands) = gives (primitive_of (first_of operands))
answers_by present obeys marks (Work operation.ToText operands) = gives (text_of (first_of operands))
answers_by present obeys marks (Work operation.ToWhole operands) = gives (primitive_of (first_of operands))
answers_by present obeys marks (Work operation.ToKey operands) = Normal (reply.Key (key_of (first_of operands)))
answers_by present obeys marks (Work operation.LessThan operands) = less_of operands
answers_by present obeys marks (Work op operands) = says true
answers_by present obeys marks other = Throw (word 1)

abbrev pub usual : Answers
usual = answers_by true true

abbrev pub absent : Answers
absent = answers_by false true

abbrev pub refusing : Answers
refusing = answers_by true false

-- a name that is there at the first look alone
abbrev pub vanishing : Answers
vanishing marks q = answers_by (nat_eq (length marks) 0) true marks q

-- requests are marked, and the tasks of the body are served
abbrev pub served : Answers → ℕ → Server
served answers zero n t w = Halt w 0
served answers (suc d) n (Of q) w = Ended (answers w.printed q) (printed_more w (marks_of q)) 0
served answers (suc d) n (Evaluating body force name m) w = run (served answers d) (node_program w.script body force name m) n w
served answers (suc d) n (Statements body force list i) w = run (served answers d) (statements_program w.script body force list i) n w
served answers (suc d) n (Round body force m) w = run (served answers d) (round_program w.script body force m) n w

-- ---- the body: two cells are in force

abbrev pub body_of : Bool → Running
body_of strict = record { function = None; callee = None; arguments = None; this = object 9; constructs = None; strict = strict }

abbrev pub in_force : List CellNo
in_force = record { 0 = 0 } ∷ record { 0 = 1 } ∷ []

abbrev pub the : ℕ → NodeId
the m = record { 0 = m }

-- what a node comes to in strict code or other code, with so many turns
abbrev pub evaluated : Answers → Bool → ℕ → List Node → ℕ → Outcome
evaluated answers strict turns nodes m = served answers 30 0 (Evaluating (body_of strict) in_force None (the m)) (scene nodes turns cells [])

-- in strict code, with twenty turns
abbrev pub comes : Answers → List Node → ℕ → Outcome
comes answers nodes m = evaluated answers true 20 nodes m

abbrev pub loosely : Answers → List Node → ℕ → Outcome
loosely answers nodes m = evaluated answers false 20 nodes m

-- how an evaluation ends that throws an error: the error, the turns that are left, the marks
abbrev pub fails : Outcome → (Option ObjectId × List ℕ) × ℕ × List ℕ
fails (Ended c w n) = (thrown (Ended c w n), w.turns, w.printed)
fails (Halt w n) = ((None, []), w.turns, w.printed)

abbrev pub reference_error : List ℕ → Option ObjectId × List ℕ
reference_error text = (Some (object_of (intrinsic.Prototype (class.Error error.ReferenceError))), text)

-- ---- nodes. Eight leaves stand in front: `o`, `n`, 1, 2, `z`, `t`, `d` and `g`

abbrev pub name_at : List ℕ → ℕ → Bool → Named
name_at units cell constant = record { name = units; binding = binding.Top cell constant }

-- the first name of an inner scope
abbrev pub inner : Named
inner = record { name = codes "k"; binding = binding.Own 2 false }

abbrev pub object_name : Named
object_name = name_at (codes "o") 0 false

abbrev pub number_name : Named
number_name = name_at (codes "n") 1 false

abbrev pub dead_name : Named
dead_name = name_at (codes "d") 2 false

abbrev pub global_name : Named
global_name = record { name = codes "g"; binding = binding.Global }

abbrev pub reads : Named → Node
reads named = node.Primary (primary.Name named)

abbrev pub number : ℕ → Node
number x = node.Primary (primary.Number (pos x))

abbrev pub leaves : List Node
leaves =
    reads object_name ∷ reads number_name ∷ number 1 ∷ number 2 ∷ reads (name_at (codes "z") 3 false) ∷ reads (name_at (codes "t") 4 false)
    ∷ reads dead_name ∷ reads global_name ∷ []

-- these nodes have the numbers from 8 on
abbrev pub with_leaves : List Node → List Node
with_leaves nodes = leaves ++ nodes

abbrev pub two : BinaryOperator → ℕ → ℕ → Node
two op a b = node.Operator (operator.Binary op (the a) (the b))

abbrev pub one : UnaryOperator → ℕ → Node
one op a = node.Operator (operator.Unary op (the a))

abbrev pub puts : AssignOperator → Target → ℕ → Node
puts op place v = node.Operator (operator.Assign op place (the v))

abbrev pub updates : Bool → Bool → Target → Node
updates increment prefix place = node.Operator (operator.Update increment prefix place)

abbrev pub to : Named → Target
to named = target.Name named

abbrev pub into : ℕ → Target
into a = target.Access (the a)

abbrev pub member : ℕ → List ℕ → Node
member base units = node.Access (access.Member (the base) units None None)

abbrev pub element : ℕ → ℕ → Node
element base k = node.Access (access.Index (the base) (the k) None None)

abbrev pub block_of : ℕ → List NodeId → Block
block_of names items = record { names = names; items = items }

-- ---- names

abbrev pub NameIsRead : Type 0
NameIsRead = comes usual leaves 1 ≡ Ended (gives (whole 5)) (scene leaves 19 cells []) 0

abbrev pub DeadNameThrows : Type 0
DeadNameThrows = fails (comes usual leaves 6) ≡ (reference_error (codes "d is not initialised"), 19, [])

abbrev pub AbsentNameThrows : Type 0
AbsentNameThrows = fails (comes absent leaves 7) ≡ (reference_error (codes "g is not defined"), 19, 1 ∷ [])

-- the first look, the second look, and the read with the global object as the receiver
abbrev pub GlobalIsRead : Type 0
GlobalIsRead = comes usual leaves 7 ≡ Ended (gives (whole 7)) (scene leaves 19 cells (1 ∷ 1 ∷ 2 ∷ 200 ∷ [])) 3

abbrev pub GoneNameThrows : Type 0
GoneNameThrows = fails (comes vanishing leaves 7) ≡ (reference_error (codes "g is not defined"), 19, 1 ∷ 1 ∷ [])

abbrev pub GoneNameIsUndefined : Type 0
GoneNameIsUndefined = loosely vanishing leaves 7 ≡ Ended (gives value.Undefined) (scene leaves 19 cells (1 ∷ 1 ∷ [])) 2

abbrev pub typeof_g : List Node
typeof_g = with_leaves (one unary_operator.Typeof 7 ∷ [])

abbrev pub TypeofAbsent : Type 0
TypeofAbsent = comes absent typeof_g 8 ≡ Ended (gives (word 5)) (scene typeof_g 18 cells (1 ∷ [])) 1

abbrev pub typeof_d : List Node
typeof_d = with_leaves (one unary_operator.Typeof 6 ∷ [])

abbrev pub TypeofDeadThrows : Type 0
TypeofDeadThrows = fails (comes usual typeof_d 8) ≡ (reference_error (codes "d is not initialised"), 18, [])

-- g = n
abbrev pub put_g : List Node
put_g = with_leaves (puts assign_operator.Plain (to global_name) 1 ∷ [])

abbrev pub AbsentPutThrows : Type 0
AbsentPutThrows = fails (comes absent put_g 8) ≡ (reference_error (codes "g is not defined"), 18, 1 ∷ [])

abbrev pub AbsentIsPut : Type 0
AbsentIsPut = loosely absent put_g 8 ≡ Ended (gives (whole 5)) (scene put_g 18 cells (1 ∷ 3 ∷ 200 ∷ 5 ∷ [])) 3

abbrev pub GonePutThrows : Type 0
GonePutThrows = fails (comes vanishing put_g 8) ≡ (reference_error (codes "g is not defined"), 18, 1 ∷ 1 ∷ [])

abbrev pub GoneIsPut : Type 0
GoneIsPut = loosely vanishing put_g 8 ≡ Ended (gives (whole 5)) (scene put_g 18 cells (1 ∷ 1 ∷ 3 ∷ 200 ∷ 5 ∷ [])) 4

abbrev pub put_constant : List Node
put_constant = with_leaves (puts assign_operator.Plain (to (name_at (codes "n") 1 true)) 2 ∷ [])

abbrev pub ConstantThrows : Type 0
ConstantThrows = fails (comes usual put_constant 8) ≡ (type_error (codes "n is constant"), 18, [])

abbrev pub put_dead : List Node
put_dead = with_leaves (puts assign_operator.Plain (to dead_name) 2 ∷ [])

abbrev pub DeadPutThrows : Type 0
DeadPutThrows = fails (comes usual put_dead 8) ≡ (reference_error (codes "d is not initialised"), 18, [])

abbrev pub put_n : List Node
put_n = with_leaves (puts assign_operator.Plain (to number_name) 2 ∷ [])

abbrev pub CellIsPut : Type 0
CellIsPut = comes usual put_n 8 ≡ Ended (gives (whole 1)) (scene put_n 18 (cells_with (whole 1)) []) 1

-- ---- member accesses

-- o.k
abbrev pub o_k : List Node
o_k = with_leaves (member 0 (codes "k") ∷ [])

abbrev pub MemberIsRead : Type 0
MemberIsRead = comes usual o_k 8 ≡ Ended (gives (whole 7)) (scene o_k 18 cells (2 ∷ 203 ∷ [])) 2

-- o[n]
abbrev pub o_n : List Node
o_n = with_leaves (element 0 1 ∷ [])

abbrev pub ElementIsRead : Type 0
ElementIsRead = comes usual o_n 8 ≡ Ended (gives (whole 7)) (scene o_n 17 cells (13 ∷ 5 ∷ 2 ∷ 203 ∷ [])) 4

-- z.k
abbrev pub z_k : List Node
z_k = with_leaves (member 4 (codes "k") ∷ [])

abbrev pub NullIsNotRead : Type 0
NullIsNotRead = fails (comes usual z_k 8) ≡ (type_error (codes "not an object"), 18, [])

-- z.k = d: the right side throws before the base is looked at
abbrev pub put_z_d : List Node
put_z_d = with_leaves (member 4 (codes "k") ∷ puts assign_operator.Plain (into 8) 6 ∷ [])

abbrev pub RightSideThrowsFirst : Type 0
RightSideThrowsFirst = fails (comes usual put_z_d 9) ≡ (reference_error (codes "d is not initialised"), 16, [])

abbrev pub put_z : List Node
put_z = with_leaves (member 4 (codes "k") ∷ puts assign_operator.Plain (into 8) 2 ∷ [])

abbrev pub NullIsNotPut : Type 0
NullIsNotPut = fails (comes usual put_z 9) ≡ (type_error (codes "not an object"), 16, [])

-- o[n] = -o: the key is converted before the right side
abbrev pub put_element : List Node
put_element = with_leaves (element 0 1 ∷ one unary_operator.Minus 0 ∷ puts assign_operator.Plain (into 8) 9 ∷ [])

abbrev pub KeyIsConvertedFirst : Type 0
KeyIsConvertedFirst =
    comes usual put_element 10 ≡ Ended (gives (value.Whole (negsuc 2))) (scene put_element 14 cells (13 ∷ 5 ∷ 12 ∷ 203 ∷ 3 ∷ 203 ∷ 3 ∷ [])) 7

-- o[n] += o: the key, the read, the right side, its conversion, the write
abbrev pub add_element : List Node
add_element = with_leaves (element 0 1 ∷ puts assign_operator.Add (into 8) 0 ∷ [])

abbrev pub CompoundInOrder : Type 0
CompoundInOrder =
    comes usual add_element 9
    ≡ Ended (gives (whole 10)) (scene add_element 15 cells (13 ∷ 5 ∷ 2 ∷ 203 ∷ 10 ∷ 203 ∷ 3 ∷ 203 ∷ 10 ∷ [])) 7

-- the length and t[1] are in the text itself, and t.toLocaleString is one link up
abbrev pub length_key : PropKey
length_key = Name (record { 0 = 0 })

abbrev pub TextHasLength : Type 0
TextHasLength =
    run (served usual 5) (get_of (word 1) length_key None done) 0 (scene leaves 20 cells []) ≡ Ended (gives (whole 2)) (scene leaves 20 cells []) 0

abbrev pub t_one : List Node
t_one = with_leaves (element 5 2 ∷ [])

abbrev pub TextHasUnits : Type 0
TextHasUnits = comes usual t_one 8 ≡ Ended (gives (word 3)) (scene t_one 17 cells (13 ∷ 1 ∷ [])) 3

abbrev pub t_k : List Node
t_k = with_leaves (member 5 (codes "toLocaleString") ∷ [])

abbrev pub TextGoesUp : Type 0
TextGoesUp = comes usual t_k 8 ≡ Ended (gives (whole 7)) (scene t_k 17 cells (2 ∷ 101 ∷ [])) 2

-- n.k = 1: one link up, with the number as the receiver
abbrev pub put_number : List Node
put_number = with_leaves (member 1 (codes "k") ∷ puts assign_operator.Plain (into 8) 2 ∷ [])

abbrev pub NumberGoesUp : Type 0
NumberGoesUp = comes usual put_number 9 ≡ Ended (gives (whole 1)) (scene put_number 15 cells (3 ∷ 5 ∷ 1 ∷ [])) 3

-- o.k = 1
abbrev pub put_member : List Node
put_member = with_leaves (member 0 (codes "k") ∷ puts assign_operator.Plain (into 8) 2 ∷ [])

abbrev pub RefusedThrows : Type 0
RefusedThrows = fails (comes refusing put_member 9) ≡ (type_error (codes "refused"), 16, 3 ∷ 203 ∷ 1 ∷ [])

abbrev pub RefusedPasses : Type 0
RefusedPasses = loosely refusing put_member 9 ≡ Ended (gives (whole 1)) (scene put_member 16 cells (3 ∷ 203 ∷ 1 ∷ [])) 3

-- delete o.k
abbrev pub delete_member : List Node
delete_member = with_leaves (member 0 (codes "k") ∷ one unary_operator.Delete 8 ∷ [])

abbrev pub MemberIsDeleted : Type 0
MemberIsDeleted = comes usual delete_member 9 ≡ Ended (gives (value.Bool true)) (scene delete_member 17 cells (4 ∷ [])) 2

abbrev pub DeleteRefusedThrows : Type 0
DeleteRefusedThrows = fails (comes refusing delete_member 9) ≡ (type_error (codes "refused"), 17, 4 ∷ [])

-- delete 1
abbrev pub delete_number : List Node
delete_number = with_leaves (one unary_operator.Delete 2 ∷ [])

abbrev pub NumberIsDeleted : Type 0
NumberIsDeleted = comes usual delete_number 8 ≡ Ended (gives (value.Bool true)) (scene delete_number 18 cells []) 1

-- the length of a text cannot be deleted
abbrev pub LengthIsNotDeleted : Type 0
LengthIsNotDeleted =
    run (served usual 5) (delete_of (context (script_of leaves) (body_of false) in_force) (word 1) length_key) 0 (scene leaves 20 cells [])
    ≡ Ended (gives (value.Bool false)) (scene leaves 20 cells []) 0

-- ---- operators. A number, a text or another primitive value that needs no conversion asks nothing

abbrev pub a_sum : List Node
a_sum = with_leaves (two binary_operator.Add 2 3 ∷ [])

abbrev pub NumbersAreAdded : Type 0
NumbersAreAdded = comes usual a_sum 8 ≡ Ended (gives (whole 3)) (scene a_sum 17 cells []) 2

-- o + n
abbrev pub a_mixed_sum : List Node
a_mixed_sum = with_leaves (two binary_operator.Add 0 1 ∷ [])

abbrev pub ObjectIsAdded : Type 0
ObjectIsAdded = comes usual a_mixed_sum 8 ≡ Ended (gives (whole 8)) (scene a_mixed_sum 17 cells (10 ∷ 203 ∷ [])) 3

-- t + n
abbrev pub a_text : List Node
a_text = with_leaves (two binary_operator.Add 5 1 ∷ [])

abbrev pub TextsAreJoined : Type 0
TextsAreJoined = comes usual a_text 8 ≡ Ended (gives (word 2)) (scene a_text 17 cells (11 ∷ 5 ∷ [])) 3

abbrev pub a_difference : List Node
a_difference = with_leaves (two binary_operator.Subtract 1 2 ∷ [])

abbrev pub NumbersAreSubtracted : Type 0
NumbersAreSubtracted = comes usual a_difference 8 ≡ Ended (gives (whole 4)) (scene a_difference 17 cells []) 2

abbrev pub a_product : List Node
a_product = with_leaves (two binary_operator.Multiply 1 3 ∷ [])

abbrev pub NumbersAreMultiplied : Type 0
NumbersAreMultiplied = comes usual a_product 8 ≡ Ended (gives (whole 10)) (scene a_product 17 cells []) 2

-- n % 0
abbrev pub a_remainder : List Node
a_remainder = with_leaves (number 0 ∷ two binary_operator.Remainder 1 8 ∷ [])

abbrev pub NoRemainderThrows : Type 0
NoRemainderThrows = fails (comes usual a_remainder 9) ≡ (range_error (codes "number outside the profile"), 17, [])

-- n < o, n > o, n <= o, n >= o: which operand is asked about first, and which is converted first
abbrev pub object_orders : BinaryOperator → List Node
object_orders op = with_leaves (two op 1 0 ∷ [])

abbrev pub LessInOrder : Type 0
LessInOrder =
    comes usual (object_orders binary_operator.Less) 8
    ≡ Ended (gives (value.Bool false)) (scene (object_orders binary_operator.Less) 17 cells (16 ∷ 5 ∷ 203 ∷ 93 ∷ [])) 3

abbrev pub GreaterInOrder : Type 0
GreaterInOrder =
    comes usual (object_orders binary_operator.Greater) 8
    ≡ Ended (gives (value.Bool false)) (scene (object_orders binary_operator.Greater) 17 cells (16 ∷ 203 ∷ 5 ∷ 92 ∷ [])) 3

abbrev pub AtMostInOrder : Type 0
AtMostInOrder =
    comes usual (object_orders binary_operator.AtMost) 8
    ≡ Ended (gives (value.Bool true)) (scene (object_orders binary_operator.AtMost) 17 cells (16 ∷ 203 ∷ 5 ∷ 92 ∷ [])) 3

abbrev pub AtLeastInOrder : Type 0
AtLeastInOrder =
    comes usual (object_orders binary_operator.AtLeast) 8
    ≡ Ended (gives (value.Bool true)) (scene (object_orders binary_operator.AtLeast) 17 cells (16 ∷ 5 ∷ 203 ∷ 93 ∷ [])) 3

-- n < 1, n > 1, n <= 1, n >= 1: of numbers nothing is asked
abbrev pub orders : BinaryOperator → List Node
orders op = with_leaves (two op 1 2 ∷ [])

abbrev pub number_order : BinaryOperator → Bool → Type 0
number_order op b = comes usual (orders op) 8 ≡ Ended (gives (value.Bool b)) (scene (orders op) 17 cells []) 2

abbrev pub NumberIsLess : Type 0
NumberIsLess = number_order binary_operator.Less false

abbrev pub NumberIsGreater : Type 0
NumberIsGreater = number_order binary_operator.Greater true

abbrev pub NumberIsAtMost : Type 0
NumberIsAtMost = number_order binary_operator.AtMost false

abbrev pub NumberIsAtLeast : Type 0
NumberIsAtLeast = number_order binary_operator.AtLeast true

abbrev pub EqualIsAsked : Type 0
EqualIsAsked =
    comes usual (orders binary_operator.Equal) 8 ≡ Ended (gives (value.Bool true)) (scene (orders binary_operator.Equal) 17 cells (15 ∷ 5 ∷ 1 ∷ [])) 3

abbrev pub NotEqualIsAsked : Type 0
NotEqualIsAsked =
    comes usual (orders binary_operator.NotEqual) 8 ≡ Ended (gives (value.Bool false)) (scene (orders binary_operator.NotEqual) 17 cells (15 ∷ 5 ∷ 1 ∷ [])) 3

abbrev pub StrictlyEqualAsksNothing : Type 0
StrictlyEqualAsksNothing =
    comes usual (orders binary_operator.StrictlyEqual) 8 ≡ Ended (gives (value.Bool false)) (scene (orders binary_operator.StrictlyEqual) 17 cells []) 2

abbrev pub NotStrictlyEqualAsksNothing : Type 0
NotStrictlyEqualAsksNothing =
    comes usual (orders binary_operator.NotStrictlyEqual) 8 ≡ Ended (gives (value.Bool true)) (scene (orders binary_operator.NotStrictlyEqual) 17 cells []) 2

-- n instanceof o, n in o, n in n
abbrev pub an_instance : List Node
an_instance = with_leaves (two binary_operator.InstanceOf 1 0 ∷ [])

abbrev pub InstanceIsAsked : Type 0
InstanceIsAsked = comes usual an_instance 8 ≡ Ended (gives (value.Bool true)) (scene an_instance 17 cells (14 ∷ 5 ∷ 203 ∷ [])) 3

abbrev pub n_in_o : List Node
n_in_o = with_leaves (two binary_operator.In 1 0 ∷ [])

abbrev pub InConvertsKey : Type 0
InConvertsKey = comes usual n_in_o 8 ≡ Ended (gives (value.Bool true)) (scene n_in_o 17 cells (13 ∷ 5 ∷ 1 ∷ [])) 4

abbrev pub n_in_n : List Node
n_in_n = with_leaves (two binary_operator.In 1 1 ∷ [])

abbrev pub InWantsObject : Type 0
InWantsObject = fails (comes usual n_in_n 8) ≡ (type_error (codes "not an object"), 17, [])

abbrev pub of_one : UnaryOperator → ℕ → List Node
of_one op a = with_leaves (one op a ∷ [])

abbrev pub NotOfNumber : Type 0
NotOfNumber = comes usual (of_one unary_operator.Not 1) 8 ≡ Ended (gives (value.Bool false)) (scene (of_one unary_operator.Not 1) 18 cells []) 1

abbrev pub VoidIsUndefined : Type 0
VoidIsUndefined = comes usual (of_one unary_operator.Void 1) 8 ≡ Ended (gives value.Undefined) (scene (of_one unary_operator.Void 1) 18 cells []) 1

abbrev pub PlusConverts : Type 0
PlusConverts = comes usual (of_one unary_operator.Plus 0) 8 ≡ Ended (gives (whole 3)) (scene (of_one unary_operator.Plus 0) 18 cells (12 ∷ 203 ∷ [])) 2

abbrev pub MinusConverts : Type 0
MinusConverts =
    comes usual (of_one unary_operator.Minus 0) 8 ≡ Ended (gives (value.Whole (negsuc 2))) (scene (of_one unary_operator.Minus 0) 18 cells (12 ∷ 203 ∷ [])) 2

abbrev pub TypeofNumber : Type 0
TypeofNumber = comes usual (of_one unary_operator.Typeof 1) 8 ≡ Ended (gives (word 6)) (scene (of_one unary_operator.Typeof 1) 18 cells []) 0

abbrev pub shortly : ShortOperator → ℕ → ℕ → List Node
shortly op a b = with_leaves (node.Operator (operator.Short op (the a) (the b)) ∷ [])

-- z && d
abbrev pub AndStops : Type 0
AndStops = comes usual (shortly short_operator.And 4 6) 8 ≡ Ended (gives value.Null) (scene (shortly short_operator.And 4 6) 18 cells []) 1

-- n || d
abbrev pub OrStops : Type 0
OrStops = comes usual (shortly short_operator.Or 1 6) 8 ≡ Ended (gives (whole 5)) (scene (shortly short_operator.Or 1 6) 18 cells []) 1

-- z ?? n
abbrev pub CoalesceGoesOn : Type 0
CoalesceGoesOn = comes usual (shortly short_operator.Coalesce 4 1) 8 ≡ Ended (gives (whole 5)) (scene (shortly short_operator.Coalesce 4 1) 17 cells []) 2

-- the conditional operator: z is looked at, then d or n
abbrev pub a_choice : List Node
a_choice = with_leaves (node.Operator (operator.Conditional (the 4) (the 6) (the 1)) ∷ [])

abbrev pub OtherIsTaken : Type 0
OtherIsTaken = comes usual a_choice 8 ≡ Ended (gives (whole 5)) (scene a_choice 17 cells []) 2

-- z, n
abbrev pub a_comma : List Node
a_comma = with_leaves (node.Operator (operator.Comma (the 4 ∷ the 1 ∷ [])) ∷ [])

abbrev pub LastIsGiven : Type 0
LastIsGiven = comes usual a_comma 8 ≡ Ended (gives (whole 5)) (scene a_comma 17 cells []) 2

-- n++, --n, o.k++
abbrev pub n_up : List Node
n_up = with_leaves (updates true false (to number_name) ∷ [])

abbrev pub OldIsGiven : Type 0
OldIsGiven = comes usual n_up 8 ≡ Ended (gives (whole 5)) (scene n_up 19 (cells_with (whole 6)) []) 0

abbrev pub n_down : List Node
n_down = with_leaves (updates false true (to number_name) ∷ [])

abbrev pub NewIsGiven : Type 0
NewIsGiven = comes usual n_down 8 ≡ Ended (gives (whole 4)) (scene n_down 19 (cells_with (whole 4)) []) 0

abbrev pub o_k_up : List Node
o_k_up = with_leaves (member 0 (codes "k") ∷ updates true false (into 8) ∷ [])

abbrev pub MemberIsUpdated : Type 0
MemberIsUpdated = comes usual o_k_up 9 ≡ Ended (gives (whole 7)) (scene o_k_up 17 cells (2 ∷ 203 ∷ 3 ∷ 203 ∷ 8 ∷ [])) 3

-- ---- calls

-- o.k(n): the function is read before the arguments are evaluated
abbrev pub call_member : List Node
call_member = with_leaves (member 0 (codes "k") ∷ node.Access (access.Call (the 8) (the 1 ∷ [])) ∷ [])

abbrev pub MemberIsCalled : Type 0
MemberIsCalled = comes usual call_member 9 ≡ Ended (gives (whole 8)) (scene call_member 16 cells (2 ∷ 203 ∷ 5 ∷ 7 ∷ 203 ∷ 5 ∷ [])) 4

-- n(1, 2)
abbrev pub call_value : List Node
call_value = with_leaves (node.Access (access.Call (the 1) (the 2 ∷ the 3 ∷ [])) ∷ [])

abbrev pub ValueIsCalled : Type 0
ValueIsCalled = comes usual call_value 8 ≡ Ended (gives (whole 8)) (scene call_value 16 cells (5 ∷ 5 ∷ 90 ∷ 1 ∷ 2 ∷ [])) 4

-- g()
abbrev pub call_g : List Node
call_g = with_leaves (node.Access (access.Call (the 7) []) ∷ [])

abbrev pub GlobalHasNoReceiver : Type 0
GlobalHasNoReceiver = comes usual call_g 8 ≡ Ended (gives (whole 8)) (scene call_g 18 cells (1 ∷ 1 ∷ 2 ∷ 200 ∷ 5 ∷ 7 ∷ 90 ∷ [])) 5

-- new o(n), new n()
abbrev pub new_o : List Node
new_o = with_leaves (node.Access (access.New (the 0) (the 1 ∷ [])) ∷ [])

abbrev pub ObjectIsConstructed : Type 0
ObjectIsConstructed = comes usual new_o 8 ≡ Ended (gives (object 6)) (scene new_o 17 cells (6 ∷ 203 ∷ 5 ∷ [])) 3

abbrev pub new_n : List Node
new_n = with_leaves (node.Access (access.New (the 1) []) ∷ [])

abbrev pub NumberConstructsNothing : Type 0
NumberConstructsNothing = fails (comes usual new_n 8) ≡ (type_error (codes "not a constructor"), 18, [])

-- ---- primary expressions

abbrev pub a_this : List Node
a_this = with_leaves (node.Primary primary.This ∷ [])

abbrev pub ThisIsGiven : Type 0
ThisIsGiven = comes usual a_this 8 ≡ Ended (gives (object 9)) (scene a_this 19 cells []) 0

-- how an evaluation ends, the turns that are left, the marks, the requests and parts
abbrev pub sees : Outcome → Completion × ℕ × List ℕ × ℕ
sees (Ended c w count) = (c, w.turns, w.printed, count)
sees (Halt w count) = (Break, w.turns, w.printed, count)

-- { [n]: 1, z }: the key is converted before the value, and a name alone takes no turn
abbrev pub a_literal : List Node
a_literal = with_leaves (
    node.Primary (primary.Object (record { 0 = 0 }) (
    property.Value (key.Computed (the 1)) (the 2) ∷ property.Shorthand (name_at (codes "z") 3 false) ∷ [])) ∷ [])

abbrev pub LiteralIsMade : Type 0
LiteralIsMade = sees (comes usual a_literal 8) ≡ (gives (object 0), 17, 13 ∷ 5 ∷ [], 3)

-- { a: 1, b: o.k, c: 2 }, where the read throws: one property is defined, and the literal is never given
abbrev pub throwing : Answers
throwing marks (Read o k receiver site) = Throw (whole 9)
throwing marks q = usual marks q

abbrev pub fixed : List ℕ → ℕ → Property
fixed units v = property.Value (key.Fixed units) (the v)

abbrev pub broken_literal : List Node
broken_literal = with_leaves (
    member 0 (codes "k")
    ∷ node.Primary (primary.Object (record { 0 = 0 }) (fixed (codes "a") 2 ∷ fixed (codes "b") 8 ∷ fixed (codes "c") 3 ∷ [])) ∷ [])

-- how an evaluation ends, and how many properties object 0 has
abbrev pub properties_of_first : Outcome → Completion × ℕ
properties_of_first (Ended c w count) = (c, length (object_at w.lists.objects (at 0)).properties)
properties_of_first (Halt w count) = (Break, 0)

abbrev pub LiteralIsLeft : Type 0
LiteralIsLeft = properties_of_first (comes throwing broken_literal 9) ≡ (Throw (whole 9), 1)

-- how an evaluation ends, the turns that are left, and the values that object 0 has, in the order of creation
abbrev pub stored_value : OwnProperty → Option Value
stored_value p = elim p.complete as (λ c. Option Value) [ complete.Stored v flags ↦ Some v | complete.Accessor get set enumerable configurable ↦ None ]

abbrev pub held_by_first : Outcome → Completion × ℕ × List (Option Value)
held_by_first (Ended c w count) = (c, w.turns, map stored_value (object_at w.lists.objects (at 0)).properties)
held_by_first (Halt w count) = (Break, w.turns, [])

-- an array literal, whose elements that are left out are none
abbrev pub elements : List (Option NodeId) → Node
elements es = node.Primary (primary.Array es)

-- [1, , n]: under `length`, 0 and 2
abbrev pub an_array : List Node
an_array = with_leaves (elements (Some (the 2) ∷ None ∷ Some (the 1) ∷ []) ∷ [])

abbrev pub ArrayIsMade : Type 0
ArrayIsMade = held_by_first (comes usual an_array 8) ≡ (gives (object 0), 17, Some (whole 3) ∷ Some (whole 1) ∷ Some (whole 5) ∷ [])

-- [ , ]: the one element is left out
abbrev pub an_empty_array : List Node
an_empty_array = with_leaves (elements (None ∷ []) ∷ [])

abbrev pub HoleRaisesLength : Type 0
HoleRaisesLength = held_by_first (comes usual an_empty_array 8) ≡ (gives (object 0), 19, Some (whole 1) ∷ [])

-- [1, o.k, 2], where the read throws: one element is there, and the array is never given
abbrev pub a_broken_array : List Node
a_broken_array = with_leaves (member 0 (codes "k") ∷ elements (Some (the 2) ∷ Some (the 8) ∷ Some (the 3) ∷ []) ∷ [])

abbrev pub ArrayIsLeft : Type 0
ArrayIsLeft = held_by_first (comes throwing a_broken_array 9) ≡ (Throw (whole 9), 16, Some (whole 1) ∷ Some (whole 1) ∷ [])

-- ---- statements

-- how an evaluation ends, and the turns that are left
abbrev pub ends : Outcome → Completion × ℕ
ends (Ended c w count) = (c, w.turns)
ends (Halt w count) = (Break, w.turns)

-- { let k = n; }
abbrev pub a_block : List Node
a_block = with_leaves (
    node.Statement (statement.Lexical false (record { named = inner; value = Some (the 1) } ∷ []))
    ∷ node.Statement (statement.Block (block_of 1 (the 8 ∷ []))) ∷ [])

abbrev pub ScopeHasCell : Type 0
ScopeHasCell = comes usual a_block 9 ≡ Ended (gives value.Undefined) (scene a_block 17 (cells ++ Some (whole 5) ∷ []) []) 4

-- while (n) break;
abbrev pub a_break : List Node
a_break = with_leaves (node.Statement statement.Break ∷ node.Statement (statement.While (the 1) (the 8)) ∷ [])

abbrev pub BreakLeavesLoop : Type 0
BreakLeavesLoop = comes usual a_break 9 ≡ Ended (gives value.Undefined) (scene a_break 17 cells []) 3

-- while (n) { while (n) break; n = 0; }
abbrev pub two_loops : List Node
two_loops = with_leaves (
    node.Statement statement.Break ∷ node.Statement (statement.While (the 1) (the 8)) ∷ number 0 ∷ puts assign_operator.Plain (to number_name) 10
    ∷ node.Statement (statement.Expression (the 11)) ∷ node.Statement (statement.Block (block_of 0 (the 9 ∷ the 12 ∷ [])))
    ∷ node.Statement (statement.While (the 1) (the 13)) ∷ [])

abbrev pub BreakLeavesOneLoop : Type 0
BreakLeavesOneLoop = comes usual two_loops 14 ≡ Ended (gives value.Undefined) (scene two_loops 10 (cells_with (whole 0)) []) 15

-- for (let k = 0; k < 2; k++) continue;
abbrev pub a_for : List Node
a_for = with_leaves (
    number 0 ∷ node.Statement (statement.Lexical false (record { named = inner; value = Some (the 8) } ∷ [])) ∷ reads inner ∷ two binary_operator.Less 10 3
    ∷ updates true false (to inner) ∷ node.Statement statement.Continue
    ∷ node.Statement (statement.For 1 (Some (the 9)) (Some (the 11)) (Some (the 12)) (the 13)) ∷ [])

abbrev pub ContinueSteps : Type 0
ContinueSteps =
    comes usual a_for 14
    ≡ Ended (gives value.Undefined) (scene a_for 4 (cells ++ Some (whole 2) ∷ []) []) 18

-- try { throw 1; } catch (k) { k; }
abbrev pub a_catch : List Node
a_catch = with_leaves (
    node.Statement (statement.Throw (the 2)) ∷ reads inner ∷ node.Statement (statement.Expression (the 9))
    ∷ node.Statement (statement.Try (block_of 0 (the 8 ∷ [])) (Some (record { parameter = Some inner; block = block_of 0 (the 10 ∷ []) })) None) ∷ [])

abbrev pub ThrownIsCaught : Type 0
ThrownIsCaught = comes usual a_catch 11 ≡ Ended (gives value.Undefined) (scene a_catch 15 (cells ++ Some (whole 1) ∷ []) []) 7

-- try { throw 1; } finally { return 2; }
abbrev pub a_finally : List Node
a_finally = with_leaves (
    node.Statement (statement.Throw (the 2)) ∷ node.Statement (statement.Return (Some (the 3)))
    ∷ node.Statement (statement.Try (block_of 0 (the 8 ∷ [])) None (Some (block_of 0 (the 9 ∷ [])))) ∷ [])

abbrev pub FinallyHasItsEnd : Type 0
FinallyHasItsEnd = comes usual a_finally 10 ≡ Ended (Return (whole 2)) (scene a_finally 15 cells []) 6

-- try { throw 1; } finally {}
abbrev pub no_finally : List Node
no_finally = with_leaves (
    node.Statement (statement.Throw (the 2)) ∷ node.Statement (statement.Try (block_of 0 (the 8 ∷ [])) None (Some (block_of 0 []))) ∷ [])

abbrev pub FinallyKeepsEnd : Type 0
FinallyKeepsEnd = comes usual no_finally 9 ≡ Ended (Throw (whole 1)) (scene no_finally 17 cells []) 4

-- try { return 1; } finally { n; }
abbrev pub a_kept_return : List Node
a_kept_return = with_leaves (
    node.Statement (statement.Return (Some (the 2))) ∷ node.Statement (statement.Expression (the 1))
    ∷ node.Statement (statement.Try (block_of 0 (the 8 ∷ [])) None (Some (block_of 0 (the 9 ∷ [])))) ∷ [])

abbrev pub ReturnIsKept : Type 0
ReturnIsKept = comes usual a_kept_return 10 ≡ Ended (Return (whole 1)) (scene a_kept_return 15 cells []) 7

-- while (n) { try { throw 1; } finally { break; } }
abbrev pub a_break_in_finally : List Node
a_break_in_finally = with_leaves (
    node.Statement (statement.Throw (the 2)) ∷ node.Statement statement.Break
    ∷ node.Statement (statement.Try (block_of 0 (the 8 ∷ [])) None (Some (block_of 0 (the 9 ∷ []))))
    ∷ node.Statement (statement.Block (block_of 0 (the 10 ∷ []))) ∷ node.Statement (statement.While (the 1) (the 11)) ∷ [])

abbrev pub BreakDropsThrow : Type 0
BreakDropsThrow = ends (comes usual a_break_in_finally 12) ≡ (gives value.Undefined, 13)

-- try { throw 1; } catch (k) { return n; } finally { throw 2; }
abbrev pub three_ends : List Node
three_ends = with_leaves (
    node.Statement (statement.Throw (the 2)) ∷ node.Statement (statement.Return (Some (the 1))) ∷ node.Statement (statement.Throw (the 3))
    ∷ node.Statement (statement.Try (block_of 0 (the 8 ∷ [])) (Some (record { parameter = Some inner; block = block_of 0 (the 9 ∷ []) }))
    (Some (block_of 0 (the 10 ∷ [])))) ∷ [])

abbrev pub FinallyThrowsInstead : Type 0
FinallyThrowsInstead = ends (comes usual three_ends 11) ≡ (Throw (whole 2), 13)

-- if (z) ; else n;
abbrev pub an_if : List Node
an_if = with_leaves (
    node.Statement statement.Empty ∷ node.Statement (statement.Expression (the 1)) ∷ node.Statement (statement.If (the 4) (the 8) (Some (the 9))) ∷ [])

abbrev pub ElseIsTaken : Type 0
ElseIsTaken = comes usual an_if 10 ≡ Ended (gives (whole 5)) (scene an_if 16 cells []) 3

-- ---- halts

-- 1 + 2 with two turns: at the right operand
abbrev pub HaltsAtRight : Type 0
HaltsAtRight = evaluated usual true 2 a_sum 8 ≡ Halt (scene a_sum 0 cells []) 2

-- t.toLocaleString with two turns: at the link
abbrev pub HaltsAtLink : Type 0
HaltsAtLink = evaluated usual true 2 t_k 8 ≡ Halt (scene t_k 0 cells []) 1

-- no `finally` sees a halt
abbrev pub HaltPassesFinally : Type 0
HaltPassesFinally = evaluated usual true 2 a_finally 10 ≡ Halt (scene a_finally 0 cells []) 3
