-- The programs of the tasks of a running body: what each kind of node of the tree comes to (ECMA-262, clauses 13 to 16).
use Rattle.std.specs.Prelude.{ℕ, Option, Some, None, List, slice_get}
use Rattle.es_tree.specs.declared.expressions.Access.{Access}
use Rattle.es_tree.specs.declared.expressions.Access.TheVariants as access
use Rattle.es_tree.specs.declared.expressions.Operator.{Operator}
use Rattle.es_tree.specs.declared.expressions.Operator.TheVariants as operator
use Rattle.es_tree.specs.declared.node.Node.{Node}
use Rattle.es_tree.specs.declared.node.Node.TheVariants as node
use Rattle.es_tree.specs.declared.numbers.NodeId.{NodeId}
use Rattle.es_tree.specs.Tree.{Tree}
use Rattle.property_keys.specs.declared.values.Value.TheVariants as value
use Rattle.es_model.specs.declared.kinds.CellNo.{CellNo}
use Rattle.es_model.specs.declared.running.FunctionName.{FunctionName}
use Rattle.es_model.specs.declared.running.Part.{Part}
use Rattle.es_model.specs.declared.running.Running.{Running}
use Rattle.es_model.specs.Program.{Program, charge}
use Rattle.evaluator.specs.Accesses.{access_reference, read_reference, target_reference}
use Rattle.evaluator.specs.Assignments.{assignment, update_reference}
use Rattle.evaluator.specs.Calls.{call_expression, new_expression}
use Rattle.evaluator.specs.Contexts.{Context, context, evaluate, falls}
use Rattle.evaluator.specs.Literals.{primary_program}
use Rattle.evaluator.specs.Operators.{comma_from, left_valued, short_valued, test_valued, unary_expression}
use Rattle.evaluator.specs.Statements.{round_of, statement_at, statement_program, statements_of}

abbrev pub operator_program : Context → NodeId → Operator → Program
operator_program here n (operator.Comma items) = comma_from here items value.Undefined
operator_program here n (operator.Assign op target v) = assignment here op target v
operator_program here n (operator.Update increment prefix target) = target_reference here target (update_reference here increment prefix)
operator_program here n (operator.Conditional test taken other) = evaluate here test (test_valued here taken other)
operator_program here n (operator.Short op left right) = evaluate here left (short_valued here op right)
operator_program here n (operator.Binary op left right) = evaluate here left (left_valued here op right)
operator_program here n (operator.Unary op operand) = unary_expression here op operand

abbrev pub access_program : Context → NodeId → Access → Program
access_program here n (access.Member base name read write) = access_reference here (access.Member base name read write) (read_reference here)
access_program here n (access.Index base key read write) = access_reference here (access.Index base key read write) (read_reference here)
access_program here n (access.Call callee arguments) = call_expression here n callee
access_program here n (access.New callee arguments) = new_expression here n callee

-- each node, after its turn
abbrev pub node_of : Context → Option FunctionName → NodeId → Option Node → Program
node_of here name n None = falls
node_of here name n (Some (node.Statement s)) = statement_program here n s
node_of here name n (Some (node.Operator o)) = operator_program here n o
node_of here name n (Some (node.Access a)) = access_program here n a
node_of here name n (Some (node.Primary p)) = primary_program here name n p

-- a node: here is the one place of its turn
abbrev pub node_program : Tree → Running → List CellNo → Option FunctionName → NodeId → Program
node_program script body cells name n = charge 1 (node_of (context script body cells) name n (slice_get script.nodes n.0))

-- the statements of a part of the tree from a number on
abbrev pub statements_program : Tree → Running → List CellNo → Part → ℕ → Program
statements_program script body cells list i = statement_at (context script body cells) list i (slice_get (statements_of script list) i)

-- a round of the loop that is this node
abbrev pub round_program : Tree → Running → List CellNo → NodeId → Program
round_program script body cells n = round_of (context script body cells) n (slice_get script.nodes n.0)
