-- The tasks of a running body keep within their weights, where a charge gives as much as a charge of their script.
use Rattle.std.proofs.Common.{ℕ, ◌+◌, ◌*◌, ◌≤◌, Option, Some, None, List, arith}
use Rattle.std.specs.Prelude.{slice_get}
use Rattle.property_keys.specs.declared.values.Value.TheVariants as value
use Rattle.es_tree.specs.declared.expressions.Access.{Access}
use Rattle.es_tree.specs.declared.expressions.Access.TheVariants as access
use Rattle.es_tree.specs.declared.expressions.Operator.{Operator}
use Rattle.es_tree.specs.declared.expressions.Operator.TheVariants as operator
use Rattle.es_tree.specs.declared.node.Node.{Node}
use Rattle.es_tree.specs.declared.node.Node.TheVariants as node
use Rattle.es_tree.specs.declared.numbers.NodeId.{NodeId}
use Rattle.es_tree.specs.Definitions.{most_definitions}
use Rattle.es_tree.specs.Tree.{Tree}
use Rattle.es_model.specs.declared.running.FunctionName.{FunctionName}
use Rattle.es_model.specs.declared.kinds.CellNo.{CellNo}
use Rattle.es_model.specs.declared.running.Part.{Part}
use Rattle.es_model.specs.declared.running.Running.{Running}
use Rattle.es_model.specs.Weights.{IsWithin}
use Rattle.evaluator.specs.Accesses.{read_reference}
use Rattle.evaluator.specs.Assignments.{update_reference}
use Rattle.evaluator.specs.Contexts.{Context, context}
use Rattle.evaluator.specs.Operators.{left_valued, short_valued, test_valued}
use Rattle.evaluator.specs.Statements.{statements_of}
use Rattle.evaluator.specs.Tasks.{access_program, node_of, node_program, operator_program, round_program, statements_program}
use Rattle.evaluator.proofs.AccessesWithin.{access_reference-within, read_reference-within, target_reference-within}
use Rattle.evaluator.proofs.AssignmentsWithin.{assignment-within, update_reference-within}
use Rattle.evaluator.proofs.CallsWithin.{call-within, new-within}
use Rattle.evaluator.proofs.LiteralsWithin.{primary-within}
use Rattle.evaluator.proofs.OperatorsWithin.{comma-within, left_valued-within, short_valued-within, test_valued-within, unary-within}
use Rattle.evaluator.proofs.StatementsWithin.{round_of-within, statement-within, statement_at-within}
use Rattle.evaluator.proofs.WordsWithin.{Within, within-whole, charged-within, done-within, evaluated-within}

operator-within : (r : ℕ) (here : Context) (n : NodeId) (o : Operator) → 200 ≤ r → Within r r (operator_program here n o)
operator-within r here n (operator.Comma items) enough = comma-within r r here items value.Undefined (omega arith) (omega arith)
operator-within r here n (operator.Assign op place v) enough = assignment-within r r here op place v (omega arith) (omega arith)
operator-within r here n (operator.Update increment prefix place) enough =
    target_reference-within r r 52 here place (update_reference here increment prefix) (omega arith) (omega arith) (λ ref. update_reference-within r 52 here increment prefix ref (omega arith) (omega arith))
operator-within r here n (operator.Conditional test first other) enough =
    evaluated-within r r here None test (test_valued here first other) (omega arith) (test_valued-within r r here first other (omega arith))
operator-within r here n (operator.Short op left right) enough = evaluated-within r r here None left (short_valued here op right) (omega arith) (short_valued-within r r here op right (omega arith))
operator-within r here n (operator.Binary op left right) enough =
    evaluated-within r r here None left (left_valued here op right) (omega arith) (left_valued-within r r here op right (omega arith) (omega arith))
operator-within r here n (operator.Unary op operand) enough = unary-within r r here op operand (omega arith) (omega arith)

access-within : (r : ℕ) (here : Context) (n : NodeId) (a : Access) → 200 ≤ r → Within r r (access_program here n a)
access-within r here n (access.Member base name read write) enough =
    access_reference-within r r 4 here (access.Member base name read write) (read_reference here) (omega arith) (omega arith) (λ ref. read_reference-within r 4 here ref (omega arith) (omega arith))
access-within r here n (access.Index base key read write) enough =
    access_reference-within r r 4 here (access.Index base key read write) (read_reference here) (omega arith) (omega arith) (λ ref. read_reference-within r 4 here ref (omega arith) (omega arith))
access-within r here n (access.Call callee arguments) enough = call-within r r here n callee (omega arith) (omega arith)
access-within r here n (access.New callee arguments) enough = new-within r r here n callee (omega arith) (omega arith)

node_of-within : (r : ℕ) (here : Context) (name : Option FunctionName) (n : NodeId) (found : Option Node) → 200 + 40 * most_definitions here.script.nodes ≤ r → Within r r (node_of here name n found)
node_of-within r here name n None enough = done-within _ _ _
node_of-within r here name n (Some (node.Statement s)) enough = statement-within r r here n s (omega arith) (omega arith)
node_of-within r here name n (Some (node.Operator o)) enough = operator-within r here n o (omega arith)
node_of-within r here name n (Some (node.Access a)) enough = access-within r here n a (omega arith)
node_of-within r here name n (Some (node.Primary p)) enough = primary-within r here name n p enough

-- ---- the tasks

pub node-within : (r : ℕ) (script : Tree) (body : Running) (cells : List CellNo) (name : Option FunctionName) (n : NodeId) → 200 + 40 * most_definitions script.nodes ≤ r → IsWithin r 0 (node_program script body cells name n)
node-within r script body cells name n enough = within-whole r 0 (node_program script body cells name n) (charged-within r 0 _ (node_of-within r (context script body cells) name n (slice_get script.nodes n.0) enough))

pub statements-within : (r : ℕ) (script : Tree) (body : Running) (cells : List CellNo) (list : Part) (i : ℕ) → 200 ≤ r → IsWithin r 1 (statements_program script body cells list i)
statements-within r script body cells list i enough =
    within-whole r 1 (statements_program script body cells list i) (statement_at-within r 1 (context script body cells) list i (slice_get (statements_of script list) i) (omega arith) (omega arith))

pub round-within : (r : ℕ) (script : Tree) (body : Running) (cells : List CellNo) (n : NodeId) → 200 ≤ r → IsWithin r 1 (round_program script body cells n)
round-within r script body cells n enough = within-whole r 1 (round_program script body cells n) (round_of-within r 1 (context script body cells) n (slice_get script.nodes n.0) (omega arith) (omega arith))
