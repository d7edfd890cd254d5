-- The tasks of a running body keep worlds sound.
use Rattle.std.proofs.Common.{ℕ, Option, Some, None, List, refl}
use Rattle.std.specs.Prelude.{slice_get}
use Rattle.property_keys.specs.declared.values.Value.TheVariants as value
use Rattle.es_tree.specs.declared.expressions.Access.{Access}
use Rattle.es_tree.specs.declared.expressions.Access.TheVariants as access
use Rattle.es_tree.specs.declared.expressions.Operator.{Operator}
use Rattle.es_tree.specs.declared.expressions.Operator.TheVariants as operator
use Rattle.es_tree.specs.declared.node.Node.{Node}
use Rattle.es_tree.specs.declared.node.Node.TheVariants as node
use Rattle.es_tree.specs.declared.numbers.NodeId.{NodeId}
use Rattle.es_model.specs.declared.running.FunctionName.{FunctionName}
use Rattle.es_model.specs.declared.kinds.CellNo.{CellNo}
use Rattle.es_model.specs.declared.running.Part.{Part}
use Rattle.es_model.specs.declared.running.Running.{Running}
use Rattle.es_model.specs.World.{World}
use Rattle.es_model.specs.Program.{Evaluating, Statements, Round}
use Rattle.es_model.specs.Known.{IfThere}
use Rattle.es_model.specs.Sound.{IsSound}
use Rattle.es_model.specs.Kept.{FitsTask, IsKept, IsKnownName, IsKnownTask}
use Rattle.es_model.proofs.KnownLater.{there-map}
use Rattle.evaluator.specs.Accesses.{read_reference}
use Rattle.evaluator.specs.Assignments.{update_reference}
use Rattle.evaluator.specs.Contexts.{Context, context}
use Rattle.evaluator.specs.Operators.{left_valued, short_valued, test_valued}
use Rattle.evaluator.specs.Statements.{statements_of}
use Rattle.evaluator.specs.Tasks.{access_program, node_of, node_program, operator_program, round_program, statements_program}
use Rattle.evaluator.proofs.AccessesKept.{access_reference-kept, read_reference-kept, target_reference-kept}
use Rattle.evaluator.proofs.AssignmentsKept.{assignment-kept, update_reference-kept}
use Rattle.evaluator.proofs.CallsKept.{call-kept, new-kept}
use Rattle.evaluator.proofs.LiteralsKept.{primary-kept}
use Rattle.evaluator.proofs.OperatorsKept.{comma-kept, left_valued-kept, short_valued-kept, test_valued-kept, unary-kept}
use Rattle.evaluator.proofs.StatementsKept.{round_of-kept, statement-kept, statement_at-kept}
use Rattle.evaluator.proofs.WordsKept.{Keeps, kept-whole, done-kept, IsHere, charged-kept, evaluated-kept, here-stays, name-stays}

operator-kept : (w : World) (here : Context) (n : NodeId) (o : Operator) → IsSound w → IsHere w here → Keeps (operator_program here n o) w
operator-kept w here n (operator.Comma items) s h = comma-kept w here items value.Undefined s h tt
operator-kept w here n (operator.Assign op place v) s h = assignment-kept w here op place v s h
operator-kept w here n (operator.Update increment prefix place) s h =
    target_reference-kept w here place (update_reference here increment prefix) s h (λ ref v sv l known. update_reference-kept v here increment prefix ref sv known)
operator-kept w here n (operator.Conditional test first other) s h = evaluated-kept w here None test (test_valued here first other) s h tt (test_valued-kept w here first other h)
operator-kept w here n (operator.Short op left right) s h = evaluated-kept w here None left (short_valued here op right) s h tt (short_valued-kept w here op right h)
operator-kept w here n (operator.Binary op left right) s h = evaluated-kept w here None left (left_valued here op right) s h tt (left_valued-kept w here op right h)
operator-kept w here n (operator.Unary op operand) s h = unary-kept w here op operand s h

access-kept : (w : World) (here : Context) (n : NodeId) (a : Access) → IsSound w → IsHere w here → Keeps (access_program here n a) w
access-kept w here n (access.Member base name read write) s h =
    access_reference-kept w here (access.Member base name read write) (read_reference here) s h (λ ref v sv l known. read_reference-kept v here ref sv known)
access-kept w here n (access.Index base key read write) s h =
    access_reference-kept w here (access.Index base key read write) (read_reference here) s h (λ ref v sv l known. read_reference-kept v here ref sv known)
access-kept w here n (access.Call callee arguments) s h = call-kept w here n callee s h
access-kept w here n (access.New callee arguments) s h = new-kept w here n callee s h

node_of-kept : (w : World) (here : Context) (name : Option FunctionName) (n : NodeId) (found : Option Node) → IsSound w → IsHere w here → IfThere (IsKnownName w.lists) name → Keeps (node_of here name n found) w
node_of-kept w here name n None s h known = done-kept w _ s tt
node_of-kept w here name n (Some (node.Statement p)) s h known = statement-kept w here n p s h
node_of-kept w here name n (Some (node.Operator o)) s h known = operator-kept w here n o s h
node_of-kept w here name n (Some (node.Access a)) s h known = access-kept w here n a s h
node_of-kept w here name n (Some (node.Primary p)) s h known = primary-kept w here name n p s h known

-- ---- the tasks

pub node-kept : (w : World) (body : Running) (cells : List CellNo) (name : Option FunctionName) (n : NodeId) → IsSound w → IsKnownTask w.script w.lists (Evaluating body cells name n) →
    IsKept (FitsTask (Evaluating body cells name n)) (node_program w.script body cells name n) w
node-kept w body cells name n s h =
    let here : Context = context w.script body cells in
    kept-whole (node_program w.script body cells name n) w (charged-kept w (node_of here name n (slice_get w.script.nodes n.0)) s (λ v sv l.
    node_of-kept v here name n (slice_get w.script.nodes n.0) sv (here-stays w v l here (h.0, h.1, refl)) (there-map (IsKnownName w.lists) (IsKnownName v.lists) (name-stays w v l) name h.2)))

pub statements-kept : (w : World) (body : Running) (cells : List CellNo) (list : Part) (i : ℕ) → IsSound w → IsKnownTask w.script w.lists (Statements body cells list i) →
    IsKept (FitsTask (Statements body cells list i)) (statements_program w.script body cells list i) w
statements-kept w body cells list i s h =
    kept-whole (statements_program w.script body cells list i) w (statement_at-kept w (context w.script body cells) list i (slice_get (statements_of w.script list) i) s (h.0, h.1, refl))

pub round-kept : (w : World) (body : Running) (cells : List CellNo) (n : NodeId) → IsSound w → IsKnownTask w.script w.lists (Round body cells n) →
    IsKept (FitsTask (Round body cells n)) (round_program w.script body cells n) w
round-kept w body cells n s h = kept-whole (round_program w.script body cells n) w (round_of-kept w (context w.script body cells) n (slice_get w.script.nodes n.0) s (h.0, h.1, refl))
