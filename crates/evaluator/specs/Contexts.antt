-- The execution context of a running body (ECMA-262, 9.4), and how an algorithm goes on to the parts of a node.
use Rattle.std.specs.Prelude.{Bool, Option, None, List, [], ◌∷◌, slice_get}
use Rattle.property_keys.specs.declared.values.Value.{Value}
use Rattle.es_tree.specs.declared.node.Node.{Node}
use Rattle.es_tree.specs.declared.numbers.NodeId.{NodeId}
use Rattle.es_tree.specs.Tree.{Tree}
use Rattle.es_model.specs.declared.answers.Reply.TheVariants as reply
use Rattle.es_model.specs.declared.kinds.CellNo.{CellNo}
use Rattle.es_model.specs.declared.requests.Operation.{Operation}
use Rattle.es_model.specs.declared.requests.Request.TheVariants.{Work}
use Rattle.es_model.specs.declared.running.FunctionName.{FunctionName}
use Rattle.es_model.specs.declared.running.Running.{Running}
use Rattle.es_model.specs.Completions.{Completion, Normal}
use Rattle.es_model.specs.Program.{Program, done, ask, part, Evaluating}
use Rattle.es_model.specs.programs.Abrupt.{then_value}
use Rattle.es_model.specs.programs.Errors.{undefined}

-- the script, the body that runs, and the cells of the names that are in force
pub record Context : Type 0 where
  pub script : Tree
  pub body : Running
  pub cells : List CellNo

abbrev pub context : Tree → Running → List CellNo → Context
context script body cells = record { script = script; body = body; cells = cells }

-- the same body in an inner scope
abbrev pub with_cells : Context → List CellNo → Context
with_cells here cells = record { script = here.script; body = here.body; cells = cells }

abbrev pub is_strict : Context → Bool
is_strict here = here.body.strict

abbrev pub node_at : Context → NodeId → Option Node
node_at here n = slice_get here.script.nodes n.0

-- ---- ends and questions

abbrev pub normal : Value → Completion
normal v = Normal (reply.Value v)

-- an expression gives a value
abbrev pub gives : Value → Program
gives v = done (normal v)

-- the value that a request gives
abbrev pub given : Completion → Program
given c = then_value gives c

-- a question with one operand
abbrev pub convert : Operation → Value → (Completion → Program) → Program
convert op v next = ask (Work op (v ∷ [])) next

-- a statement ends normally
abbrev pub falls : Program
falls = done undefined

-- ---- parts

-- a node is evaluated, and then its completion is taken
abbrev pub evaluate : Context → NodeId → (Completion → Program) → Program
evaluate here n k = part (Evaluating here.body here.cells None n) k

-- NamedEvaluation (8.4.5): an anonymous function that is this node gets the name. No other node looks at it
abbrev pub evaluate_named : Context → Option FunctionName → NodeId → (Completion → Program) → Program
evaluate_named here name n k = part (Evaluating here.body here.cells name n) k

-- a node whose completion is that of the whole
abbrev pub evaluate_last : Context → NodeId → Program
evaluate_last here n = part (Evaluating here.body here.cells None n) done
