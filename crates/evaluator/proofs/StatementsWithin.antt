-- Statements keep within their budgets.
use Rattle.std.proofs.Common.{ℕ, ◌+◌, ◌≤◌, Option, Some, None, List, [], ◌∷◌, arith}
use Rattle.std.specs.Prelude.{zero, suc}
use Rattle.property_keys.specs.declared.values.Value.{Value}
use Rattle.es_tree.specs.declared.names.Named.{Named}
use Rattle.es_tree.specs.declared.node.Node.{Node}
use Rattle.es_tree.specs.declared.node.Node.TheVariants as node
use Rattle.es_tree.specs.declared.numbers.NodeId.{NodeId}
use Rattle.es_tree.specs.declared.statements.Block.{Block}
use Rattle.es_tree.specs.declared.statements.Catch.{Catch}
use Rattle.es_tree.specs.declared.statements.Declared.{Declared}
use Rattle.es_tree.specs.declared.statements.Statement.{Statement}
use Rattle.es_tree.specs.declared.statements.Statement.TheVariants as statement
use Rattle.es_model.specs.declared.running.FunctionName.TheVariants as given_name
use Rattle.es_model.specs.declared.kinds.CellNo.{CellNo}
use Rattle.es_model.specs.declared.running.Part.{Part}
use Rattle.es_model.specs.declared.running.Part.TheVariants as part_of
use Rattle.es_model.specs.Completions.{Completion, Normal, Break, Continue, Return, Throw}
use Rattle.es_model.specs.Program.{Program}
use Rattle.evaluator.specs.Contexts.{Context, node_at}
use Rattle.es_model.specs.Changes.{SettingCell}
use Rattle.evaluator.specs.Scopes.{bound_cell, enter_scope, enter_with, make_cells}
use Rattle.evaluator.specs.Statements.{after_statement, block_last, block_then, catch_in, catch_of, declare_all, declare_first, declared_valued, finally_in, finish_try, for_again, for_begun, for_first, for_round, for_step, for_stepped, for_valued, if_valued, last_ended, last_of, otherwise, return_statement, return_valued, round_of, statement_at, statement_program, throw_valued, tried_ended, while_again, while_valued}
use Rattle.evaluator.proofs.WordsWithin.{On, Within, change-within, cond-within, done-within, evaluated-within, listed-within, look-within, text-within, value-within, last_node-within, last_list-within, last_round-within}

-- ---- scopes

make_cells-within : (r b n : ℕ) (cells : List CellNo) (next : List CellNo → Program) → ((all : List CellNo) → Within r b (next all)) → Within r b (make_cells n cells next)
make_cells-within r b zero cells next h = h cells
make_cells-within r b (suc n) cells next h = look-within _ _ _ (λ l. change-within _ _ _ _ (make_cells-within r b n _ next h))

pub scope-within : (r b : ℕ) (here : Context) (names : ℕ) (next : Context → Program) → ((inner : Context) → Within r b (next inner)) → Within r b (enter_scope here names next)
scope-within r b here names next h = make_cells-within r b names here.cells _ (λ all. h _)

enter_with-within : (r b : ℕ) (here : Context) (named : Option Named) (v : Value) (next : Context → Program) → ((inner : Context) → Within r b (next inner)) → Within r b (enter_with here named v next)
enter_with-within r b here None v next h = h here
enter_with-within r b here (Some named) v next h = look-within _ _ _ (λ l. change-within _ _ _ _ (h _))

-- ---- statements one after another

pub after_statement-within : (r b : ℕ) (here : Context) (list : Part) (i : ℕ) → 2 ≤ b → On r b (after_statement here list i)
after_statement-within r b here list i some (Normal reply) = last_list-within r b here list i some
after_statement-within r b here list i some Break = done-within _ _ _
after_statement-within r b here list i some Continue = done-within _ _ _
after_statement-within r b here list i some (Return v) = done-within _ _ _
after_statement-within r b here list i some (Throw v) = done-within _ _ _

pub statement_at-within : (r b : ℕ) (here : Context) (list : Part) (i : ℕ) (found : Option NodeId) → 1 ≤ b → 2 ≤ r → Within r b (statement_at here list i found)
statement_at-within r b here list i None some enough = done-within _ _ _
statement_at-within r b here list i (Some n) some enough = evaluated-within r b here None n (after_statement here list (suc i)) some (after_statement-within r r here list (suc i) enough)

block_then-within : (r b left : ℕ) (here : Context) (block : Block) (list : Part) (next : Completion → Program) → left + 2 ≤ b → On r left next → Within r b (block_then here block list next)
block_then-within r b left here block list next some h = scope-within r b here block.names _ (λ inner. listed-within r b left inner.body inner.cells list zero next some h)

block_last-within : (r b : ℕ) (here : Context) (block : Block) (list : Part) → 2 ≤ b → Within r b (block_last here block list)
block_last-within r b here block list some = scope-within r b here block.names _ (λ inner. last_list-within r b inner list zero some)

-- ---- let and const

declare_first-within : (r b : ℕ) (here : Context) (d : Declared) (v : Option NodeId) (next : Program) → 1 ≤ b → Within r b next → Within r r next → Within r b (declare_first here d v next)
declare_first-within r b here d None next some h onward = change-within _ _ _ _ h
declare_first-within r b here d (Some n) next some h onward = text-within r b d.named.name _ (λ name.
    evaluated-within r b here (Some (given_name.Text name)) n _ some (λ c. value-within r r _ c (λ x. change-within _ _ (SettingCell (bound_cell here d.named.binding) x) _ onward)))

pub declare_all-within : (r b : ℕ) (here : Context) (ds : List Declared) → 1 ≤ b → 1 ≤ r → Within r b (declare_all here ds)
declare_all-within r b here [] some enough = done-within _ _ _
declare_all-within r b here (d ∷ ds) some enough =
    declare_first-within r b here d d.value (declare_all here ds) some (declare_all-within r b here ds some enough) (declare_all-within r r here ds enough enough)

pub declared_valued-within : (r b : ℕ) (here : Context) (ds : List Declared) → 1 ≤ b → 1 ≤ r → On r b (declared_valued here ds)
declared_valued-within r b here [] some enough = λ c. (done-within _ _ _)
declared_valued-within r b here (d ∷ ds) some enough = λ c. value-within r b _ c (λ v. change-within _ _ (SettingCell (bound_cell here d.named.binding) v) _ (declare_all-within r b here ds some enough))

-- ---- if

otherwise-within : (r b : ℕ) (here : Context) (other : Option NodeId) → 1 ≤ b → Within r b (otherwise here other)
otherwise-within r b here None some = done-within _ _ _
otherwise-within r b here (Some n) some = last_node-within r b here n some

pub if_valued-within : (r b : ℕ) (here : Context) (first : NodeId) (other : Option NodeId) → 1 ≤ b → On r b (if_valued here first other)
if_valued-within r b here first other some = λ c. value-within r b _ c (λ v. look-within _ _ _ (λ l. cond-within r b _ _ _ (last_node-within r b here first some) (otherwise-within r b here other some)))

-- ---- loops

pub while_again-within : (r b : ℕ) (here : Context) (n : NodeId) → 2 ≤ b → On r b (while_again here n)
while_again-within r b here n some (Normal reply) = last_round-within r b here n some
while_again-within r b here n some Continue = last_round-within r b here n some
while_again-within r b here n some Break = done-within _ _ _
while_again-within r b here n some (Return v) = done-within _ _ _
while_again-within r b here n some (Throw v) = done-within _ _ _

pub while_valued-within : (r b : ℕ) (here : Context) (n body : NodeId) → 1 ≤ b → 2 ≤ r → On r b (while_valued here n body)
while_valued-within r b here n body some enough = λ c. value-within r b _ c (λ v. look-within _ _ _ (λ l.
    cond-within r b _ _ _ (evaluated-within r b here None body (while_again here n) some (while_again-within r r here n enough)) (done-within _ _ _)))

pub for_stepped-within : (r b : ℕ) (here : Context) (n : NodeId) → 2 ≤ b → On r b (for_stepped here n)
for_stepped-within r b here n some = λ c. value-within r b _ c (λ v. last_round-within r b here n some)

for_step-within : (r b : ℕ) (here : Context) (n : NodeId) (step : Option NodeId) → 2 ≤ b → 2 ≤ r → Within r b (for_step here n step)
for_step-within r b here n None some enough = last_round-within r b here n some
for_step-within r b here n (Some step) some enough = evaluated-within r b here None step (for_stepped here n) (omega arith) (for_stepped-within r r here n enough)

pub for_again-within : (r b : ℕ) (here : Context) (n : NodeId) (step : Option NodeId) → 2 ≤ b → 2 ≤ r → On r b (for_again here n step)
for_again-within r b here n step some enough (Normal reply) = for_step-within r b here n step some enough
for_again-within r b here n step some enough Continue = for_step-within r b here n step some enough
for_again-within r b here n step some enough Break = done-within _ _ _
for_again-within r b here n step some enough (Return v) = done-within _ _ _
for_again-within r b here n step some enough (Throw v) = done-within _ _ _

pub for_valued-within : (r b : ℕ) (here : Context) (n : NodeId) (step : Option NodeId) (body : NodeId) → 1 ≤ b → 2 ≤ r → On r b (for_valued here n step body)
for_valued-within r b here n step body some enough = λ c. value-within r b _ c (λ v. look-within _ _ _ (λ l.
    cond-within r b _ _ _ (evaluated-within r b here None body (for_again here n step) some (for_again-within r r here n step enough enough)) (done-within _ _ _)))

for_round-within : (r b : ℕ) (here : Context) (n : NodeId) (test step : Option NodeId) (body : NodeId) → 1 ≤ b → 2 ≤ r → Within r b (for_round here n test step body)
for_round-within r b here n None step body some enough = evaluated-within r b here None body (for_again here n step) some (for_again-within r r here n step enough enough)
for_round-within r b here n (Some test) step body some enough =
    evaluated-within r b here None test (for_valued here n step body) some (for_valued-within r r here n step body (omega arith) enough)

pub round_of-within : (r b : ℕ) (here : Context) (n : NodeId) (found : Option Node) → 1 ≤ b → 2 ≤ r → Within r b (round_of here n found)
round_of-within r b here n (Some (node.Statement (statement.While test body))) some enough =
    evaluated-within r b here None test (while_valued here n body) some (while_valued-within r r here n body (omega arith) enough)
round_of-within r b here n (Some (node.Statement (statement.For names first test step body))) some enough = for_round-within r b here n test step body some enough
round_of-within r b here n other some enough = done-within _ _ _

pub for_begun-within : (r b : ℕ) (here : Context) (n : NodeId) → 2 ≤ b → On r b (for_begun here n)
for_begun-within r b here n some (Normal reply) = last_round-within r b here n some
for_begun-within r b here n some Break = done-within _ _ _
for_begun-within r b here n some Continue = done-within _ _ _
for_begun-within r b here n some (Return v) = done-within _ _ _
for_begun-within r b here n some (Throw v) = done-within _ _ _

for_first-within : (r b : ℕ) (here : Context) (n : NodeId) (first : Option NodeId) → 2 ≤ b → 2 ≤ r → Within r b (for_first here n first)
for_first-within r b here n None some enough = last_round-within r b here n some
for_first-within r b here n (Some first) some enough = evaluated-within r b here None first (for_begun here n) (omega arith) (for_begun-within r r here n enough)

-- ---- return, throw and try

pub return_valued-within : (r b : ℕ) → On r b return_valued
return_valued-within r b = λ c. value-within r b _ c (λ v. (done-within _ _ _))

return-within : (r b : ℕ) (here : Context) (v : Option NodeId) → 1 ≤ b → Within r b (return_statement here v)
return-within r b here None some = done-within _ _ _
return-within r b here (Some n) some = evaluated-within r b here None n return_valued some (return_valued-within r r)

pub throw_valued-within : (r b : ℕ) → On r b throw_valued
throw_valued-within r b = λ c. value-within r b _ c (λ v. (done-within _ _ _))

pub last_ended-within : (r b : ℕ) (before : Completion) → On r b (last_ended before)
last_ended-within r b before (Normal reply) = done-within _ _ _
last_ended-within r b before Break = done-within _ _ _
last_ended-within r b before Continue = done-within _ _ _
last_ended-within r b before (Return v) = done-within _ _ _
last_ended-within r b before (Throw v) = done-within _ _ _

last_of-within : (r b : ℕ) (here : Context) (n : NodeId) (finally : Option Block) (before : Completion) → 2 ≤ b → Within r b (last_of here n finally before)
last_of-within r b here n None before some = done-within _ _ _
last_of-within r b here n (Some block) before some = block_then-within r b 0 here block (part_of.Finally n) (last_ended before) some (last_ended-within r 0 before)

pub finish_try-within : (r b : ℕ) (here : Context) (n : NodeId) → 2 ≤ b → On r b (finish_try here n)
finish_try-within r b here n some = λ c. last_of-within r b here n (finally_in (node_at here n)) c some

catch_of-within : (r b : ℕ) (here : Context) (n : NodeId) (catch : Option Catch) (thrown : Value) → 4 ≤ b → Within r b (catch_of here n catch thrown)
catch_of-within r b here n None thrown some = finish_try-within r b here n (omega arith) (Throw thrown)
catch_of-within r b here n (Some catch) thrown some = enter_with-within r b here catch.parameter thrown _ (λ inner.
    block_then-within r b 2 inner catch.block (part_of.Caught n) (finish_try here n) some (finish_try-within r 2 here n (omega arith)))

pub tried_ended-within : (r b : ℕ) (here : Context) (n : NodeId) → 4 ≤ b → On r b (tried_ended here n)
tried_ended-within r b here n some (Throw thrown) = catch_of-within r b here n (catch_in (node_at here n)) thrown some
tried_ended-within r b here n some (Normal reply) = finish_try-within r b here n (omega arith) (Normal reply)
tried_ended-within r b here n some Break = finish_try-within r b here n (omega arith) Break
tried_ended-within r b here n some Continue = finish_try-within r b here n (omega arith) Continue
tried_ended-within r b here n some (Return v) = finish_try-within r b here n (omega arith) (Return v)

-- ---- each statement

pub statement-within : (r b : ℕ) (here : Context) (n : NodeId) (s : Statement) → 6 ≤ b → 6 ≤ r → Within r b (statement_program here n s)
statement-within r b here n (statement.Block block) some enough = block_last-within r b here block (part_of.Block n) (omega arith)
statement-within r b here n (statement.Lexical constant names) some enough = declare_all-within r b here names (omega arith) (omega arith)
statement-within r b here n statement.Empty some enough = done-within _ _ _
statement-within r b here n (statement.Expression child) some enough = last_node-within r b here child (omega arith)
statement-within r b here n (statement.If test first other) some enough =
    evaluated-within r b here None test (if_valued here first other) (omega arith) (if_valued-within r r here first other (omega arith))
statement-within r b here n (statement.While test body) some enough = last_round-within r b here n (omega arith)
statement-within r b here n (statement.For names first test step body) some enough =
    scope-within r b here names _ (λ inner. for_first-within r b inner n first (omega arith) (omega arith))
statement-within r b here n statement.Break some enough = done-within _ _ _
statement-within r b here n statement.Continue some enough = done-within _ _ _
statement-within r b here n (statement.Return v) some enough = return-within r b here v (omega arith)
statement-within r b here n (statement.Throw v) some enough = evaluated-within r b here None v throw_valued (omega arith) (throw_valued-within r r)
statement-within r b here n (statement.Try block catch finally) some enough =
    block_then-within r b 4 here block (part_of.Tried n) (tried_ended here n) some (tried_ended-within r 4 here n (omega arith))
