-- Statements and lexical declarations (ECMA-262, clause 14).
use Rattle.std.specs.Prelude.{ℕ, zero, suc, if◌then◌else◌, Option, Some, None, List, [], ◌∷◌, slice_get}
use Rattle.property_keys.specs.declared.values.Value.{Value}
use Rattle.property_keys.specs.declared.values.Value.TheVariants as value
use Rattle.es_tree.specs.declared.body.Body.{Body}
use Rattle.es_tree.specs.declared.node.Node.{Node}
use Rattle.es_tree.specs.declared.node.Node.TheVariants as node
use Rattle.es_tree.specs.declared.numbers.NodeId.{NodeId}
use Rattle.es_tree.specs.declared.statements.Block.{Block}
use Rattle.es_tree.specs.declared.statements.Catch.{Catch}
use Rattle.es_tree.specs.declared.statements.Declared.{Declared}
use Rattle.es_tree.specs.declared.statements.Statement.{Statement}
use Rattle.es_tree.specs.declared.statements.Statement.TheVariants as statement
use Rattle.es_tree.specs.Tree.{Tree}
use Rattle.es_model.specs.declared.running.FunctionName.TheVariants as given_name
use Rattle.es_model.specs.declared.running.Part.{Part}
use Rattle.es_model.specs.declared.running.Part.TheVariants as part_of
use Rattle.es_model.specs.Completions.{Completion, Normal, Break, Continue, Return, Throw}
use Rattle.es_model.specs.Program.{Program, done, look, part, Statements, Round}
use Rattle.es_model.specs.programs.Abrupt.{then_value}
use Rattle.evaluator.specs.Contexts.{Context, evaluate, evaluate_last, evaluate_named, falls, node_at}
use Rattle.evaluator.specs.Errors.{make_text}
use Rattle.evaluator.specs.Scopes.{enter_scope, enter_with, initialise}
use Rattle.es_model.specs.programs.Testing.{is_truth}

-- ---- the lists of statements of the tree

abbrev pub no_block : Block
no_block = record { names = 0; items = [] }

abbrev pub block_or_none : Option Block → Block
block_or_none None = no_block
block_or_none (Some block) = block

abbrev pub caught_block : Option Catch → Block
caught_block None = no_block
caught_block (Some catch) = catch.block

abbrev pub block_in : Option Node → Block
block_in (Some (node.Statement (statement.Block block))) = block
block_in other = no_block

abbrev pub tried_in : Option Node → Block
tried_in (Some (node.Statement (statement.Try block catch finally))) = block
tried_in other = no_block

abbrev pub caught_in : Option Node → Block
caught_in (Some (node.Statement (statement.Try block catch finally))) = caught_block catch
caught_in other = no_block

abbrev pub last_in : Option Node → Block
last_in (Some (node.Statement (statement.Try block catch finally))) = block_or_none finally
last_in other = no_block

abbrev pub items_of : Option Body → List NodeId
items_of None = []
items_of (Some body) = body.items

abbrev pub statements_of : Tree → Part → List NodeId
statements_of script part_of.Script = script.script.items
statements_of script (part_of.Body f) = items_of (slice_get script.bodies f.0)
statements_of script (part_of.Block n) = (block_in (slice_get script.nodes n.0)).items
statements_of script (part_of.Tried n) = (tried_in (slice_get script.nodes n.0)).items
statements_of script (part_of.Caught n) = (caught_in (slice_get script.nodes n.0)).items
statements_of script (part_of.Finally n) = (last_in (slice_get script.nodes n.0)).items

-- ---- statements one after another (14.2.2)

abbrev pub statements : Context → Part → ℕ → Program
statements here list i = part (Statements here.body here.cells list i) done

abbrev pub after_statement : Context → Part → ℕ → Completion → Program
after_statement here list i (Normal r) = statements here list i
after_statement here list i abrupt = done abrupt

abbrev pub statement_at : Context → Part → ℕ → Option NodeId → Program
statement_at here list i None = falls
statement_at here list i (Some n) = evaluate here n (after_statement here list (suc i))

-- a block in a scope of its own (14.2.2), and what comes then
abbrev pub block_then : Context → Block → Part → (Completion → Program) → Program
block_then here block list next = enter_scope here block.names (λ inner. part (Statements inner.body inner.cells list zero) next)

abbrev pub block_last : Context → Block → Part → Program
block_last here block list = enter_scope here block.names (λ inner. statements inner list zero)

-- ---- let and const (14.3.1.2). An anonymous function gets the name

-- a name with its value, or with undefined where it has none, and what comes then
abbrev pub declare_first : Context → Declared → Option NodeId → Program → Program
declare_first here d None next = initialise here d.named.binding value.Undefined next
declare_first here d (Some n) next = make_text d.named.name (λ name.
    evaluate_named here (Some (given_name.Text name)) n (λ c. then_value (λ v. initialise here d.named.binding v next) c))

abbrev pub declare_all : Context → List Declared → Program
declare_all here [] = falls
declare_all here (d ∷ ds) = declare_first here d d.value (declare_all here ds)

abbrev pub declared_in : Option Node → List Declared
declared_in (Some (node.Statement (statement.Lexical constant names))) = names
declared_in other = []

-- the names that a node declares
abbrev pub declared_at : Context → NodeId → List Declared
declared_at here n = declared_in (node_at here n)

-- the first of these names has its value
abbrev pub declared_valued : Context → List Declared → Completion → Program
declared_valued here [] c = falls
declared_valued here (d ∷ ds) c = then_value (λ v. initialise here d.named.binding v (declare_all here ds)) c

-- ---- if (14.6.2)

abbrev pub otherwise : Context → Option NodeId → Program
otherwise here None = falls
otherwise here (Some n) = evaluate_last here n

abbrev pub if_valued : Context → NodeId → Option NodeId → Completion → Program
if_valued here taken other c = then_value (λ v. look (λ l. if is_truth l v then evaluate_last here taken else otherwise here other)) c

-- ---- loops (14.7). A round is a part of its own, so that a loop goes on without an end

abbrev pub round : Context → NodeId → Program
round here n = part (Round here.body here.cells n) done

-- LoopContinues (14.7.1.1) after the body of a `while`
abbrev pub while_again : Context → NodeId → Completion → Program
while_again here n (Normal r) = round here n
while_again here n Continue = round here n
while_again here n Break = falls
while_again here n abrupt = done abrupt

abbrev pub while_valued : Context → NodeId → NodeId → Completion → Program
while_valued here n body c = then_value (λ v. look (λ l. if is_truth l v then evaluate here body (while_again here n) else falls)) c

-- ForBodyEvaluation (14.7.4.3): the test, the body, the last part of the head, and again
abbrev pub for_stepped : Context → NodeId → Completion → Program
for_stepped here n c = then_value (λ v. round here n) c

abbrev pub for_step : Context → NodeId → Option NodeId → Program
for_step here n None = round here n
for_step here n (Some step) = evaluate here step (for_stepped here n)

abbrev pub for_again : Context → NodeId → Option NodeId → Completion → Program
for_again here n step (Normal r) = for_step here n step
for_again here n step Continue = for_step here n step
for_again here n step Break = falls
for_again here n step abrupt = done abrupt

abbrev pub for_valued : Context → NodeId → Option NodeId → NodeId → Completion → Program
for_valued here n step body c = then_value (λ v. look (λ l. if is_truth l v then evaluate here body (for_again here n step) else falls)) c

abbrev pub for_round : Context → NodeId → Option NodeId → Option NodeId → NodeId → Program
for_round here n None step body = evaluate here body (for_again here n step)
for_round here n (Some test) step body = evaluate here test (for_valued here n step body)

abbrev pub round_of : Context → NodeId → Option Node → Program
round_of here n (Some (node.Statement (statement.While test body))) = evaluate here test (while_valued here n body)
round_of here n (Some (node.Statement (statement.For names first test step body))) = for_round here n test step body
round_of here n other = falls

-- the first part of the head has been evaluated
abbrev pub for_begun : Context → NodeId → Completion → Program
for_begun here n (Normal r) = round here n
for_begun here n abrupt = done abrupt

abbrev pub for_first : Context → NodeId → Option NodeId → Program
for_first here n None = round here n
for_first here n (Some first) = evaluate here first (for_begun here n)

-- ---- return (14.10) and throw (14.14)

abbrev pub return_valued : Completion → Program
return_valued c = then_value (λ v. done (Return v)) c

abbrev pub return_statement : Context → Option NodeId → Program
return_statement here None = done (Return value.Undefined)
return_statement here (Some n) = evaluate here n return_valued

abbrev pub throw_valued : Completion → Program
throw_valued c = then_value (λ v. done (Throw v)) c

-- ---- try (14.15.3)

-- after the `finally`: its own abrupt completion takes the place of the one before
abbrev pub last_ended : Completion → Completion → Program
last_ended before (Normal r) = done before
last_ended before abrupt = done abrupt

abbrev pub last_of : Context → NodeId → Option Block → Completion → Program
last_of here n None before = done before
last_of here n (Some block) before = block_then here block (part_of.Finally n) (last_ended before)

abbrev pub finally_in : Option Node → Option Block
finally_in (Some (node.Statement (statement.Try block catch finally))) = finally
finally_in other = None

-- what was tried, or caught, has ended
abbrev pub finish_try : Context → NodeId → Completion → Program
finish_try here n c = last_of here n (finally_in (node_at here n)) c

-- CatchClauseEvaluation (14.15.2): a scope with the parameter, and in it the block's own
abbrev pub catch_of : Context → NodeId → Option Catch → Value → Program
catch_of here n None thrown = finish_try here n (Throw thrown)
catch_of here n (Some catch) thrown =
    enter_with here catch.parameter thrown (λ inner. block_then inner catch.block (part_of.Caught n) (finish_try here n))

abbrev pub catch_in : Option Node → Option Catch
catch_in (Some (node.Statement (statement.Try block catch finally))) = catch
catch_in other = None

abbrev pub tried_ended : Context → NodeId → Completion → Program
tried_ended here n (Throw thrown) = catch_of here n (catch_in (node_at here n)) thrown
tried_ended here n other = finish_try here n other

-- ---- each statement

abbrev pub statement_program : Context → NodeId → Statement → Program
statement_program here n (statement.Block block) = block_last here block (part_of.Block n)
statement_program here n (statement.Lexical constant names) = declare_all here names
statement_program here n statement.Empty = falls
statement_program here n (statement.Expression child) = evaluate_last here child
statement_program here n (statement.If test taken other) = evaluate here test (if_valued here taken other)
statement_program here n (statement.While test body) = round here n
statement_program here n (statement.For names first test step body) = enter_scope here names (λ inner. for_first inner n first)
statement_program here n statement.Break = done Break
statement_program here n statement.Continue = done Continue
statement_program here n (statement.Return v) = return_statement here v
statement_program here n (statement.Throw v) = evaluate here v throw_valued
statement_program here n (statement.Try block catch finally) = block_then here block (part_of.Tried n) (tried_ended here n)
