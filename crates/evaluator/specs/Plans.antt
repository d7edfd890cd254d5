-- What the items and jobs of a running body mean, and what a function of the evaluator has to give.
use Rattle.std.specs.Prelude.{◌≡◌, ℕ, Bool, true, not, List, [], ◌∷◌, ◌++◌, ◌+◌, drop, Result, Ok, Err, Option, Some, None, length, slice_get}
use Rattle.property_keys.specs.declared.identifiers.ObjectId.{ObjectId}
use Rattle.property_keys.specs.declared.identifiers.TextId.{TextId}
use Rattle.property_keys.specs.declared.keys.PropKey.{PropKey}
use Rattle.property_keys.specs.declared.values.Value.{Value}
use Rattle.property_keys.specs.declared.values.Value.TheVariants as value
use Rattle.descriptors.specs.declared.fields.Descriptor.{Descriptor}
use Rattle.es_tree.specs.declared.primaries.Property.{Property}
use Rattle.es_tree.specs.declared.primaries.Property.TheVariants as property
use Rattle.es_tree.specs.declared.numbers.NodeId.{NodeId}
use Rattle.es_tree.specs.Tree.{Tree}
use Rattle.es_model.specs.declared.answers.Stop.{Stop}
use Rattle.es_model.specs.declared.answers.Stop.TheVariants.{Halted, NoMemory}
use Rattle.es_model.specs.declared.kinds.CellNo.{CellNo}
use Rattle.es_model.specs.declared.requests.Operation.TheVariants as operation
use Rattle.es_model.specs.declared.requests.Request.TheVariants.{Has}
use Rattle.es_model.specs.declared.running.NamePrefix.{NamePrefix}
use Rattle.es_model.specs.declared.running.NamePrefix.TheVariants as name_prefix
use Rattle.es_model.specs.declared.running.Running.{Running}
use Rattle.es_model.specs.Completions.{Completion, Break, Continue, Return, Throw}
use Rattle.es_model.specs.Changes.{Interning, changed}
use Rattle.es_model.specs.World.{World, units_of}
use Rattle.es_model.specs.Program.{Program, define, done, ask, Task, Evaluating, Statements, Round}
use Rattle.es_model.specs.Stages.{Stage, AtEnd, AtHalt, AtAsk, AtPart, stage_of}
use Rattle.es_model.specs.programs.Abrupt.{then_flag, then_key, then_value}
use Rattle.es_model.specs.programs.Converting.{to_number}
use Rattle.es_model.specs.programs.Texts.{to_string}
use Rattle.object_heap.specs.Stands.{HeapView, Goes, Halts, StandsFor}
use Rattle.evaluator.specs.declared.items.AccessItem.{AccessItem}
use Rattle.evaluator.specs.declared.items.AccessItem.TheVariants as access
use Rattle.evaluator.specs.declared.items.Asked.{Asked}
use Rattle.evaluator.specs.declared.items.Asked.TheVariants as asked
use Rattle.evaluator.specs.declared.items.Ending.{Ending}
use Rattle.evaluator.specs.declared.items.Ending.TheVariants as ending
use Rattle.evaluator.specs.declared.items.FlagAsked.{FlagAsked}
use Rattle.evaluator.specs.declared.items.FlagAsked.TheVariants as flag_asked
use Rattle.evaluator.specs.declared.items.Item.{Item}
use Rattle.evaluator.specs.declared.items.Item.TheVariants as item
use Rattle.evaluator.specs.declared.items.Job.{Job}
use Rattle.evaluator.specs.declared.items.Job.TheVariants as job
use Rattle.evaluator.specs.declared.items.KeyAsked.{KeyAsked}
use Rattle.evaluator.specs.declared.items.KeyAsked.TheVariants as key_asked
use Rattle.evaluator.specs.declared.items.LiteralItem.{LiteralItem}
use Rattle.evaluator.specs.declared.items.LiteralItem.TheVariants as literal
use Rattle.evaluator.specs.declared.items.Made.{Made}
use Rattle.evaluator.specs.declared.items.Made.TheVariants as made
use Rattle.evaluator.specs.declared.items.OperatorItem.{OperatorItem}
use Rattle.evaluator.specs.declared.items.OperatorItem.TheVariants as operator
use Rattle.evaluator.specs.declared.items.Plan.{Plan}
use Rattle.evaluator.specs.declared.items.Plan.TheVariants as plan
use Rattle.evaluator.specs.declared.items.Purpose.{Purpose}
use Rattle.evaluator.specs.declared.items.Purpose.TheVariants as purpose
use Rattle.evaluator.specs.declared.items.Reading.{Reading}
use Rattle.evaluator.specs.declared.items.Reading.TheVariants as reading
use Rattle.evaluator.specs.declared.items.StatementItem.{StatementItem}
use Rattle.evaluator.specs.declared.items.StatementItem.TheVariants as statement
use Rattle.evaluator.specs.declared.items.ValueAsked.{ValueAsked}
use Rattle.evaluator.specs.declared.items.ValueAsked.TheVariants as value_asked
use Rattle.evaluator.specs.declared.references.Finish.TheVariants as finish
use Rattle.evaluator.specs.declared.references.Invocation.TheVariants as invocation
use Rattle.evaluator.specs.declared.references.Reference.{Reference}
use Rattle.evaluator.specs.declared.references.Reference.TheVariants as reference
use Rattle.evaluator.specs.Accesses.{key_converted, key_valued, read_reference}
use Rattle.evaluator.specs.Assignments.{assign_reference, compound_reference, compound_valued, update_converted, update_number, update_reference}
use Rattle.evaluator.specs.Calls.{arguments_at, arguments_from, callee_reference}
use Rattle.evaluator.specs.Contexts.{Context, context, convert, evaluate, given, gives, normal}
use Rattle.evaluator.specs.Elements.{element_put, elements_after, elements_in}
use Rattle.evaluator.specs.Functions.{name_units, prefix_units}
use Rattle.evaluator.specs.Literals.{getter, key_converted as literal_key, plain, properties_at, properties_from, properties_in}
use Rattle.evaluator.specs.Literals.{proto_of, setter, value_keyed}
use Rattle.evaluator.specs.Operators.{add_primitives, apply, calculated, comma_at, comma_from, compare, flag_given, joined, minus_converted, negated, not_value}
use Rattle.evaluator.specs.Operators.{right_number, right_primitive, right_text, right_valued, short_value, test_value, to_primitive, typeof_reference, typeof_value}
use Rattle.evaluator.specs.References.{delete_reference, get_value, got_again, put_again, put_value, unless_refused}
use Rattle.evaluator.specs.Statements as statements
use Rattle.evaluator.specs.Tasks.{node_program, round_program, statements_program}

-- ---- ends

abbrev pub ended : Ending → Completion
ended (ending.Gives v) = normal v
ended ending.Breaks = Break
ended ending.Continues = Continue
ended (ending.Returns v) = Return v
ended (ending.Throws v) = Throw v

abbrev pub or_end : {A : Type 0} → Result A Ending → Result A Completion
or_end (Ok x) = Ok x
or_end (Err e) = Err (ended e)

-- ---- what waits

-- what is done with a reference
abbrev pub purpose_program : Context → Purpose → Reference → Program
purpose_program here purpose.Read r = read_reference here r
purpose_program here (purpose.Call n) r = callee_reference here n r
purpose_program here purpose.Delete r = delete_reference here r
purpose_program here purpose.Typeof r = typeof_reference here r
purpose_program here (purpose.Assign v) r = assign_reference here v r
purpose_program here (purpose.Compound op v) r = compound_reference here op v r
purpose_program here (purpose.Update increment prefix) r = update_reference here increment prefix r

-- the property definitions of a node from a number on
abbrev pub definitions_from : Context → NodeId → ℕ → ObjectId → Program
definitions_from here n next o = properties_from here o (drop next (properties_at here n))

-- what is done with a value that was got from a reference
abbrev pub reading_valued : Context → Reading → Value → Program
reading_valued here reading.Give v = gives v
reading_valued here (reading.Callee n this) v = arguments_from here (invocation.Call v this) (arguments_at here n) []
reading_valued here reading.Typeof v = typeof_value v
reading_valued here (reading.Compound op x r) v = evaluate here x (compound_valued here op r v)
reading_valued here (reading.Update increment prefix r) v = to_number v (update_converted here increment prefix r)
reading_valued here (reading.Shorthand n next o k) v = define o k (plain v) (λ succeeded. definitions_from here n next o)

abbrev pub reading_program : Context → Reading → Completion → Program
reading_program here r c = then_value (reading_valued here r) c

abbrev pub access_valued : Context → AccessItem → Value → Program
access_valued here (access.MemberBased k read write aim) base = purpose_program here aim (reference.Property base k read write)
access_valued here (access.IndexBased k read write aim) base = evaluate here k (key_valued base read write (purpose_program here aim))
access_valued here (access.KeyValued base read write aim) v = convert operation.ToKey v (key_converted base read write (purpose_program here aim))

abbrev pub operator_valued : Context → OperatorItem → Value → Program
operator_valued here operator.DeleteValued v = gives (value.Bool true)
operator_valued here operator.VoidValued v = gives value.Undefined
operator_valued here operator.PlusValued v = to_number v given
operator_valued here operator.MinusValued v = to_number v minus_converted
operator_valued here operator.NotValued v = not_value v
operator_valued here (operator.LeftValued op right) v = evaluate here right (right_valued here op v)
operator_valued here (operator.RightValued op left) v = compare here op left v
operator_valued here (operator.ShortValued op right) v = short_value here op right v
operator_valued here (operator.TestValued taken other) v = test_value here taken other v
operator_valued here (operator.CommaValued n next) v = comma_from here (drop next (comma_at here n)) v
operator_valued here (operator.AssignValued r) v = put_value here r v v
operator_valued here (operator.CompoundValued op r left) v = apply here op (finish.Put r) left v

-- what a property definition makes of its value
abbrev pub made_by : Made → Value → Descriptor
made_by made.Plain v = plain v
made_by made.Getter v = getter v
made_by made.Setter v = setter v

-- The first of these property definitions, once its key is there. A name alone and `__proto__` have no key that is converted
abbrev pub property_keyed : Context → ObjectId → List Property → PropKey → Program
property_keyed here o [] k = gives (value.Object o)
property_keyed here o (property.Value name v ∷ ps) k = value_keyed here o name_prefix.Nothing plain v (properties_from here o ps) k
property_keyed here o (property.Method name m ∷ ps) k = value_keyed here o name_prefix.Nothing plain m (properties_from here o ps) k
property_keyed here o (property.Getter name m ∷ ps) k = value_keyed here o name_prefix.Get getter m (properties_from here o ps) k
property_keyed here o (property.Setter name m ∷ ps) k = value_keyed here o name_prefix.Set setter m (properties_from here o ps) k
property_keyed here o (property.Shorthand named ∷ ps) k = gives (value.Object o)
property_keyed here o (property.Prototype v ∷ ps) k = gives (value.Object o)

abbrev pub literal_valued : Context → LiteralItem → Value → Program
literal_valued here (literal.PropertyValued n next o k m) v = define o k (made_by m v) (λ succeeded. definitions_from here n next o)
literal_valued here (literal.KeyValued n at o) v = convert operation.ToKey v (literal_key (property_keyed here o (drop at (properties_at here n))))
literal_valued here (literal.ProtoValued n next o) v = proto_of o (definitions_from here n next o) v
literal_valued here (literal.ElementValued n i a) v = element_put a i (elements_after here n (i + 1) a) v

abbrev pub statement_item : Context → StatementItem → Completion → Program
statement_item here (statement.AfterStatement list next) c = statements.after_statement here list next c
statement_item here (statement.Declared n next) c = statements.declared_valued here (drop next (statements.declared_at here n)) c
statement_item here (statement.IfValued taken other) c = statements.if_valued here taken other c
statement_item here (statement.WhileValued n body) c = statements.while_valued here n body c
statement_item here (statement.WhileAgain n) c = statements.while_again here n c
statement_item here (statement.ForBegun n) c = statements.for_begun here n c
statement_item here (statement.ForValued n step body) c = statements.for_valued here n step body c
statement_item here (statement.ForAgain n step) c = statements.for_again here n step c
statement_item here (statement.ForStepped n) c = statements.for_stepped here n c
statement_item here statement.ReturnValued c = statements.return_valued c
statement_item here statement.ThrowValued c = statements.throw_valued c
statement_item here (statement.TriedEnded n) c = statements.tried_ended here n c
statement_item here (statement.CaughtEnded n) c = statements.finish_try here n c
statement_item here (statement.LastEnded before) c = statements.last_ended (ended before) c

-- what an expression that waits for the value of a part does with it
abbrev pub item_valued : Context → Item → Value → Program
item_valued here (item.Read r) v = reading_valued here r v
item_valued here (item.Access i) v = access_valued here i v
item_valued here (item.Operator i) v = operator_valued here i v
item_valued here (item.Literal i) v = literal_valued here i v
item_valued here (item.Statement i) v = gives v
item_valued here (item.Argument n next i given) v = arguments_from here i (drop next (arguments_at here n)) (given ++ v ∷ [])
item_valued here (item.Constructor n) v = arguments_from here (invocation.Construct v) (arguments_at here n) []

-- what an item that waits for a part does with the part's end
abbrev pub item_program : Context → Item → Completion → Program
item_program here (item.Read r) c = then_value (reading_valued here r) c
item_program here (item.Access i) c = then_value (access_valued here i) c
item_program here (item.Operator i) c = then_value (operator_valued here i) c
item_program here (item.Literal i) c = then_value (literal_valued here i) c
item_program here (item.Statement i) c = statement_item here i c
item_program here (item.Argument n next i given) c = then_value (λ v. arguments_from here i (drop next (arguments_at here n)) (given ++ v ∷ [])) c
item_program here (item.Constructor n) c = then_value (λ f. arguments_from here (invocation.Construct f) (arguments_at here n) []) c

-- ---- what waits for an answer

abbrev pub value_answered : Context → ValueAsked → Value → Program
value_answered here (value_asked.Read r) v = reading_valued here r v
value_answered here value_asked.MinusConverted v = negated v
value_answered here (value_asked.LeftPrimitive end right) v = to_primitive right (right_primitive here end v)
value_answered here (value_asked.RightPrimitive end left) v = add_primitives here end left v
value_answered here (value_asked.LeftText end right) v = to_string right (right_text here end v)
value_answered here (value_asked.RightText end left) v = joined here end left v
value_answered here (value_asked.LeftNumber op end right) v = to_number right (right_number here op end v)
value_answered here (value_asked.RightNumber op end left) v = calculated here op end left v
value_answered here (value_asked.UpdateConverted increment prefix r) v = update_number here increment prefix r v

abbrev pub flag_answered : Context → FlagAsked → Bool → Program
flag_answered here (flag_asked.Looked name k aim) b = purpose_program here aim (reference.Global name k b)
flag_answered here (flag_asked.LookedAgain name k r) b = got_again here name k (reading_program here r) b
flag_answered here (flag_asked.PutLooked name k v result) b = put_again here name k v result b
flag_answered here (flag_asked.PutAnswered result) b = unless_refused here b result
flag_answered here flag_asked.DeleteAnswered b = unless_refused here b (value.Bool b)
flag_answered here flag_asked.FlagGiven b = gives (value.Bool b)
flag_answered here flag_asked.FlagDenied b = gives (value.Bool (not b))
flag_answered here (flag_asked.ReadLooked name k r) b = get_value here (reference.Global name k b) (reading_program here r)
flag_answered here (flag_asked.ProtoAnswered n next o) b = definitions_from here n next o

abbrev pub key_answered : Context → KeyAsked → PropKey → Program
key_answered here (key_asked.KeyConverted base read write aim) k = purpose_program here aim (reference.Property base k read write)
key_answered here (key_asked.InKeyed o) k = ask (Has o k) flag_given
key_answered here (key_asked.PropertyKey n at o) k = property_keyed here o (drop at (properties_at here n)) k

-- what waits for an answer does with it
abbrev pub asked_program : Context → Asked → Completion → Program
asked_program here (asked.Value i) c = then_value (value_answered here i) c
asked_program here (asked.Flag i) c = then_flag (flag_answered here i) c
asked_program here (asked.Key i) c = then_key (key_answered here i) c

-- ---- jobs

abbrev pub task_of : Context → Job → Task
task_of here (job.Node name n) = Evaluating here.body here.cells name n
task_of here (job.Round n) = Round here.body here.cells n
task_of here (job.Statements list i) = Statements here.body here.cells list i

abbrev pub job_program : Context → Job → Program
job_program here (job.Node name n) = node_program here.script here.body here.cells name n
job_program here (job.Round n) = round_program here.script here.body here.cells n
job_program here (job.Statements list i) = statements_program here.script here.body here.cells list i

-- ---- plans

-- The plan is where the program stops: at its end, at a question or at a part of it, and the item stands for the rest. The program began with the names of the
-- outer context, and those of the inner one are in force now
abbrev pub Plans : Context → Context → HeapView → HeapView → World → Stage → Result Plan Stop → Type 0
Plans outer inner old new w stage (Err NoMemory) = Unit {0}
Plans outer inner old new w (AtEnd c v) (Ok (plan.Ends e)) = (ended e ≡ c) × Goes old new w v
Plans outer inner old new w (AtAsk q k v) (Ok (plan.Ask p i)) = (p ≡ q) × (asked_program inner i ≡ k) × Goes old new w v
Plans outer inner old new w (AtPart t k v) (Ok (plan.Wait j i)) = (task_of inner j ≡ t) × (item_program inner i ≡ k) × Goes old new w v
Plans outer inner old new w (AtPart t k v) (Ok (plan.Last j)) = (task_of inner j ≡ t) × (done ≡ k) × Goes old new w v
Plans outer inner old new w (AtPart t k v) (Ok (plan.Enter j i depth)) =
    (task_of inner j ≡ t) × (statement_item outer i ≡ k) × (depth ≡ length outer.cells) × Goes old new w v
Plans outer inner old new w (AtHalt v) (Err Halted) = Halts old new w v
Plans outer inner old new w stage result = ⊥

-- the plan of a program, for each world that the heap stands for
abbrev pub PlansIn : Context → Context → HeapView → HeapView → (Context → Program) → Result Plan Stop → Type 0
PlansIn outer inner old new p result = (w : World) → StandsFor old w → Plans outer inner old new w (stage_of (p outer) w) result

abbrev pub PlansAt : Tree → Running → List CellNo → HeapView → HeapView → (Context → Program) → Result Plan Stop → Type 0
PlansAt script body cells old new p result = PlansIn (context script body cells) (context script body cells) old new p result

-- the same in a world of the script
abbrev pub PlansOf : Context → Context → HeapView → HeapView → (Context → Program) → Result Plan Stop → Type 0
PlansOf outer inner old new p result =
    (w : World) → w.script ≡ outer.script → StandsFor old w → Plans outer inner old new w (stage_of (p outer) w) result

-- What a property definition does: it waits or asks or ends as a plan says, or it is done, and what comes after it goes on
abbrev pub Defines : Context → HeapView → HeapView → World → Program → Program → Result (Option Plan) Stop → Type 0
Defines here old new w whole rest (Ok (Some plan)) = Plans here here old new w (stage_of whole w) (Ok plan)
Defines here old new w whole rest (Ok None) = (v : World) × Goes old new w v × (stage_of whole w ≡ stage_of rest v)
Defines here old new w whole rest (Err stop) = Plans here here old new w (stage_of whole w) (Err stop)

abbrev pub DefinesIn :
    Context → HeapView → HeapView → (Context → Program → Program) → (Context → Program) → Result (Option Plan) Stop → Type 0
DefinesIn here old new p rest result = (w : World) → StandsFor old w → Defines here old new w (p here (rest here)) (rest here) result

abbrev pub DefinesAt :
    Tree → Running → List CellNo → HeapView → HeapView → (Context → Program → Program) → (Context → Program)
    → Result (Option Plan) Stop → Type 0
DefinesAt script body cells old new p rest result = DefinesIn (context script body cells) old new p rest result

-- the property definition that has this number, of the node with that one, stands before those from the next number on
abbrev pub StandsAt : Tree → NodeId → ℕ → ℕ → Property → Type 0
StandsAt script n at next p = drop at (properties_in (slice_get script.nodes n.0)) ≡ p ∷ drop next (properties_in (slice_get script.nodes n.0))

-- the same of an element of an array literal
abbrev pub ElementStandsAt : Tree → NodeId → ℕ → Option NodeId → Type 0
ElementStandsAt script n i e = drop i (elements_in (slice_get script.nodes n.0)) ≡ e ∷ drop (i + 1) (elements_in (slice_get script.nodes n.0))

-- the world after a key gave a name, where it is a text
abbrev pub named_world : World → NamePrefix → PropKey → Option TextId → World
named_world w before k (Some id) = changed (Interning (prefix_units before ++ name_units w.lists k)) w
named_world w before k None = w

-- the world after one text and another are joined, where that is a text
abbrev pub joined_world : World → TextId → TextId → Option TextId → World
joined_world w a b (Some id) = changed (Interning (units_of w.lists a ++ units_of w.lists b)) w
joined_world w a b None = w
