-- What waits keeps within what a charge gives: each item, and each question.
use Rattle.std.proofs.Common.{ℕ, ◌+◌, ◌*◌, ◌≤◌, Bool, None, List, [], ◌∷◌, ◌++◌, drop, length, arith}
use Rattle.std.proofs.lemmas.List.{length-drop}
use Rattle.property_keys.specs.declared.identifiers.ObjectId.{ObjectId}
use Rattle.property_keys.specs.declared.keys.PropKey.{PropKey}
use Rattle.property_keys.specs.declared.values.Value.{Value}
use Rattle.property_keys.specs.declared.values.Value.TheVariants as value
use Rattle.descriptors.specs.declared.fields.Descriptor.{Descriptor}
use Rattle.es_model.specs.declared.running.NamePrefix.TheVariants as name_prefix
use Rattle.es_model.specs.Program.{Program, define}
use Rattle.es_tree.specs.declared.numbers.NodeId.{NodeId}
use Rattle.es_tree.specs.declared.primaries.Property.{Property}
use Rattle.es_tree.specs.declared.primaries.Property.TheVariants as property
use Rattle.es_tree.specs.Definitions.{most_definitions}
use Rattle.evaluator.specs.declared.items.AccessItem.{AccessItem}
use Rattle.evaluator.specs.declared.items.AccessItem.TheVariants as access
use Rattle.evaluator.specs.declared.items.Asked.{Asked}
use Rattle.evaluator.specs.declared.items.Asked.TheVariants as asked
use Rattle.evaluator.specs.declared.items.FlagAsked.{FlagAsked}
use Rattle.evaluator.specs.declared.items.FlagAsked.TheVariants as flag_asked
use Rattle.evaluator.specs.declared.items.Item.{Item}
use Rattle.evaluator.specs.declared.items.Item.TheVariants as item
use Rattle.evaluator.specs.declared.items.KeyAsked.{KeyAsked}
use Rattle.evaluator.specs.declared.items.KeyAsked.TheVariants as key_asked
use Rattle.evaluator.specs.declared.items.LiteralItem.{LiteralItem}
use Rattle.evaluator.specs.declared.items.LiteralItem.TheVariants as literal
use Rattle.evaluator.specs.declared.items.OperatorItem.{OperatorItem}
use Rattle.evaluator.specs.declared.items.OperatorItem.TheVariants as operator
use Rattle.evaluator.specs.declared.items.Purpose.{Purpose}
use Rattle.evaluator.specs.declared.items.Purpose.TheVariants as purpose
use Rattle.evaluator.specs.declared.items.Reading.{Reading}
use Rattle.evaluator.specs.declared.items.Reading.TheVariants as reading
use Rattle.evaluator.specs.declared.items.StatementItem.{StatementItem}
use Rattle.evaluator.specs.declared.items.StatementItem.TheVariants as statement
use Rattle.evaluator.specs.declared.items.ValueAsked.{ValueAsked}
use Rattle.evaluator.specs.declared.items.ValueAsked.TheVariants as value_asked
use Rattle.evaluator.specs.declared.references.Finish.TheVariants as finish
use Rattle.evaluator.specs.declared.references.Invocation.TheVariants as invocation
use Rattle.evaluator.specs.declared.references.Reference.{Reference}
use Rattle.evaluator.specs.declared.references.Reference.TheVariants as reference
use Rattle.evaluator.specs.Assignments.{compound_valued}
use Rattle.evaluator.specs.Calls.{arguments_at}
use Rattle.evaluator.specs.Contexts.{Context, given}
use Rattle.evaluator.specs.Elements.{elements_after, elements_at}
use Rattle.evaluator.specs.Literals.{getter, plain, properties_at, properties_from, setter}
use Rattle.evaluator.specs.Operators.{comma_at, minus_converted, right_valued}
use Rattle.evaluator.specs.Plans.{access_valued, asked_program, ended, flag_answered, item_program, key_answered, literal_valued, made_by, operator_valued, property_keyed, purpose_program, reading_program, reading_valued, statement_item, value_answered}
use Rattle.evaluator.specs.Statements.{declared_at}
use Rattle.evaluator.proofs.AccessesWithin.{given-within, key_converted-within, key_valued-within, read_reference-within}
use Rattle.evaluator.proofs.AssignmentsWithin.{assign_reference-within, compound_reference-within, compound_valued-within, update_converted-within, update_number-within, update_reference-within}
use Rattle.evaluator.proofs.CallsWithin.{arguments-within, callee_reference-within}
use Rattle.evaluator.proofs.ElementsKept.{element_put-within, elements-within}
use Rattle.evaluator.proofs.LiteralsWithin.{definitions-most, key_converted-within as definition_key-within, properties-within, proto_of-within, value_keyed-within}
use Rattle.evaluator.proofs.OperatorsWithin.{add_primitives-within, apply-within, calculated-within, comma-within, compare-within, flag_given-within, joined-within, minus_converted-within, negated-within, not_value-within, right_number-within, right_primitive-within, right_text-within, right_valued-within, short_value-within, test_value-within, typeof_reference-within, typeof_value-within}
use Rattle.evaluator.proofs.ReferencesWithin.{delete_reference-within, get_value-within, got_again-within, put_again-within, put_value-within, unless_refused-within}
use Rattle.evaluator.proofs.StatementsWithin.{after_statement-within, declared_valued-within, finish_try-within, for_again-within, for_begun-within, for_stepped-within, for_valued-within, if_valued-within, last_ended-within, return_valued-within, throw_valued-within, tried_ended-within, while_again-within, while_valued-within}
use Rattle.evaluator.proofs.WordsWithin.{On, Within, asked-within, change-within, done-within, evaluated-within, flag-within, key-within, look-within, number-within, primitive-within, string-within, value-within}

-- ---- property definitions

-- those from a number on
rest-within : (r b : ℕ) (here : Context) (o : ObjectId) (n : NodeId) (at : ℕ) → 40 * most_definitions here.script.nodes ≤ b → 40 * most_definitions here.script.nodes ≤ r →
    Within r b (properties_from here o (drop at (properties_at here n)))
rest-within r b here o n at some enough =
    let most = definitions-most here.script.nodes n.0 in
    let fewer = length-drop at (properties_at here n) in
    properties-within r b here o (drop at (properties_at here n)) (omega arith) (omega arith)

defined-within : (r b : ℕ) (o : ObjectId) (k : PropKey) (d : Descriptor) (next : Program) → Within r b next → Within r b (define o k d (λ succeeded. next))
defined-within r b o k d next h = look-within _ _ _ (λ l. change-within _ _ _ _ h)

-- what is behind the first of them
behind-within : (r : ℕ) (here : Context) (o : ObjectId) (p : Property) (ps : List Property) → 40 * length (p ∷ ps) ≤ r → Within r r (properties_from here o ps)
behind-within r here o p ps enough = properties-within r r here o ps (omega arith) (omega arith)

keyed-within : (r b : ℕ) (here : Context) (o : ObjectId) (ps : List Property) (k : PropKey) → 1 ≤ b → 40 * length ps ≤ r → Within r b (property_keyed here o ps k)
keyed-within r b here o [] k some enough = done-within _ _ _
keyed-within r b here o (property.Value name v ∷ ps) k some enough =
    value_keyed-within r b here o name_prefix.Nothing plain v (properties_from here o ps) some (behind-within r here o (property.Value name v) ps enough) k
keyed-within r b here o (property.Method name m ∷ ps) k some enough =
    value_keyed-within r b here o name_prefix.Nothing plain m (properties_from here o ps) some (behind-within r here o (property.Method name m) ps enough) k
keyed-within r b here o (property.Getter name m ∷ ps) k some enough =
    value_keyed-within r b here o name_prefix.Get getter m (properties_from here o ps) some (behind-within r here o (property.Getter name m) ps enough) k
keyed-within r b here o (property.Setter name m ∷ ps) k some enough =
    value_keyed-within r b here o name_prefix.Set setter m (properties_from here o ps) some (behind-within r here o (property.Setter name m) ps enough) k
keyed-within r b here o (property.Shorthand named ∷ ps) k some enough = done-within _ _ _
keyed-within r b here o (property.Prototype v ∷ ps) k some enough = done-within _ _ _

keyed-at-within : (r b : ℕ) (here : Context) (o : ObjectId) (n : NodeId) (at : ℕ) (k : PropKey) → 1 ≤ b → 40 * most_definitions here.script.nodes ≤ r →
    Within r b (property_keyed here o (drop at (properties_at here n)) k)
keyed-at-within r b here o n at k some enough =
    let most = definitions-most here.script.nodes n.0 in
    let fewer = length-drop at (properties_at here n) in
    keyed-within r b here o (drop at (properties_at here n)) k some (omega arith)

literal-within : (r : ℕ) (here : Context) (i : LiteralItem) (v : Value) → 200 + 40 * most_definitions here.script.nodes ≤ r → Within r r (literal_valued here i v)
literal-within r here (literal.PropertyValued n next o k m) v enough =
    defined-within r r o k (made_by m v) (properties_from here o (drop next (properties_at here n))) (rest-within r r here o n next (omega arith) (omega arith))
literal-within r here (literal.KeyValued n at o) v enough =
    asked-within _ _ 1 _ _ (omega arith) (definition_key-within r 1 (property_keyed here o (drop at (properties_at here n))) (λ k. keyed-at-within r 1 here o n at k (omega arith) (omega arith)))
literal-within r here (literal.ProtoValued n next o) v enough =
    proto_of-within r r (40 * most_definitions here.script.nodes) o (properties_from here o (drop next (properties_at here n))) v (omega arith)
    (rest-within r (40 * most_definitions here.script.nodes) here o n next (omega arith) (omega arith))
literal-within r here (literal.ElementValued n i a) v enough =
    element_put-within r r a i (elements_after here n (i + 1) a) v (elements-within r r here a (i + 1) (drop (i + 1) (elements_at here n)) (omega arith) (omega arith))

-- ---- what is done with a reference, and with a value

purpose-within : (r b : ℕ) (here : Context) (p : Purpose) (ref : Reference) → 52 ≤ b → 200 ≤ r → Within r b (purpose_program here p ref)
purpose-within r b here purpose.Read ref some enough = read_reference-within r b here ref (omega arith) (omega arith)
purpose-within r b here (purpose.Call n) ref some enough = callee_reference-within r b here n ref (omega arith) (omega arith)
purpose-within r b here purpose.Delete ref some enough = delete_reference-within r b here ref (omega arith)
purpose-within r b here purpose.Typeof ref some enough = typeof_reference-within r b here ref (omega arith) (omega arith)
purpose-within r b here (purpose.Assign v) ref some enough = assign_reference-within r b here v ref (omega arith) (omega arith)
purpose-within r b here (purpose.Compound op v) ref some enough = compound_reference-within r b here op v ref (omega arith) (omega arith)
purpose-within r b here (purpose.Update increment prefix) ref some enough = update_reference-within r b here increment prefix ref some (omega arith)

reading-within : (r b : ℕ) (here : Context) (p : Reading) (v : Value) → 48 + 40 * most_definitions here.script.nodes ≤ b → 200 + 40 * most_definitions here.script.nodes ≤ r → Within r b (reading_valued here p v)
reading-within r b here reading.Give v some enough = done-within _ _ _
reading-within r b here (reading.Callee n this) v some enough = arguments-within r b here (invocation.Call v this) (arguments_at here n) [] (omega arith) (omega arith)
reading-within r b here reading.Typeof v some enough = typeof_value-within r b v
reading-within r b here (reading.Compound op x ref) v some enough =
    evaluated-within r b here None x (compound_valued here op ref v) (omega arith) (compound_valued-within r r here op ref v (omega arith) (omega arith))
reading-within r b here (reading.Update increment prefix ref) v some enough =
    number-within r b 35 v _ (omega arith) (update_converted-within r 35 here increment prefix ref (omega arith) (omega arith))
reading-within r b here (reading.Shorthand n next o k) v some enough =
    defined-within r b o k (plain v) (properties_from here o (drop next (properties_at here n))) (rest-within r b here o n next (omega arith) (omega arith))

access-within : (r : ℕ) (here : Context) (i : AccessItem) (v : Value) → 200 ≤ r → Within r r (access_valued here i v)
access-within r here (access.MemberBased k read write aim) v enough = purpose-within r r here aim (reference.Property v k read write) (omega arith) enough
access-within r here (access.IndexBased k read write aim) v enough =
    evaluated-within r r here None k _ (omega arith) (key_valued-within r r 52 v read write (purpose_program here aim) (omega arith) (λ ref. purpose-within r 52 here aim ref (omega arith) enough))
access-within r here (access.KeyValued base read write aim) v enough =
    asked-within _ _ 52 _ _ (omega arith) (key_converted-within r 52 base read write (purpose_program here aim) (λ ref. purpose-within r 52 here aim ref (omega arith) enough))

operator-within : (r : ℕ) (here : Context) (i : OperatorItem) (v : Value) → 200 ≤ r → Within r r (operator_valued here i v)
operator-within r here operator.DeleteValued v enough = done-within _ _ _
operator-within r here operator.VoidValued v enough = done-within _ _ _
operator-within r here operator.PlusValued v enough = number-within r r 0 v given (omega arith) (given-within r 0)
operator-within r here operator.MinusValued v enough = number-within r r 0 v minus_converted (omega arith) (minus_converted-within r 0)
operator-within r here operator.NotValued v enough = not_value-within r r v
operator-within r here (operator.LeftValued op right) v enough =
    evaluated-within r r here None right (right_valued here op v) (omega arith) (right_valued-within r r here op v (omega arith) (omega arith))
operator-within r here (operator.RightValued op left) v enough = compare-within r r here op left v (omega arith) (omega arith)
operator-within r here (operator.ShortValued op right) v enough = short_value-within r r here op right v (omega arith)
operator-within r here (operator.TestValued first other) v enough = test_value-within r r here first other v (omega arith)
operator-within r here (operator.CommaValued n next) v enough = comma-within r r here (drop next (comma_at here n)) v (omega arith) (omega arith)
operator-within r here (operator.AssignValued ref) v enough = put_value-within r r here ref v v (omega arith) (omega arith)
operator-within r here (operator.CompoundValued op ref left) v enough = apply-within r r here op (finish.Put ref) left v (omega arith) (omega arith)

statement-within : (r : ℕ) (here : Context) (i : StatementItem) → 200 ≤ r → On r r (statement_item here i)
statement-within r here (statement.AfterStatement list next) enough = after_statement-within r r here list next (omega arith)
statement-within r here (statement.Declared n next) enough = declared_valued-within r r here (drop next (declared_at here n)) (omega arith) (omega arith)
statement-within r here (statement.IfValued first other) enough = if_valued-within r r here first other (omega arith)
statement-within r here (statement.WhileValued n body) enough = while_valued-within r r here n body (omega arith) (omega arith)
statement-within r here (statement.WhileAgain n) enough = while_again-within r r here n (omega arith)
statement-within r here (statement.ForBegun n) enough = for_begun-within r r here n (omega arith)
statement-within r here (statement.ForValued n step body) enough = for_valued-within r r here n step body (omega arith) (omega arith)
statement-within r here (statement.ForAgain n step) enough = for_again-within r r here n step (omega arith) (omega arith)
statement-within r here (statement.ForStepped n) enough = for_stepped-within r r here n (omega arith)
statement-within r here statement.ReturnValued enough = return_valued-within r r
statement-within r here statement.ThrowValued enough = throw_valued-within r r
statement-within r here (statement.TriedEnded n) enough = tried_ended-within r r here n (omega arith)
statement-within r here (statement.CaughtEnded n) enough = finish_try-within r r here n (omega arith)
statement-within r here (statement.LastEnded before) enough = last_ended-within r r (ended before)

pub item-within : (r : ℕ) (here : Context) (i : Item) → 200 + 40 * most_definitions here.script.nodes ≤ r → On r r (item_program here i)
item-within r here (item.Read p) enough = λ c. value-within r r (reading_valued here p) c (λ v. reading-within r r here p v (omega arith) (omega arith))
item-within r here (item.Access i) enough = λ c. value-within r r (access_valued here i) c (λ v. access-within r here i v (omega arith))
item-within r here (item.Operator i) enough = λ c. value-within r r (operator_valued here i) c (λ v. operator-within r here i v (omega arith))
item-within r here (item.Literal i) enough = λ c. value-within r r (literal_valued here i) c (λ v. literal-within r here i v enough)
item-within r here (item.Statement i) enough = statement-within r here i (omega arith)
item-within r here (item.Argument n next i given) enough = λ c. value-within r r _ c (λ v. arguments-within r r here i (drop next (arguments_at here n)) (given ++ v ∷ []) (omega arith) (omega arith))
item-within r here (item.Constructor n) enough = λ c. value-within r r _ c (λ f. arguments-within r r here (invocation.Construct f) (arguments_at here n) [] (omega arith) (omega arith))

-- ---- what waits for an answer

value-answered : (r : ℕ) (here : Context) (i : ValueAsked) (v : Value) → 200 + 40 * most_definitions here.script.nodes ≤ r → Within r r (value_answered here i v)
value-answered r here (value_asked.Read p) v enough = reading-within r r here p v (omega arith) (omega arith)
value-answered r here value_asked.MinusConverted v enough = negated-within r r v
value-answered r here (value_asked.LeftPrimitive end right) v enough = primitive-within r r 61 right _ (omega arith) (right_primitive-within r 61 here end v (omega arith) (omega arith))
value-answered r here (value_asked.RightPrimitive end left) v enough = add_primitives-within r r here end left v (omega arith) (omega arith)
value-answered r here (value_asked.LeftText end right) v enough = string-within r r 35 right _ (omega arith) (right_text-within r 35 here end v (omega arith) (omega arith))
value-answered r here (value_asked.RightText end left) v enough = joined-within r r here end left v (omega arith) (omega arith)
value-answered r here (value_asked.LeftNumber op end right) v enough = number-within r r 35 right _ (omega arith) (right_number-within r 35 here op end v (omega arith) (omega arith))
value-answered r here (value_asked.RightNumber op end left) v enough = calculated-within r r here op end left v (omega arith) (omega arith)
value-answered r here (value_asked.UpdateConverted increment prefix ref) v enough = update_number-within r r here increment prefix ref v (omega arith) (omega arith)

flag-answered : (r : ℕ) (here : Context) (i : FlagAsked) (b : Bool) → 200 + 40 * most_definitions here.script.nodes ≤ r → Within r r (flag_answered here i b)
flag-answered r here (flag_asked.Looked name k aim) b enough = purpose-within r r here aim (reference.Global name k b) (omega arith) (omega arith)
flag-answered r here (flag_asked.LookedAgain name k p) b enough =
    let left : ℕ = 48 + 40 * most_definitions here.script.nodes in
    got_again-within r r left here name k (reading_program here p) b (omega arith) (λ c. value-within r left (reading_valued here p) c (λ v. reading-within r left here p v (omega arith) enough))
flag-answered r here (flag_asked.ReadLooked name k p) b enough =
    let left : ℕ = 48 + 40 * most_definitions here.script.nodes in
    get_value-within r r left here (reference.Global name k b) (reading_program here p) (omega arith) (omega arith)
    (λ c. value-within r left (reading_valued here p) c (λ v. reading-within r left here p v (omega arith) enough))
flag-answered r here (flag_asked.ProtoAnswered n next o) b enough = rest-within r r here o n next (omega arith) (omega arith)
flag-answered r here (flag_asked.PutLooked name k v result) b enough = put_again-within r r here name k v result b (omega arith)
flag-answered r here (flag_asked.PutAnswered result) b enough = unless_refused-within r r here b result
flag-answered r here flag_asked.DeleteAnswered b enough = unless_refused-within r r here b (value.Bool b)
flag-answered r here flag_asked.FlagGiven b enough = done-within _ _ _
flag-answered r here flag_asked.FlagDenied b enough = done-within _ _ _

key-answered : (r : ℕ) (here : Context) (i : KeyAsked) (k : PropKey) → 200 + 40 * most_definitions here.script.nodes ≤ r → Within r r (key_answered here i k)
key-answered r here (key_asked.KeyConverted base read write aim) k enough = purpose-within r r here aim (reference.Property base k read write) (omega arith) (omega arith)
key-answered r here (key_asked.InKeyed o) k enough = asked-within _ _ 0 _ _ (omega arith) (flag_given-within r 0)
key-answered r here (key_asked.PropertyKey n at o) k enough = keyed-at-within r r here o n at k (omega arith) (omega arith)

pub answered-within : (r : ℕ) (here : Context) (i : Asked) → 200 + 40 * most_definitions here.script.nodes ≤ r → On r r (asked_program here i)
answered-within r here (asked.Value i) enough = λ c. value-within r r (value_answered here i) c (λ v. value-answered r here i v enough)
answered-within r here (asked.Flag i) enough = λ c. flag-within r r (flag_answered here i) c (λ b. flag-answered r here i b enough)
answered-within r here (asked.Key i) enough = λ c. key-within r r (key_answered here i) c (λ k. key-answered r here i k enough)
