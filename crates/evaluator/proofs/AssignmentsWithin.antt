-- Assignments and updates keep within their budgets.
use Rattle.std.proofs.Common.{ℕ, ◌≤◌, Bool, None, arith}
use Rattle.property_keys.specs.declared.values.Value.{Value}
use Rattle.property_keys.specs.declared.values.Value.TheVariants as value
use Rattle.es_tree.specs.declared.expressions.AssignOperator.{AssignOperator}
use Rattle.es_tree.specs.declared.expressions.AssignOperator.TheVariants as assign_operator
use Rattle.es_tree.specs.declared.names.Target.{Target}
use Rattle.es_tree.specs.declared.numbers.NodeId.{NodeId}
use Rattle.evaluator.specs.declared.references.Arithmetic.{Arithmetic}
use Rattle.evaluator.specs.declared.references.Arithmetic.TheVariants as arithmetic
use Rattle.evaluator.specs.declared.references.Finish.TheVariants as finish
use Rattle.evaluator.specs.declared.references.Reference.{Reference}
use Rattle.evaluator.specs.Accesses.{target_reference}
use Rattle.evaluator.specs.Assignments.{assign_reference, assign_valued, assignment, compound_read, compound_reference, compound_valued, stepped, update_converted, update_number, update_read, update_reference}
use Rattle.evaluator.specs.Contexts.{Context}
use Rattle.evaluator.specs.References.{name_of}
use Rattle.evaluator.specs.Values.{whole_of}
use Rattle.evaluator.proofs.AccessesWithin.{target_reference-within}
use Rattle.evaluator.proofs.OperatorsWithin.{apply-within}
use Rattle.evaluator.proofs.ReferencesWithin.{get_value-within, put_value-within}
use Rattle.evaluator.proofs.WordsWithin.{On, Within, done-within, evaluated-within, number-within, or_out-within, value-within}

-- ---- `=`

pub assign_valued-within : (r b : ℕ) (here : Context) (ref : Reference) → 35 ≤ b → 33 ≤ r → On r b (assign_valued here ref)
assign_valued-within r b here ref some enough = λ c. value-within r b _ c (λ v. put_value-within r b here ref v v some enough)

pub assign_reference-within : (r b : ℕ) (here : Context) (v : NodeId) (ref : Reference) → 1 ≤ b → 35 ≤ r → Within r b (assign_reference here v ref)
assign_reference-within r b here v ref some enough =
    evaluated-within r b here (name_of ref) v (assign_valued here ref) some (assign_valued-within r r here ref enough (omega arith))

-- ---- `+=` and its kin

pub compound_valued-within : (r b : ℕ) (here : Context) (op : Arithmetic) (ref : Reference) (a : Value) → 83 ≤ b → 33 ≤ r → On r b (compound_valued here op ref a)
compound_valued-within r b here op ref a some enough = λ c. value-within r b _ c (λ x. apply-within r b here op (finish.Put ref) a x some enough)

pub compound_read-within : (r b : ℕ) (here : Context) (op : Arithmetic) (v : NodeId) (ref : Reference) → 1 ≤ b → 83 ≤ r → On r b (compound_read here op v ref)
compound_read-within r b here op v ref some enough = λ c. value-within r b _ c (λ a.
    evaluated-within r b here None v (compound_valued here op ref a) some (compound_valued-within r r here op ref a enough (omega arith)))

pub compound_reference-within : (r b : ℕ) (here : Context) (op : Arithmetic) (v : NodeId) (ref : Reference) → 5 ≤ b → 83 ≤ r → Within r b (compound_reference here op v ref)
compound_reference-within r b here op v ref some enough =
    get_value-within r b 1 here ref (compound_read here op v ref) some (omega arith) (compound_read-within r 1 here op v ref (omega arith) enough)

compound-within : (r b : ℕ) (here : Context) (op : Arithmetic) (place : Target) (v : NodeId) → 7 ≤ b → 83 ≤ r →
    Within r b (target_reference here place (compound_reference here op v))
compound-within r b here op place v some enough =
    target_reference-within r b 5 here place (compound_reference here op v) some (omega arith) (λ ref. compound_reference-within r 5 here op v ref (omega arith) enough)

pub assignment-within : (r b : ℕ) (here : Context) (op : AssignOperator) (place : Target) (v : NodeId) → 7 ≤ b → 83 ≤ r → Within r b (assignment here op place v)
assignment-within r b here assign_operator.Plain place v some enough =
    target_reference-within r b 1 here place (assign_reference here v) (omega arith) (omega arith) (λ ref. assign_reference-within r 1 here v ref (omega arith) (omega arith))
assignment-within r b here assign_operator.Add place v some enough = compound-within r b here arithmetic.Add place v some enough
assignment-within r b here assign_operator.Subtract place v some enough = compound-within r b here arithmetic.Subtract place v some enough
assignment-within r b here assign_operator.Multiply place v some enough = compound-within r b here arithmetic.Multiply place v some enough
assignment-within r b here assign_operator.Remainder place v some enough = compound-within r b here arithmetic.Remainder place v some enough

-- ---- `++` and `--`

pub update_number-within : (r b : ℕ) (here : Context) (increment prefix : Bool) (ref : Reference) (v : Value) → 35 ≤ b → 33 ≤ r → Within r b (update_number here increment prefix ref v)
update_number-within r b here increment prefix ref (value.Whole n) some enough =
    or_out-within r b (whole_of (stepped increment n)) _ (λ m. put_value-within r b here ref _ _ some enough)
update_number-within r b here increment prefix ref other some enough = done-within _ _ _

pub update_converted-within : (r b : ℕ) (here : Context) (increment prefix : Bool) (ref : Reference) → 35 ≤ b → 33 ≤ r → On r b (update_converted here increment prefix ref)
update_converted-within r b here increment prefix ref some enough = λ c. value-within r b _ c (λ v. update_number-within r b here increment prefix ref v some enough)

pub update_read-within : (r b : ℕ) (here : Context) (increment prefix : Bool) (ref : Reference) → 48 ≤ b → 33 ≤ r → On r b (update_read here increment prefix ref)
update_read-within r b here increment prefix ref some enough = λ c. value-within r b _ c (λ v.
    number-within r b 35 v _ (omega arith) (update_converted-within r 35 here increment prefix ref (omega arith) enough))

pub update_reference-within : (r b : ℕ) (here : Context) (increment prefix : Bool) (ref : Reference) → 52 ≤ b → 50 ≤ r → Within r b (update_reference here increment prefix ref)
update_reference-within r b here increment prefix ref some enough =
    get_value-within r b 48 here ref (update_read here increment prefix ref) some enough (update_read-within r 48 here increment prefix ref (omega arith) (omega arith))
