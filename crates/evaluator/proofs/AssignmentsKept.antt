-- Assignments and updates keep worlds sound.
use Rattle.std.proofs.Common.{ℤ, Bool, true, false, cond, None}
use Rattle.property_keys.specs.declared.values.Value.{Value}
use Rattle.property_keys.specs.declared.values.Value.TheVariants as value
use Rattle.property_keys.specs.Wholes.{IsWhole}
use Rattle.es_tree.specs.declared.expressions.AssignOperator.{AssignOperator}
use Rattle.es_tree.specs.declared.expressions.AssignOperator.TheVariants as assign_operator
use Rattle.es_tree.specs.declared.names.Target.{Target}
use Rattle.es_tree.specs.declared.numbers.NodeId.{NodeId}
use Rattle.es_model.specs.World.{World}
use Rattle.es_model.specs.Known.{IsKnown}
use Rattle.es_model.specs.Sound.{IsSound}
use Rattle.evaluator.specs.declared.references.Arithmetic.{Arithmetic}
use Rattle.evaluator.specs.declared.references.Arithmetic.TheVariants as arithmetic
use Rattle.evaluator.specs.declared.references.Finish.TheVariants as finish
use Rattle.evaluator.specs.declared.references.Reference.{Reference}
use Rattle.evaluator.specs.Accesses.{target_reference}
use Rattle.evaluator.specs.Assignments.{assign_reference, assign_valued, assignment, compound_read, compound_reference, compound_valued, stepped, update_converted, update_number, update_read, update_reference}
use Rattle.evaluator.specs.Contexts.{Context}
use Rattle.evaluator.specs.References.{name_of}
use Rattle.evaluator.specs.Values.{whole_of}
use Rattle.evaluator.proofs.AccessesKept.{number_asked-kept, target_reference-kept}
use Rattle.evaluator.proofs.OperatorsKept.{apply-kept}
use Rattle.evaluator.proofs.ReferencesKept.{IsKnownReference, get_value-kept, name-known, put_value-kept, reference-stays}
use Rattle.evaluator.proofs.WordsKept.{Keeps, done-kept, IsHere, OnEnd, evaluated-kept, here-stays, or_out-kept, value-kept, value-stays, whole-known}

-- ---- `=`

pub assign_valued-kept : (w : World) (here : Context) (ref : Reference) → IsKnownReference w.lists ref → OnEnd w (assign_valued here ref)
assign_valued-kept w here ref known = λ c v sv l k. value-kept v _ c sv k (λ x there. put_value-kept v here ref x x sv (reference-stays w v l ref known) there there)

pub assign_reference-kept : (w : World) (here : Context) (v : NodeId) (ref : Reference) → IsSound w → IsHere w here → IsKnownReference w.lists ref → Keeps (assign_reference here v ref) w
assign_reference-kept w here v ref s h known = evaluated-kept w here (name_of ref) v (assign_valued here ref) s h (name-known w ref known) (assign_valued-kept w here ref known)

-- ---- `+=` and its kin

pub compound_valued-kept : (w : World) (here : Context) (op : Arithmetic) (ref : Reference) (a : Value) → IsKnownReference w.lists ref → IsKnown w.lists a → OnEnd w (compound_valued here op ref a)
compound_valued-kept w here op ref a known first = λ c v sv l k. value-kept v _ c sv k (λ x there.
    apply-kept v here op (finish.Put ref) a x sv (reference-stays w v l ref known) (value-stays w v l a first) there)

pub compound_read-kept : (w : World) (here : Context) (op : Arithmetic) (v : NodeId) (ref : Reference) → IsHere w here → IsKnownReference w.lists ref → OnEnd w (compound_read here op v ref)
compound_read-kept w here op v ref h known = λ c u su l k. value-kept u _ c su k (λ a first.
    evaluated-kept u here None v (compound_valued here op ref a) su (here-stays w u l here h) tt (compound_valued-kept u here op ref a (reference-stays w u l ref known) first))

pub compound_reference-kept : (w : World) (here : Context) (op : Arithmetic) (v : NodeId) (ref : Reference) → IsSound w → IsHere w here → IsKnownReference w.lists ref → Keeps (compound_reference here op v ref) w
compound_reference-kept w here op v ref s h known = get_value-kept w here ref (compound_read here op v ref) s known (compound_read-kept w here op v ref h known)

compound-kept : (w : World) (here : Context) (op : Arithmetic) (place : Target) (v : NodeId) → IsSound w → IsHere w here → Keeps (target_reference here place (compound_reference here op v)) w
compound-kept w here op place v s h = target_reference-kept w here place (compound_reference here op v) s h (λ ref u su l known. compound_reference-kept u here op v ref su (here-stays w u l here h) known)

pub assignment-kept : (w : World) (here : Context) (op : AssignOperator) (place : Target) (v : NodeId) → IsSound w → IsHere w here → Keeps (assignment here op place v) w
assignment-kept w here assign_operator.Plain place v s h = target_reference-kept w here place (assign_reference here v) s h (λ ref u su l known. assign_reference-kept u here v ref su (here-stays w u l here h) known)
assignment-kept w here assign_operator.Add place v s h = compound-kept w here arithmetic.Add place v s h
assignment-kept w here assign_operator.Subtract place v s h = compound-kept w here arithmetic.Subtract place v s h
assignment-kept w here assign_operator.Multiply place v s h = compound-kept w here arithmetic.Multiply place v s h
assignment-kept w here assign_operator.Remainder place v s h = compound-kept w here arithmetic.Remainder place v s h

-- ---- `++` and `--`

whole-either : (b : Bool) (m n : ℤ) → IsWhole m → IsWhole n → IsWhole (cond b m n)
whole-either true m n h h' = h
whole-either false m n h h' = h'

pub update_number-kept : (w : World) (here : Context) (increment prefix : Bool) (ref : Reference) (v : Value) → IsSound w → IsKnownReference w.lists ref → IsKnown w.lists v → Keeps (update_number here increment prefix ref v) w
update_number-kept w here increment prefix ref (value.Whole n) s known old =
    or_out-kept w (whole_of (stepped increment n)) _ s (whole-known (stepped increment n)) (λ m whole.
    put_value-kept w here ref (value.Whole m) (value.Whole (cond prefix m n)) s known whole (whole-either prefix m n whole old))
update_number-kept w here increment prefix ref other s known old = done-kept w _ s tt

update_converted-kept : (w : World) (here : Context) (increment prefix : Bool) (ref : Reference) → IsKnownReference w.lists ref → OnEnd w (update_converted here increment prefix ref)
update_converted-kept w here increment prefix ref known = λ c v sv l k. value-kept v _ c sv k (λ x there. update_number-kept v here increment prefix ref x sv (reference-stays w v l ref known) there)

pub update_read-kept : (w : World) (here : Context) (increment prefix : Bool) (ref : Reference) → IsKnownReference w.lists ref → OnEnd w (update_read here increment prefix ref)
update_read-kept w here increment prefix ref known = λ c v sv l k. value-kept v _ c sv k (λ x there.
    number_asked-kept v x (update_converted here increment prefix ref) sv there (update_converted-kept v here increment prefix ref (reference-stays w v l ref known)))

pub update_reference-kept : (w : World) (here : Context) (increment prefix : Bool) (ref : Reference) → IsSound w → IsKnownReference w.lists ref → Keeps (update_reference here increment prefix ref) w
update_reference-kept w here increment prefix ref s known = get_value-kept w here ref (update_read here increment prefix ref) s known (update_read-kept w here increment prefix ref known)
