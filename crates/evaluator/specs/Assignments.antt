-- Assignments (ECMA-262, 13.15) and updates (13.4): the target is evaluated to a reference, a value is got from it where it is read, and one is put into it.
use Rattle.std.specs.Prelude.{Bool, if◌then◌else◌, ℤ, pos, ◌+ℤ◌, ◌-ℤ◌}
use Rattle.property_keys.specs.declared.values.Value.{Value}
use Rattle.property_keys.specs.declared.values.Value.TheVariants as value
use Rattle.es_tree.specs.declared.expressions.AssignOperator.{AssignOperator}
use Rattle.es_tree.specs.declared.expressions.AssignOperator.TheVariants as assign_operator
use Rattle.es_tree.specs.declared.names.Target.{Target}
use Rattle.es_tree.specs.declared.numbers.NodeId.{NodeId}
use Rattle.es_model.specs.Completions.{Completion}
use Rattle.es_model.specs.Program.{Program}
use Rattle.es_model.specs.programs.Abrupt.{then_value}
use Rattle.es_model.specs.programs.Converting.{to_number}
use Rattle.es_model.specs.programs.Errors.{unfit}
use Rattle.evaluator.specs.declared.references.Arithmetic.{Arithmetic}
use Rattle.evaluator.specs.declared.references.Arithmetic.TheVariants as arithmetic
use Rattle.evaluator.specs.declared.references.Finish.TheVariants as finish
use Rattle.evaluator.specs.declared.references.Reference.{Reference}
use Rattle.evaluator.specs.Accesses.{target_reference}
use Rattle.evaluator.specs.Contexts.{Context, evaluate, evaluate_named}
use Rattle.evaluator.specs.Operators.{apply}
use Rattle.evaluator.specs.References.{get_value, name_of, put_value}
use Rattle.evaluator.specs.Values.{or_out, whole_of}

-- ---- `=` (13.15.2): the target's reference, the value, the write. An anonymous function gets the name that is assigned to

abbrev pub assign_valued : Context → Reference → Completion → Program
assign_valued here r c = then_value (λ v. put_value here r v v) c

abbrev pub assign_reference : Context → NodeId → Reference → Program
assign_reference here v r = evaluate_named here (name_of r) v (assign_valued here r)

-- ---- `+=` and its kin (13.15.2): the target's reference, the read, the value, the operator, the write

abbrev pub compound_valued : Context → Arithmetic → Reference → Value → Completion → Program
compound_valued here op r a c = then_value (λ b. apply here op (finish.Put r) a b) c

abbrev pub compound_read : Context → Arithmetic → NodeId → Reference → Completion → Program
compound_read here op v r c = then_value (λ a. evaluate here v (compound_valued here op r a)) c

abbrev pub compound_reference : Context → Arithmetic → NodeId → Reference → Program
compound_reference here op v r = get_value here r (compound_read here op v r)

abbrev pub assignment : Context → AssignOperator → Target → NodeId → Program
assignment here assign_operator.Plain target v = target_reference here target (assign_reference here v)
assignment here assign_operator.Add target v = target_reference here target (compound_reference here arithmetic.Add v)
assignment here assign_operator.Subtract target v = target_reference here target (compound_reference here arithmetic.Subtract v)
assignment here assign_operator.Multiply target v = target_reference here target (compound_reference here arithmetic.Multiply v)
assignment here assign_operator.Remainder target v = target_reference here target (compound_reference here arithmetic.Remainder v)

-- ---- `++` and `--` (13.4): the target's reference, the read, ToNumeric, the write. The value is the new one, or the old one where the operator stands behind

abbrev pub stepped : Bool → ℤ → ℤ
stepped increment n = if increment then n +ℤ pos 1 else n -ℤ pos 1

abbrev pub update_number : Context → (increment prefix : Bool) → Reference → Value → Program
update_number here increment prefix r (value.Whole n) =
    or_out (whole_of (stepped increment n)) (λ m. put_value here r (value.Whole m) (value.Whole (if prefix then m else n)))
update_number here increment prefix r other = unfit

abbrev pub update_converted : Context → (increment prefix : Bool) → Reference → Completion → Program
update_converted here increment prefix r c = then_value (λ v. update_number here increment prefix r v) c

abbrev pub update_read : Context → (increment prefix : Bool) → Reference → Completion → Program
update_read here increment prefix r c = then_value (λ v. to_number v (update_converted here increment prefix r)) c

abbrev pub update_reference : Context → (increment prefix : Bool) → Reference → Program
update_reference here increment prefix r = get_value here r (update_read here increment prefix r)
