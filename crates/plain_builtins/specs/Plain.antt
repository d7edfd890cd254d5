-- The requests that come here: abstract operations, calls of built-in functions after their entering, and calls and constructions of what has no such method.
use Rattle.std.specs.Prelude.{ℕ, true, nat_eq, if◌then◌else◌, List, [], ◌∷◌}
use Rattle.property_keys.specs.declared.identifiers.ObjectId.{ObjectId}
use Rattle.property_keys.specs.declared.values.Value.{Value}
use Rattle.property_keys.specs.declared.values.Value.TheVariants as value
use Rattle.es_model.specs.declared.intrinsics.Intrinsic.TheVariants as intrinsic
use Rattle.es_model.specs.declared.kinds.ObjectKind.{ObjectKind}
use Rattle.es_model.specs.declared.kinds.ObjectKind.TheVariants as kind_of
use Rattle.es_model.specs.declared.requests.Operation.{Operation}
use Rattle.es_model.specs.declared.requests.Operation.TheVariants as operation
use Rattle.es_model.specs.declared.requests.Request.{Request}
use Rattle.es_model.specs.declared.requests.Request.TheVariants.{Call, Construct, Work}
use Rattle.es_model.specs.StartObjects.{start_number}
use Rattle.es_model.specs.World.{Lists, kind}
use Rattle.es_model.specs.Program.{Program, look}
use Rattle.es_model.specs.programs.Errors.{unfit, unwritten, not_a_function, not_a_constructor}
use Rattle.es_model.specs.programs.Testing.{is_constructor_kind}
use Rattle.plain_builtins.specs.ArrayLikes as array_like
use Rattle.plain_builtins.specs.Comparisons.{loosely_equal, less_than}
use Rattle.plain_builtins.specs.Conversions.{to_primitive, to_text, to_whole, to_key}
use Rattle.plain_builtins.specs.Instances.{instance_of, ordinary_has_instance}
use Rattle.plain_builtins.specs.Printing.{print}
use Rattle.plain_builtins.specs.WantedFields.{to_wanted}
use Rattle.plain_builtins.specs.declared.words.Callee.{Callee}
use Rattle.plain_builtins.specs.declared.words.Callee.TheVariants.{Row, Elsewhere, NoFunction}
use Rattle.plain_builtins.specs.declared.words.Collected.TheVariants as collected
use Rattle.plain_builtins.specs.declared.words.Hint.TheVariants as hint
use Rattle.plain_builtins.specs.declared.words.Operands.{Operands}
use Rattle.plain_builtins.specs.declared.words.Operands.TheVariants.{One, Two, Three, OtherCount}

-- ---- abstract operations, each with its number of operands

abbrev pub one_operand : Operation → Value → Program
one_operand operation.ToPrimitiveDefault v = to_primitive hint.Default v
one_operand operation.ToPrimitiveNumber v = to_primitive hint.Number v
one_operand operation.ToPrimitiveText v = to_primitive hint.Text v
one_operand operation.ToText v = to_text v
one_operand operation.ToWhole v = to_whole v
one_operand operation.ToKey v = to_key v
one_operand operation.ToWanted v = to_wanted v
one_operand operation.ListFromArrayLike v = array_like.list_of v (collected.Values [])
one_operand operation.KeysFromArrayLike v = array_like.list_of v (collected.Keys [])
one_operand operation.InstanceOf v = unfit
one_operand operation.OrdinaryHasInstance v = unfit
one_operand operation.LooselyEqual v = unfit
one_operand operation.LessThan v = unfit

abbrev pub two_operands : Operation → Value → Value → Program
two_operands operation.InstanceOf a b = instance_of a b
two_operands operation.OrdinaryHasInstance a b = ordinary_has_instance a b
two_operands operation.LooselyEqual a b = loosely_equal a b
two_operands other a b = unfit

abbrev pub less_than_by : Value → Value → Value → Program
less_than_by a b (value.Bool left_first) = less_than a b left_first
less_than_by a b other = unfit

abbrev pub three_operands : Operation → Value → Value → Value → Program
three_operands operation.LessThan a b c = less_than_by a b c
three_operands other a b c = unfit

abbrev pub operands_in : List Value → Operands
operands_in (a ∷ []) = One a
operands_in (a ∷ b ∷ []) = Two a b
operands_in (a ∷ b ∷ c ∷ []) = Three a b c
operands_in other = OtherCount

abbrev pub work_of : Operation → Operands → Program
work_of op (One a) = one_operand op a
work_of op (Two a b) = two_operands op a b
work_of op (Three a b c) = three_operands op a b c
work_of op OtherCount = unfit

abbrev pub work_program : Operation → List Value → Program
work_program op operands = work_of op (operands_in operands)

-- ---- the rows of built-in functions, after their entering. What is not written yet throws undefined

abbrev pub print_row : ℕ
print_row = start_number intrinsic.Print

abbrev pub row_program : ℕ → List Value → Program
row_program row arguments = if nat_eq row print_row then print arguments else unwritten

-- ---- Call (7.3.13) and Construct (7.3.14)

-- who is called
abbrev pub callee_of : ObjectKind → Callee
callee_of (kind_of.Builtin row constructor proxy) = Row row
callee_of (kind_of.Function function constructor strict) = Elsewhere
callee_of (kind_of.Proxy target handler true constructor) = Elsewhere
callee_of other = NoFunction

abbrev pub callee_in : Lists → Value → Callee
callee_in l (value.Object f) = callee_of (kind l f)
callee_in l other = NoFunction

abbrev pub call_by : Callee → List Value → Program
call_by (Row row) arguments = row_program row arguments
call_by Elsewhere arguments = unfit
call_by NoFunction arguments = not_a_function

abbrev pub call_program : Value → List Value → Program
call_program f arguments = look (λ l. call_by (callee_in l f) arguments)

abbrev pub construct_program : ObjectId → Program
construct_program f = look (λ l. if is_constructor_kind (kind l f) then unwritten else not_a_constructor)

-- ---- the requests. The dispatcher sends no other here

abbrev pub plain_program : Request → Program
plain_program (Call f this arguments) = call_program f arguments
plain_program (Construct f arguments target) = construct_program f
plain_program (Work op operands) = work_program op operands
plain_program other = unfit
