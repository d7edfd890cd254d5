-- The programs that all crates share keep within what is left behind their questions.
use Rattle.std.proofs.Common.{ℕ, ℤ, ◌<◌, ◌+◌, Option, Some, None, List, arith}
use Rattle.property_keys.specs.declared.identifiers.ObjectId.{ObjectId}
use Rattle.property_keys.specs.declared.keys.PropKey.{PropKey}
use Rattle.property_keys.specs.declared.keys.PropKey.TheVariants.{Name}
use Rattle.property_keys.specs.declared.values.Value.{Value}
use Rattle.property_keys.specs.declared.values.Value.TheVariants as value
use Rattle.es_model.specs.declared.callables.Method.{Method}
use Rattle.es_model.specs.declared.callables.Method.TheVariants as method
use Rattle.es_model.specs.declared.kinds.ErrorKind.{ErrorKind}
use Rattle.es_model.specs.Completions.{Completion}
use Rattle.es_model.specs.Program.{Program, look}
use Rattle.es_model.specs.Weights.{IsWithin}
use Rattle.es_model.specs.programs.Abrupt.{value_in, taken}
use Rattle.es_model.specs.programs.Converting.{to_number, to_integer, with_whole, then_whole, to_object, length_got}
use Rattle.es_model.specs.programs.Errors.{throw_error}
use Rattle.es_model.specs.programs.Methods.{get_named, has_named, method_in, with_method, then_method}
use Rattle.es_model.proofs.Within.{go_on-within}

-- an error that is thrown asks for nothing
pub error-within : (r b : ℕ) (k : ErrorKind) (text : List ℕ) → IsWithin r b (throw_error k text)
error-within r b k text = λ l m n o. tt

-- a property that is read or asked for by name
pub get_named-within : (r b left : ℕ) (o : ObjectId) (name : List ℕ) (next : Completion → Program) → 1 + left < b → ((c : Completion) → IsWithin r left (next c)) → IsWithin r b (get_named o name next)
get_named-within r b left o name next less h = λ l. (left, less, h)

pub has_named-within : (r b left : ℕ) (o : ObjectId) (name : List ℕ) (next : Completion → Program) → 1 + left < b → ((c : Completion) → IsWithin r left (next c)) → IsWithin r b (has_named o name next)
has_named-within r b left o name next less h = λ l. (left, less, h)

with_method-within : (r b : ℕ) (next : Option ObjectId → Program) (m : Method) → ((f : Option ObjectId) → IsWithin r b (next f)) → IsWithin r b (with_method next m)
with_method-within r b next method.Absent h = h None
with_method-within r b next (method.Function f) h = h (Some f)
with_method-within r b next method.Other h = λ l m n o. tt

pub then_method-within : (r b : ℕ) (next : Option ObjectId → Program) (c : Completion) → ((f : Option ObjectId) → IsWithin r b (next f)) → IsWithin r b (then_method next c)
then_method-within r b next c h = go_on-within r b (λ v. look (λ l. with_method next (method_in l v))) (taken value_in c) (λ v l. with_method-within r b next (method_in l v) h)

-- ---- conversions

pub to_number-within : (r b left : ℕ) (v : Value) (next : Completion → Program) → 12 + left < b → ((c : Completion) → IsWithin r b (next c)) → ((c : Completion) → IsWithin r left (next c)) → IsWithin r b (to_number v next)
to_number-within r b left value.Undefined next less here h = (left, less, h)
to_number-within r b left value.Null next less here h = (left, less, h)
to_number-within r b left (value.Bool x) next less here h = (left, less, h)
to_number-within r b left (value.Whole n) next less here h = here _
to_number-within r b left (value.Text t) next less here h = (left, less, h)
to_number-within r b left (value.Symbol s) next less here h = (left, less, h)
to_number-within r b left (value.Object o) next less here h = (left, less, h)

pub to_integer-within : (r b left : ℕ) (v : Value) (next : Completion → Program) → 12 + left < b → ((c : Completion) → IsWithin r b (next c)) → ((c : Completion) → IsWithin r left (next c)) → IsWithin r b (to_integer v next)
to_integer-within r b left value.Undefined next less here h = here _
to_integer-within r b left value.Null next less here h = (left, less, h)
to_integer-within r b left (value.Bool x) next less here h = (left, less, h)
to_integer-within r b left (value.Whole n) next less here h = here _
to_integer-within r b left (value.Text t) next less here h = (left, less, h)
to_integer-within r b left (value.Symbol s) next less here h = (left, less, h)
to_integer-within r b left (value.Object o) next less here h = (left, less, h)

with_whole-within : (r b : ℕ) (next : ℤ → Program) (v : Value) → ((n : ℤ) → IsWithin r b (next n)) → IsWithin r b (with_whole next v)
with_whole-within r b next value.Undefined h = tt
with_whole-within r b next value.Null h = tt
with_whole-within r b next (value.Bool x) h = tt
with_whole-within r b next (value.Whole n) h = h n
with_whole-within r b next (value.Text t) h = tt
with_whole-within r b next (value.Symbol s) h = tt
with_whole-within r b next (value.Object o) h = tt

pub then_whole-within : (r b : ℕ) (next : ℤ → Program) (c : Completion) → ((n : ℤ) → IsWithin r b (next n)) → IsWithin r b (then_whole next c)
then_whole-within r b next c h = go_on-within r b (with_whole next) (taken value_in c) (λ v. with_whole-within r b next v h)

pub length_got-within : (r b left : ℕ) (next : Completion → Program) (c : Completion) → 12 + left < b → ((d : Completion) → IsWithin r b (next d)) → ((d : Completion) → IsWithin r left (next d)) → IsWithin r b (length_got next c)
length_got-within r b left next c less here h = go_on-within r b (λ v. to_integer v next) (taken value_in c) (λ v. to_integer-within r b left v next less here h)

-- ToObject asks for nothing
pub to_object-within : (r b : ℕ) (v : Value) (next : ObjectId → Program) → ((o : ObjectId) → IsWithin r b (next o)) → IsWithin r b (to_object v next)
to_object-within r b value.Undefined next h = λ l m n o. tt
to_object-within r b value.Null next h = λ l m n o. tt
to_object-within r b (value.Bool x) next h = λ l. h _
to_object-within r b (value.Whole n) next h = λ l. h _
to_object-within r b (value.Text t) next h = λ l m n o. h _
to_object-within r b (value.Symbol s) next h = λ l. h _
to_object-within r b (value.Object o) next h = h o
