-- The programs of the built-in functions keep within the budget of the charge at their entering.
use Rattle.std.proofs.Common.{ℕ, ℤ, pos, ◌<◌, ◌≤◌, ◌+◌, ◌++◌, Bool, true, false, length, nat_le, Option, Some, None, List, arith, lit<, slice_get}
use Rattle.std.specs.Prelude.{codes, nat_abs}
use Rattle.property_keys.specs.declared.identifiers.ObjectId.{ObjectId}
use Rattle.property_keys.specs.declared.identifiers.SymbolId.{SymbolId}
use Rattle.property_keys.specs.declared.identifiers.TextId.{TextId}
use Rattle.property_keys.specs.declared.values.Value.{Value}
use Rattle.property_keys.specs.declared.values.Value.TheVariants as value
use Rattle.property_keys.specs.Limits.{most_units}
use Rattle.es_model.specs.declared.builtin_functions.BuiltinFunction.{BuiltinFunction}
use Rattle.es_model.specs.declared.builtin_functions.BuiltinFunction.TheVariants as function
use Rattle.es_model.specs.declared.intrinsics.Class.{Class}
use Rattle.es_model.specs.declared.intrinsics.Class.TheVariants as class
use Rattle.es_model.specs.declared.intrinsics.Intrinsic.{Intrinsic}
use Rattle.es_model.specs.declared.intrinsics.Intrinsic.TheVariants as intrinsic
use Rattle.es_model.specs.declared.kinds.ErrorKind.{ErrorKind}
use Rattle.es_model.specs.declared.kinds.ErrorKind.TheVariants as error
use Rattle.es_model.specs.Completions.{Completion}
use Rattle.es_model.specs.StartWorld.{all_intrinsics}
use Rattle.es_model.specs.World.{description, units_of}
use Rattle.es_model.specs.Program.{Program, done, intern}
use Rattle.es_model.specs.Weights.{IsWithin}
use Rattle.es_model.specs.programs.Abrupt.{flag_in, list_in, taken, value_in}
use Rattle.es_model.specs.programs.Converting.{to_number}
use Rattle.es_model.specs.programs.Errors.{not_a_function, throw_error}
use Rattle.es_model.specs.programs.Methods.{get_named}
use Rattle.es_model.specs.programs.Testing.{as_object, is_callable, is_truth}
use Rattle.es_model.specs.programs.Texts.{join, text, text_too_long, then_text, to_string, with_text}
use Rattle.es_model.proofs.SharedWithin.{error-within, get_named-within, has_named-within, then_whole-within, to_number-within}
use Rattle.es_model.proofs.Within.{go_on-within, within-cond}
use Rattle.function_objects.proofs.Constructed.{prototype_within}
use Rattle.core_builtins.specs.Answers.{first_given, first_of, gives, gives_text, gives_joined, inner_value, rest_of, second_of, three_joined, wrong_value}
use Rattle.core_builtins.specs.Booleans.{boolean_text, gives_boolean, with_boolean}
use Rattle.core_builtins.specs.Constructed.{create_wrapper, wrapper_given, wrapper_made}
use Rattle.core_builtins.specs.Core.{constructor_called, constructor_constructed, function_called, intrinsic_called, intrinsic_constructed, prototype_called, row_called, row_constructed}
use Rattle.core_builtins.specs.Errors.{cause_by, cause_given, cause_had, cause_is_there, cause_put, error_constructed, error_given, error_made, message_given, message_put, with_message}
use Rattle.core_builtins.specs.ErrorTexts.{message_asked, message_got, message_text_given, name_got, name_text_given, shown, shown_by, text_of_error, with_message_text, with_name_text}
use Rattle.core_builtins.specs.Functions.{gives_flag, apply_with, call_with, function_apply, function_call}
use Rattle.core_builtins.specs.Numbers.{gives_number, number_called_by, number_constructed_by, number_given, number_to_wrap, with_number, wrap_number}
use Rattle.core_builtins.specs.Radices.{is_radix, radix_given, radix_text, radix_units, with_radix}
use Rattle.core_builtins.specs.Symbols.{described, description_given, descriptive_of, descriptive_string, gives_description, gives_symbol, symbol_of, with_description, with_symbol}

wrong-within : (r b : ℕ) → IsWithin r b wrong_value
wrong-within r b = error-within r b error.TypeError (codes "wrong value")

-- ---- texts

with_text-within : (r b : ℕ) (next : TextId → Program) (v : Value) → ((t : TextId) → IsWithin r b (next t)) → IsWithin r b (with_text next v)
with_text-within r b next value.Undefined h = tt
with_text-within r b next value.Null h = tt
with_text-within r b next (value.Bool x) h = tt
with_text-within r b next (value.Whole n) h = tt
with_text-within r b next (value.Text t) h = h t
with_text-within r b next (value.Symbol s) h = tt
with_text-within r b next (value.Object o) h = tt

then_text-within : (r b : ℕ) (next : TextId → Program) (c : Completion) → ((t : TextId) → IsWithin r b (next t)) → IsWithin r b (then_text next c)
then_text-within r b next c h = go_on-within r b (with_text next) (taken value_in c) (λ v. with_text-within r b next v h)

to_string-within : (r b left : ℕ) (v : Value) (next : Completion → Program) → 12 + left < b → ((c : Completion) → IsWithin r b (next c)) → ((c : Completion) → IsWithin r left (next c)) → IsWithin r b (to_string v next)
to_string-within r b left value.Undefined next less here h = (left, less, h)
to_string-within r b left value.Null next less here h = (left, less, h)
to_string-within r b left (value.Bool x) next less here h = (left, less, h)
to_string-within r b left (value.Whole n) next less here h = (left, less, h)
to_string-within r b left (value.Text t) next less here h = here (text t)
to_string-within r b left (value.Symbol s) next less here h = (left, less, h)
to_string-within r b left (value.Object o) next less here h = (left, less, h)

join-within : (r b : ℕ) (x y : TextId) (next : TextId → Program) → ((t : TextId) → IsWithin r b (next t)) → IsWithin r b (join x y next)
join-within r b x y next h = λ l.
    within-cond r b (nat_le (length (units_of l x) + length (units_of l y)) most_units) (intern (units_of l x ++ units_of l y) next) text_too_long
    (λ m. h _) (error-within r b error.RangeError (codes "text too long"))

three_joined-within : (r b : ℕ) (x y z : TextId) → IsWithin r b (three_joined x y z)
three_joined-within r b x y z = join-within r b x y (λ start. gives_joined start z) (λ start. join-within r b start z (λ t. gives (value.Text t)) (λ t. tt))

-- ---- wrappers

create_wrapper-within : (r b : ℕ) (c : Class) (v : Value) (target : ObjectId) → 1 < b → IsWithin r b (create_wrapper c v target)
unfolding create_wrapper
create_wrapper-within r b c v target less =
    get_named-within r b 0 target (codes "prototype") (wrapper_given c v target) less (λ d. prototype_within r 0 c target (wrapper_made v) done d (λ p l. tt) (λ e. tt))

-- ---- Boolean

with_boolean-within : (r b : ℕ) (next : Bool → Program) (v : Value) → ((x : Bool) → IsWithin r b (next x)) → IsWithin r b (with_boolean next v)
with_boolean-within r b next value.Undefined h = wrong-within r b
with_boolean-within r b next value.Null h = wrong-within r b
with_boolean-within r b next (value.Bool x) h = h x
with_boolean-within r b next (value.Whole n) h = wrong-within r b
with_boolean-within r b next (value.Text t) h = wrong-within r b
with_boolean-within r b next (value.Symbol s) h = wrong-within r b
with_boolean-within r b next (value.Object o) h = wrong-within r b

-- ---- Number

with_number-within : (r b : ℕ) (next : ℤ → Program) (v : Value) → ((n : ℤ) → IsWithin r b (next n)) → IsWithin r b (with_number next v)
with_number-within r b next value.Undefined h = wrong-within r b
with_number-within r b next value.Null h = wrong-within r b
with_number-within r b next (value.Bool x) h = wrong-within r b
with_number-within r b next (value.Whole n) h = h n
with_number-within r b next (value.Text t) h = wrong-within r b
with_number-within r b next (value.Symbol s) h = wrong-within r b
with_number-within r b next (value.Object o) h = wrong-within r b

number_given-within : (r b : ℕ) (c : Completion) → IsWithin r b (number_given c)
number_given-within r b c = then_whole-within r b gives_number c (λ n. tt)

number_called-within : (r : ℕ) → 200 ≤ r → (v : Option Value) → IsWithin r r (number_called_by v)
number_called-within r enough None = tt
number_called-within r enough (Some v) = to_number-within r r 0 v number_given (omega arith) (number_given-within r r) (number_given-within r 0)

number_to_wrap-within : (r b : ℕ) (target : ObjectId) → 1 < b → (c : Completion) → IsWithin r b (number_to_wrap target c)
number_to_wrap-within r b target less c = then_whole-within r b (wrap_number target) c (λ n. create_wrapper-within r b class.Number (value.Whole n) target less)

number_constructed-within : (r : ℕ) → 200 ≤ r → (target : ObjectId) (v : Option Value) → IsWithin r r (number_constructed_by target v)
number_constructed-within r enough target None = create_wrapper-within r r class.Number (value.Whole (pos 0)) target (omega arith)
number_constructed-within r enough target (Some v) =
    to_number-within r r 2 v (number_to_wrap target) (omega arith) (number_to_wrap-within r r target (omega arith)) (number_to_wrap-within r 2 target (lit< tt))

radix_text-within : (r b : ℕ) (x radix : ℤ) → IsWithin r b (radix_text x radix)
radix_text-within r b x radix =
    within-cond r b (is_radix radix) (gives_text (radix_units (nat_abs radix) x)) (throw_error error.RangeError (codes "invalid radix")) (λ l. tt) (error-within r b error.RangeError (codes "invalid radix"))

radix_given-within : (r b : ℕ) (x : ℤ) (c : Completion) → IsWithin r b (radix_given x c)
radix_given-within r b x c = then_whole-within r b (radix_text x) c (radix_text-within r b x)

asked_radix-within : (r : ℕ) → 200 ≤ r → (v : Value) (x : ℤ) → IsWithin r r (to_number v (radix_given x))
asked_radix-within r enough v x = to_number-within r r 0 v (radix_given x) (omega arith) (radix_given-within r r x) (radix_given-within r 0 x)

with_radix-within : (r : ℕ) → 200 ≤ r → (v : Value) (x : ℤ) → IsWithin r r (with_radix v x)
with_radix-within r enough value.Undefined x = radix_text-within r r x (pos 10)
with_radix-within r enough value.Null x = asked_radix-within r enough value.Null x
with_radix-within r enough (value.Bool b) x = asked_radix-within r enough (value.Bool b) x
with_radix-within r enough (value.Whole n) x = asked_radix-within r enough (value.Whole n) x
with_radix-within r enough (value.Text t) x = asked_radix-within r enough (value.Text t) x
with_radix-within r enough (value.Symbol s) x = asked_radix-within r enough (value.Symbol s) x
with_radix-within r enough (value.Object o) x = asked_radix-within r enough (value.Object o) x

-- ---- Symbol

description_given-within : (r b : ℕ) (c : Completion) → IsWithin r b (description_given c)
description_given-within r b c = then_text-within r b described c (λ t l. tt)

symbol_of-within : (r : ℕ) → 200 ≤ r → (v : Value) → IsWithin r r (symbol_of v)
symbol_of-within r enough value.Undefined = λ l. tt
symbol_of-within r enough value.Null = to_string-within r r 0 value.Null description_given (omega arith) (description_given-within r r) (description_given-within r 0)
symbol_of-within r enough (value.Bool x) = to_string-within r r 0 (value.Bool x) description_given (omega arith) (description_given-within r r) (description_given-within r 0)
symbol_of-within r enough (value.Whole n) = to_string-within r r 0 (value.Whole n) description_given (omega arith) (description_given-within r r) (description_given-within r 0)
symbol_of-within r enough (value.Text t) = λ l. tt
symbol_of-within r enough (value.Symbol s) = to_string-within r r 0 (value.Symbol s) description_given (omega arith) (description_given-within r r) (description_given-within r 0)
symbol_of-within r enough (value.Object o) = to_string-within r r 0 (value.Object o) description_given (omega arith) (description_given-within r r) (description_given-within r 0)

with_symbol-within : (r b : ℕ) (next : SymbolId → Program) (v : Value) → ((s : SymbolId) → IsWithin r b (next s)) → IsWithin r b (with_symbol next v)
with_symbol-within r b next value.Undefined h = wrong-within r b
with_symbol-within r b next value.Null h = wrong-within r b
with_symbol-within r b next (value.Bool x) h = wrong-within r b
with_symbol-within r b next (value.Whole n) h = wrong-within r b
with_symbol-within r b next (value.Text t) h = wrong-within r b
with_symbol-within r b next (value.Symbol s) h = h s
with_symbol-within r b next (value.Object o) h = wrong-within r b

descriptive_of-within : (r b : ℕ) (t : TextId) → IsWithin r b (descriptive_of t)
descriptive_of-within r b t = λ l m. three_joined-within r b _ t _

descriptive-within : (r b : ℕ) (d : Option TextId) → IsWithin r b (with_description d descriptive_of)
descriptive-within r b None = λ l. descriptive_of-within r b _
descriptive-within r b (Some t) = descriptive_of-within r b t

-- ---- Function

apply_with-within : (r : ℕ) → 200 ≤ r → (f this list : Value) → IsWithin r r (apply_with f this list)
apply_with-within r enough f this value.Undefined = (0, omega arith, λ c. tt)
apply_with-within r enough f this value.Null = (0, omega arith, λ c. tt)
apply_with-within r enough f this (value.Bool x) = (1, omega arith, λ c. go_on-within r 1 (call_with f this) (taken list_in c) (λ vs. (0, lit< tt, λ d. tt)))
apply_with-within r enough f this (value.Whole n) = (1, omega arith, λ c. go_on-within r 1 (call_with f this) (taken list_in c) (λ vs. (0, lit< tt, λ d. tt)))
apply_with-within r enough f this (value.Text t) = (1, omega arith, λ c. go_on-within r 1 (call_with f this) (taken list_in c) (λ vs. (0, lit< tt, λ d. tt)))
apply_with-within r enough f this (value.Symbol s) = (1, omega arith, λ c. go_on-within r 1 (call_with f this) (taken list_in c) (λ vs. (0, lit< tt, λ d. tt)))
apply_with-within r enough f this (value.Object o) = (1, omega arith, λ c. go_on-within r 1 (call_with f this) (taken list_in c) (λ vs. (0, lit< tt, λ d. tt)))

function_apply-within : (r : ℕ) → 200 ≤ r → (this : Value) (vs : List Value) → IsWithin r r (function_apply this vs)
function_apply-within r enough this vs = λ l.
    within-cond r r (is_callable l this) (apply_with this (first_of vs) (second_of vs)) not_a_function
    (apply_with-within r enough this (first_of vs) (second_of vs)) (error-within r r error.TypeError (codes "not a function"))

function_call-within : (r : ℕ) → 200 ≤ r → (this : Value) (vs : List Value) → IsWithin r r (function_call this vs)
function_call-within r enough this vs = λ l.
    within-cond r r (is_callable l this) (call_with this (first_of vs) (rest_of vs)) not_a_function (0, omega arith, λ c. tt) (error-within r r error.TypeError (codes "not a function"))

-- ---- Error

cause_given-within : (r b : ℕ) (e : ObjectId) (c : Completion) → IsWithin r b (cause_given e c)
cause_given-within r b e c = go_on-within r b (cause_put e) (taken value_in c) (λ v l m. tt)

cause_is_there-within : (r b : ℕ) (e options : ObjectId) (x : Bool) → 1 < b → IsWithin r b (cause_is_there e options x)
cause_is_there-within r b e options x less =
    within-cond r b x (get_named options (codes "cause") (cause_given e)) (gives (value.Object e)) (get_named-within r b 0 options (codes "cause") (cause_given e) less (cause_given-within r 0 e)) tt

cause_by-within : (r b : ℕ) (e : ObjectId) (options : Option ObjectId) → 3 < b → IsWithin r b (cause_by e options)
cause_by-within r b e (Some options) less =
    has_named-within r b 2 options (codes "cause") (cause_had e options) less (λ c. go_on-within r 2 (cause_is_there e options) (taken flag_in c) (λ x. cause_is_there-within r 2 e options x (lit< tt)))
cause_by-within r b e None less = tt

message_put-within : (r b : ℕ) (e : ObjectId) (options : Value) (t : TextId) → 3 < b → IsWithin r b (message_put e options t)
message_put-within r b e options t less = λ l m. cause_by-within r b e (as_object options) less

message_given-within : (r b : ℕ) (e : ObjectId) (options : Value) → 3 < b → (c : Completion) → IsWithin r b (message_given e options c)
message_given-within r b e options less c = then_text-within r b (message_put e options) c (λ t. message_put-within r b e options t less)

converted-within : (r : ℕ) (e : ObjectId) (message options : Value) → IsWithin r 20 (to_string message (message_given e options))
converted-within r e message options = to_string-within r 20 4 message (message_given e options) (lit< tt) (message_given-within r 20 e options (lit< tt)) (message_given-within r 4 e options (lit< tt))

with_message-within : (r : ℕ) (e : ObjectId) (message options : Value) → IsWithin r 20 (with_message e message options)
with_message-within r e value.Undefined options = cause_by-within r 20 e (as_object options) (lit< tt)
with_message-within r e value.Null options = converted-within r e value.Null options
with_message-within r e (value.Bool x) options = converted-within r e (value.Bool x) options
with_message-within r e (value.Whole n) options = converted-within r e (value.Whole n) options
with_message-within r e (value.Text t) options = converted-within r e (value.Text t) options
with_message-within r e (value.Symbol s) options = converted-within r e (value.Symbol s) options
with_message-within r e (value.Object o) options = converted-within r e (value.Object o) options

error_constructed-within : (r : ℕ) → 200 ≤ r → (k : ErrorKind) (vs : List Value) (target : ObjectId) → IsWithin r r (error_constructed k vs target)
error_constructed-within r enough k vs target =
    get_named-within r r 20 target (codes "prototype") (error_given k target (first_of vs) (second_of vs)) (omega arith) (λ c.
    prototype_within r 20 (class.Error k) target (error_made (first_of vs) (second_of vs)) done c (λ p l. with_message-within r _ (first_of vs) (second_of vs)) (λ d. tt))

-- ---- Error.prototype.toString

shown_by-within : (r b : ℕ) (x y : Bool) (name message : TextId) → IsWithin r b (shown_by x y name message)
shown_by-within r b false y name message = tt
shown_by-within r b true false name message = tt
shown_by-within r b true true name message = λ l. three_joined-within r b name _ message

shown-within : (r b : ℕ) (name message : TextId) → IsWithin r b (shown name message)
shown-within r b name message = λ l. shown_by-within r b (is_truth l (value.Text name)) (is_truth l (value.Text message)) name message

message_text-within : (r b : ℕ) (name : TextId) (c : Completion) → IsWithin r b (message_text_given name c)
message_text-within r b name c = then_text-within r b (shown name) c (shown-within r b name)

message_shown-within : (r : ℕ) (name : TextId) (v : Value) → IsWithin r 20 (to_string v (message_text_given name))
message_shown-within r name v = to_string-within r 20 0 v (message_text_given name) (lit< tt) (message_text-within r 20 name) (message_text-within r 0 name)

with_message_text-within : (r : ℕ) (name : TextId) (v : Value) → IsWithin r 20 (with_message_text name v)
with_message_text-within r name value.Undefined = λ l. shown-within r 20 name _
with_message_text-within r name value.Null = message_shown-within r name value.Null
with_message_text-within r name (value.Bool x) = message_shown-within r name (value.Bool x)
with_message_text-within r name (value.Whole n) = message_shown-within r name (value.Whole n)
with_message_text-within r name (value.Text t) = message_shown-within r name (value.Text t)
with_message_text-within r name (value.Symbol s) = message_shown-within r name (value.Symbol s)
with_message_text-within r name (value.Object o) = message_shown-within r name (value.Object o)

message_asked-within : (r b : ℕ) (o : ObjectId) (name : TextId) → 21 < b → IsWithin r b (message_asked o name)
message_asked-within r b o name less =
    get_named-within r b 20 o (codes "message") (message_got name) less (λ c. go_on-within r 20 (with_message_text name) (taken value_in c) (with_message_text-within r name))

name_text-within : (r b : ℕ) (o : ObjectId) → 21 < b → (c : Completion) → IsWithin r b (name_text_given o c)
name_text-within r b o less c = then_text-within r b (message_asked o) c (λ name. message_asked-within r b o name less)

name_shown-within : (r : ℕ) (o : ObjectId) (v : Value) → IsWithin r 40 (to_string v (name_text_given o))
name_shown-within r o v = to_string-within r 40 22 v (name_text_given o) (lit< tt) (name_text-within r 40 o (lit< tt)) (name_text-within r 22 o (lit< tt))

with_name_text-within : (r : ℕ) (o : ObjectId) (v : Value) → IsWithin r 40 (with_name_text o v)
with_name_text-within r o value.Undefined = λ l. message_asked-within r 40 o _ (lit< tt)
with_name_text-within r o value.Null = name_shown-within r o value.Null
with_name_text-within r o (value.Bool x) = name_shown-within r o (value.Bool x)
with_name_text-within r o (value.Whole n) = name_shown-within r o (value.Whole n)
with_name_text-within r o (value.Text t) = name_shown-within r o (value.Text t)
with_name_text-within r o (value.Symbol s) = name_shown-within r o (value.Symbol s)
with_name_text-within r o (value.Object p) = name_shown-within r o (value.Object p)

text_of_error-within : (r : ℕ) → 200 ≤ r → (o : Option ObjectId) → IsWithin r r (text_of_error o)
text_of_error-within r enough (Some o) =
    get_named-within r r 40 o (codes "name") (name_got o) (omega arith) (λ c. go_on-within r 40 (with_name_text o) (taken value_in c) (with_name_text-within r o))
text_of_error-within r enough None = error-within r r error.TypeError (codes "not an object")

-- ---- the rows

constructor_called-within : (r : ℕ) → 200 ≤ r → (c : Class) (f : ObjectId) (vs : List Value) → IsWithin r r (constructor_called c f vs)
constructor_called-within r enough class.Object f vs = tt
constructor_called-within r enough class.Function f vs = wrong-within r r
constructor_called-within r enough class.Array f vs = tt
constructor_called-within r enough class.String f vs = tt
constructor_called-within r enough class.Number f vs = number_called-within r enough (first_given vs)
constructor_called-within r enough class.Boolean f vs = λ l. tt
constructor_called-within r enough class.Symbol f vs = symbol_of-within r enough (first_of vs)
constructor_called-within r enough (class.Error k) f vs = error_constructed-within r enough k vs f

prototype_called-within : (r : ℕ) (c : Class) → IsWithin r r (prototype_called c)
prototype_called-within r class.Object = tt
prototype_called-within r class.Function = tt
prototype_called-within r class.Array = tt
prototype_called-within r class.String = tt
prototype_called-within r class.Number = tt
prototype_called-within r class.Boolean = tt
prototype_called-within r class.Symbol = tt
prototype_called-within r (class.Error k) = tt

function_called-within : (r : ℕ) → 200 ≤ r → (g : BuiltinFunction) (this : Value) (vs : List Value) → IsWithin r r (function_called g this vs)
function_called-within r enough function.FunctionCall this vs = function_call-within r enough this vs
function_called-within r enough function.FunctionApply this vs = function_apply-within r enough this vs
function_called-within r enough function.FunctionHasInstance this vs = (0, omega arith, λ c. go_on-within r 0 gives_flag (taken flag_in c) (λ b. tt))
function_called-within r enough function.NumberToString this vs = λ l. with_number-within r r (with_radix (first_of vs)) (inner_value l this) (with_radix-within r enough (first_of vs))
function_called-within r enough function.NumberValueOf this vs = λ l. with_number-within r r gives_number (inner_value l this) (λ n. tt)
function_called-within r enough function.BooleanToString this vs = λ l. with_boolean-within r r boolean_text (inner_value l this) (λ x m. tt)
function_called-within r enough function.BooleanValueOf this vs = λ l. with_boolean-within r r gives_boolean (inner_value l this) (λ x. tt)
function_called-within r enough function.SymbolToString this vs = λ l. with_symbol-within r r descriptive_string (inner_value l this) (λ s m. descriptive-within r r (description m s))
function_called-within r enough function.SymbolValueOf this vs = λ l. with_symbol-within r r gives_symbol (inner_value l this) (λ s. tt)
function_called-within r enough function.SymbolDescription this vs = λ l. with_symbol-within r r gives_description (inner_value l this) (λ s m. tt)
function_called-within r enough function.SymbolToPrimitive this vs = λ l. with_symbol-within r r gives_symbol (inner_value l this) (λ s. tt)
function_called-within r enough function.ErrorToString this vs = text_of_error-within r enough (as_object this)

intrinsic_called-within : (r : ℕ) → 200 ≤ r → (i : Option Intrinsic) (f : ObjectId) (this : Value) (vs : List Value) → IsWithin r r (intrinsic_called i f this vs)
intrinsic_called-within r enough (Some (intrinsic.Constructor c)) f this vs = constructor_called-within r enough c f vs
intrinsic_called-within r enough (Some (intrinsic.Prototype c)) f this vs = prototype_called-within r c
intrinsic_called-within r enough (Some intrinsic.ThrowTypeError) f this vs = wrong-within r r
intrinsic_called-within r enough (Some (intrinsic.Function g)) f this vs = function_called-within r enough g this vs
intrinsic_called-within r enough (Some intrinsic.Global) f this vs = tt
intrinsic_called-within r enough (Some intrinsic.Proxy) f this vs = tt
intrinsic_called-within r enough (Some intrinsic.Reflect) f this vs = tt
intrinsic_called-within r enough (Some intrinsic.Print) f this vs = tt
intrinsic_called-within r enough None f this vs = tt

pub row_called-within : (r : ℕ) → 200 ≤ r → (row : ℕ) (f : ObjectId) (this : Value) (vs : List Value) → IsWithin r r (row_called row f this vs)
row_called-within r enough row f this vs = intrinsic_called-within r enough (slice_get all_intrinsics row) f this vs

constructor_constructed-within : (r : ℕ) → 200 ≤ r → (c : Class) (vs : List Value) (target : ObjectId) → IsWithin r r (constructor_constructed c vs target)
constructor_constructed-within r enough class.Object vs target = tt
constructor_constructed-within r enough class.Function vs target = wrong-within r r
constructor_constructed-within r enough class.Array vs target = tt
constructor_constructed-within r enough class.String vs target = tt
constructor_constructed-within r enough class.Number vs target = number_constructed-within r enough target (first_given vs)
constructor_constructed-within r enough class.Boolean vs target = λ l. create_wrapper-within r r class.Boolean (value.Bool (is_truth l (first_of vs))) target (omega arith)
constructor_constructed-within r enough class.Symbol vs target = wrong-within r r
constructor_constructed-within r enough (class.Error k) vs target = error_constructed-within r enough k vs target

intrinsic_constructed-within : (r : ℕ) → 200 ≤ r → (i : Option Intrinsic) (vs : List Value) (target : ObjectId) → IsWithin r r (intrinsic_constructed i vs target)
intrinsic_constructed-within r enough (Some (intrinsic.Constructor c)) vs target = constructor_constructed-within r enough c vs target
intrinsic_constructed-within r enough (Some (intrinsic.Prototype c)) vs target = tt
intrinsic_constructed-within r enough (Some intrinsic.ThrowTypeError) vs target = tt
intrinsic_constructed-within r enough (Some (intrinsic.Function g)) vs target = tt
intrinsic_constructed-within r enough (Some intrinsic.Global) vs target = tt
intrinsic_constructed-within r enough (Some intrinsic.Proxy) vs target = tt
intrinsic_constructed-within r enough (Some intrinsic.Reflect) vs target = tt
intrinsic_constructed-within r enough (Some intrinsic.Print) vs target = tt
intrinsic_constructed-within r enough None vs target = tt

pub row_constructed-within : (r : ℕ) → 200 ≤ r → (row : ℕ) (vs : List Value) (target : ObjectId) → IsWithin r r (row_constructed row vs target)
row_constructed-within r enough row vs target = intrinsic_constructed-within r enough (slice_get all_intrinsics row) vs target
