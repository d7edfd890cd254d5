-- The table of rows: which program a built-in function has where it is called, and where it is constructed. Its number is the row, and its length, its name and
-- whether it constructs stand in the tables of the start objects.
use Rattle.std.specs.Prelude.{ℕ, Option, Some, None, List, slice_get}
use Rattle.property_keys.specs.declared.identifiers.ObjectId.{ObjectId}
use Rattle.property_keys.specs.declared.values.Value.{Value}
use Rattle.property_keys.specs.declared.values.Value.TheVariants as value
use Rattle.es_model.specs.declared.builtin_functions.BuiltinFunction.{BuiltinFunction}
use Rattle.es_model.specs.declared.builtin_functions.BuiltinFunction.TheVariants as function
use Rattle.es_model.specs.declared.intrinsics.Class.{Class}
use Rattle.es_model.specs.declared.intrinsics.Class.TheVariants as class
use Rattle.es_model.specs.declared.intrinsics.Intrinsic.{Intrinsic}
use Rattle.es_model.specs.declared.intrinsics.Intrinsic.TheVariants as intrinsic
use Rattle.es_model.specs.declared.kinds.ObjectKind.{ObjectKind}
use Rattle.es_model.specs.declared.kinds.ObjectKind.TheVariants as kind_of
use Rattle.es_model.specs.declared.requests.Request.{Request}
use Rattle.es_model.specs.declared.requests.Request.TheVariants.{Call, Construct}
use Rattle.es_model.specs.StartWorld.{all_intrinsics}
use Rattle.es_model.specs.World.{kind}
use Rattle.es_model.specs.Program.{Program, done, look}
use Rattle.es_model.specs.programs.Errors.{undefined, unfit, unwritten}
use Rattle.core_builtins.specs.Answers.{wrong_value}
use Rattle.core_builtins.specs.Booleans.{boolean_called, boolean_constructed, boolean_to_string, boolean_value_of}
use Rattle.core_builtins.specs.Errors.{error_constructed}
use Rattle.core_builtins.specs.ErrorTexts.{error_to_string}
use Rattle.core_builtins.specs.Functions.{function_apply, function_call, function_has_instance}
use Rattle.core_builtins.specs.Numbers.{number_called, number_constructed, number_value_of}
use Rattle.core_builtins.specs.Radices.{number_to_string}
use Rattle.core_builtins.specs.Symbols.{symbol_called, symbol_description, symbol_to_string, symbol_value_of}

-- ---- calls, each after its entering. What is not written yet throws undefined

abbrev pub constructor_called : Class → ObjectId → List Value → Program
constructor_called class.Function f arguments = wrong_value
constructor_called class.Number f arguments = number_called arguments
constructor_called class.Boolean f arguments = boolean_called arguments
constructor_called class.Symbol f arguments = symbol_called arguments
constructor_called (class.Error kind) f arguments = error_constructed kind arguments f
constructor_called class.Object f arguments = unwritten
constructor_called class.Array f arguments = unwritten
constructor_called class.String f arguments = unwritten

-- %Function.prototype% alone is a function (20.2.3)
abbrev pub prototype_called : Class → Program
prototype_called class.Function = done undefined
prototype_called other = unfit

abbrev pub function_called : BuiltinFunction → Value → List Value → Program
function_called function.FunctionCall this arguments = function_call this arguments
function_called function.FunctionApply this arguments = function_apply this arguments
function_called function.FunctionHasInstance this arguments = function_has_instance this arguments
function_called function.NumberToString this arguments = number_to_string this arguments
function_called function.NumberValueOf this arguments = number_value_of this
function_called function.BooleanToString this arguments = boolean_to_string this
function_called function.BooleanValueOf this arguments = boolean_value_of this
function_called function.SymbolToString this arguments = symbol_to_string this
function_called function.SymbolValueOf this arguments = symbol_value_of this
function_called function.SymbolDescription this arguments = symbol_description this
function_called function.SymbolToPrimitive this arguments = symbol_value_of this
function_called function.ErrorToString this arguments = error_to_string this

-- the object is the function that is called
abbrev pub intrinsic_called : Option Intrinsic → ObjectId → Value → List Value → Program
intrinsic_called (Some (intrinsic.Constructor c)) f this arguments = constructor_called c f arguments
intrinsic_called (Some (intrinsic.Prototype c)) f this arguments = prototype_called c
intrinsic_called (Some intrinsic.ThrowTypeError) f this arguments = wrong_value
intrinsic_called (Some (intrinsic.Function g)) f this arguments = function_called g this arguments
intrinsic_called (Some intrinsic.Global) f this arguments = unfit
intrinsic_called (Some intrinsic.Proxy) f this arguments = unwritten
intrinsic_called (Some intrinsic.Reflect) f this arguments = unfit
intrinsic_called (Some intrinsic.Print) f this arguments = unfit
intrinsic_called None f this arguments = unfit

abbrev pub row_called : ℕ → ObjectId → Value → List Value → Program
row_called row f this arguments = intrinsic_called (slice_get all_intrinsics row) f this arguments

-- ---- constructions, each after its entering

abbrev pub constructor_constructed : Class → List Value → ObjectId → Program
constructor_constructed class.Function arguments target = wrong_value
constructor_constructed class.Number arguments target = number_constructed arguments target
constructor_constructed class.Boolean arguments target = boolean_constructed arguments target
constructor_constructed class.Symbol arguments target = wrong_value
constructor_constructed (class.Error kind) arguments target = error_constructed kind arguments target
constructor_constructed class.Object arguments target = unwritten
constructor_constructed class.Array arguments target = unwritten
constructor_constructed class.String arguments target = unwritten

abbrev pub intrinsic_constructed : Option Intrinsic → List Value → ObjectId → Program
intrinsic_constructed (Some (intrinsic.Constructor c)) arguments target = constructor_constructed c arguments target
intrinsic_constructed (Some other) arguments target = unwritten
intrinsic_constructed None arguments target = unfit

abbrev pub row_constructed : ℕ → List Value → ObjectId → Program
row_constructed row arguments target = intrinsic_constructed (slice_get all_intrinsics row) arguments target

-- ---- the requests. The dispatcher sends no other here

abbrev pub row_of : ObjectKind → Option ℕ
row_of (kind_of.Builtin row constructor proxy) = Some row
row_of other = None

abbrev pub call_of : Option ℕ → ObjectId → Value → List Value → Program
call_of (Some row) f this arguments = row_called row f this arguments
call_of None f this arguments = unfit

abbrev pub call_program : Value → Value → List Value → Program
call_program (value.Object f) this arguments = look (λ l. call_of (row_of (kind l f)) f this arguments)
call_program other this arguments = unfit

abbrev pub construct_of : Option ℕ → List Value → ObjectId → Program
construct_of (Some row) arguments target = row_constructed row arguments target
construct_of None arguments target = unfit

abbrev pub construct_program : ObjectId → List Value → ObjectId → Program
construct_program f arguments target = look (λ l. construct_of (row_of (kind l f)) arguments target)

abbrev pub core_program : Request → Program
core_program (Call f this arguments) = call_program f this arguments
core_program (Construct f arguments target) = construct_program f arguments target
core_program other = unfit
