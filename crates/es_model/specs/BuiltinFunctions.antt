-- The built-in functions that are no constructors: one row for each, with its place among them, its name and its number of parameters.
use Rattle.std.specs.Prelude.{ℕ, List, [], ◌∷◌}
use Rattle.es_model.specs.declared.builtin_functions.BuiltinFunction.{BuiltinFunction}
use Rattle.es_model.specs.declared.builtin_functions.BuiltinFunction.TheVariants as function
use Rattle.es_model.specs.declared.start_texts.StartText.{StartText}
use Rattle.es_model.specs.declared.start_texts.StartText.TheVariants as start_text

-- in the order of their numbers
abbrev pub all_builtin_functions : List BuiltinFunction
all_builtin_functions =
    function.FunctionCall
    ∷ function.FunctionApply
    ∷ function.FunctionHasInstance
    ∷ function.NumberToString
    ∷ function.NumberValueOf
    ∷ function.BooleanToString
    ∷ function.BooleanValueOf
    ∷ function.SymbolToString
    ∷ function.SymbolValueOf
    ∷ function.SymbolDescription
    ∷ function.SymbolToPrimitive
    ∷ function.ErrorToString ∷ []

abbrev pub function_place : BuiltinFunction → ℕ
function_place function.FunctionCall = 0
function_place function.FunctionApply = 1
function_place function.FunctionHasInstance = 2
function_place function.NumberToString = 3
function_place function.NumberValueOf = 4
function_place function.BooleanToString = 5
function_place function.BooleanValueOf = 6
function_place function.SymbolToString = 7
function_place function.SymbolValueOf = 8
function_place function.SymbolDescription = 9
function_place function.SymbolToPrimitive = 10
function_place function.ErrorToString = 11

-- the values of `length` and `name`
abbrev pub function_parameters : BuiltinFunction → ℕ
function_parameters function.FunctionCall = 1
function_parameters function.FunctionApply = 2
function_parameters function.FunctionHasInstance = 1
function_parameters function.NumberToString = 1
function_parameters function.NumberValueOf = 0
function_parameters function.BooleanToString = 0
function_parameters function.BooleanValueOf = 0
function_parameters function.SymbolToString = 0
function_parameters function.SymbolValueOf = 0
function_parameters function.SymbolDescription = 0
function_parameters function.SymbolToPrimitive = 1
function_parameters function.ErrorToString = 0

abbrev pub function_text : BuiltinFunction → StartText
function_text function.FunctionCall = start_text.Call
function_text function.FunctionApply = start_text.Apply
function_text function.FunctionHasInstance = start_text.HasInstanceMethod
function_text function.NumberToString = start_text.ToString
function_text function.NumberValueOf = start_text.ValueOf
function_text function.BooleanToString = start_text.ToString
function_text function.BooleanValueOf = start_text.ValueOf
function_text function.SymbolToString = start_text.ToString
function_text function.SymbolValueOf = start_text.ValueOf
function_text function.SymbolDescription = start_text.GetDescription
function_text function.SymbolToPrimitive = start_text.ToPrimitiveMethod
function_text function.ErrorToString = start_text.ToString
