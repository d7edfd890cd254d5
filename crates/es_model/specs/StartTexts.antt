-- The texts and Symbols that are there before a script runs: the first in their tables.
use Rattle.std.specs.Prelude.{ℕ, ◌+◌, List, [], ◌∷◌, map, codes, Option, Some}
use Rattle.property_keys.specs.declared.identifiers.SymbolId.{SymbolId}
use Rattle.property_keys.specs.declared.identifiers.TextId.{TextId}
use Rattle.es_model.specs.declared.kinds.ErrorKind.TheVariants as error
use Rattle.es_model.specs.declared.intrinsics.Class.TheVariants as class
use Rattle.es_model.specs.declared.start_texts.StartText.{StartText}
use Rattle.es_model.specs.declared.start_texts.StartText.TheVariants as start_text
use Rattle.es_model.specs.declared.start_texts.WellKnown.{WellKnown}
use Rattle.es_model.specs.declared.start_texts.WellKnown.TheVariants as symbol
use Rattle.es_model.specs.StartObjects.{class_place}

abbrev pub symbol_number : WellKnown → ℕ
symbol_number symbol.HasInstance = 0
symbol_number symbol.ToPrimitive = 1
symbol_number symbol.ToStringTag = 2

abbrev pub text_number : StartText → ℕ
text_number start_text.Length = 0
text_number start_text.Name = 1
text_number start_text.Prototype = 2
text_number start_text.Constructor = 3
text_number start_text.Message = 4
text_number start_text.Empty = 5
text_number start_text.GlobalThis = 6
text_number start_text.Undefined = 7
text_number start_text.Proxy = 8
text_number start_text.Reflect = 9
text_number (start_text.Symbol s) = 10 + symbol_number s
text_number (start_text.Description s) = 13 + symbol_number s
text_number (start_text.Class c) = 16 + class_place c
text_number start_text.Print = 28
text_number start_text.Call = 29
text_number start_text.Apply = 30
text_number start_text.ToString = 31
text_number start_text.ValueOf = 32
text_number start_text.SymbolDescription = 33
text_number start_text.GetDescription = 34
text_number start_text.HasInstanceMethod = 35
text_number start_text.ToPrimitiveMethod = 36

abbrev pub symbol_of : WellKnown → SymbolId
symbol_of s = record { 0 = symbol_number s }

abbrev pub text_of : StartText → TextId
text_of t = record { 0 = text_number t }

-- their code units
abbrev pub units_of_start : StartText → List ℕ
units_of_start start_text.Length = codes "length"
units_of_start start_text.Name = codes "name"
units_of_start start_text.Prototype = codes "prototype"
units_of_start start_text.Constructor = codes "constructor"
units_of_start start_text.Message = codes "message"
units_of_start start_text.Empty = []
units_of_start start_text.GlobalThis = codes "globalThis"
units_of_start start_text.Undefined = codes "undefined"
units_of_start start_text.Proxy = codes "Proxy"
units_of_start start_text.Reflect = codes "Reflect"
units_of_start (start_text.Symbol symbol.HasInstance) = codes "hasInstance"
units_of_start (start_text.Symbol symbol.ToPrimitive) = codes "toPrimitive"
units_of_start (start_text.Symbol symbol.ToStringTag) = codes "toStringTag"
units_of_start (start_text.Description symbol.HasInstance) = codes "Symbol.hasInstance"
units_of_start (start_text.Description symbol.ToPrimitive) = codes "Symbol.toPrimitive"
units_of_start (start_text.Description symbol.ToStringTag) = codes "Symbol.toStringTag"
units_of_start (start_text.Class class.Object) = codes "Object"
units_of_start (start_text.Class class.Function) = codes "Function"
units_of_start (start_text.Class class.Array) = codes "Array"
units_of_start (start_text.Class class.String) = codes "String"
units_of_start (start_text.Class class.Number) = codes "Number"
units_of_start (start_text.Class class.Boolean) = codes "Boolean"
units_of_start (start_text.Class class.Symbol) = codes "Symbol"
units_of_start (start_text.Class (class.Error error.Error)) = codes "Error"
units_of_start (start_text.Class (class.Error error.TypeError)) = codes "TypeError"
units_of_start (start_text.Class (class.Error error.RangeError)) = codes "RangeError"
units_of_start (start_text.Class (class.Error error.ReferenceError)) = codes "ReferenceError"
units_of_start (start_text.Class (class.Error error.SyntaxError)) = codes "SyntaxError"
units_of_start start_text.Print = codes "print"
units_of_start start_text.Call = codes "call"
units_of_start start_text.Apply = codes "apply"
units_of_start start_text.ToString = codes "toString"
units_of_start start_text.ValueOf = codes "valueOf"
units_of_start start_text.SymbolDescription = codes "description"
units_of_start start_text.GetDescription = codes "get description"
units_of_start start_text.HasInstanceMethod = codes "[Symbol.hasInstance]"
units_of_start start_text.ToPrimitiveMethod = codes "[Symbol.toPrimitive]"

-- in the order of their numbers
abbrev pub all_start_texts : List StartText
all_start_texts =
    start_text.Length ∷ start_text.Name ∷ start_text.Prototype ∷ start_text.Constructor ∷ start_text.Message
    ∷ start_text.Empty ∷ start_text.GlobalThis ∷ start_text.Undefined
    ∷ start_text.Proxy ∷ start_text.Reflect
    ∷ start_text.Symbol symbol.HasInstance ∷ start_text.Symbol symbol.ToPrimitive ∷ start_text.Symbol symbol.ToStringTag
    ∷ start_text.Description symbol.HasInstance ∷ start_text.Description symbol.ToPrimitive ∷ start_text.Description symbol.ToStringTag
    ∷ start_text.Class class.Object ∷ start_text.Class class.Function ∷ start_text.Class class.Array
    ∷ start_text.Class class.String ∷ start_text.Class class.Number
    ∷ start_text.Class class.Boolean ∷ start_text.Class class.Symbol ∷ start_text.Class (class.Error error.Error)
    ∷ start_text.Class (class.Error error.TypeError)
    ∷ start_text.Class (class.Error error.RangeError) ∷ start_text.Class (class.Error error.ReferenceError)
    ∷ start_text.Class (class.Error error.SyntaxError) ∷ start_text.Print
    ∷ start_text.Call ∷ start_text.Apply ∷ start_text.ToString ∷ start_text.ValueOf ∷ start_text.SymbolDescription
    ∷ start_text.GetDescription ∷ start_text.HasInstanceMethod ∷ start_text.ToPrimitiveMethod ∷ []

abbrev pub start_texts : List (List ℕ)
start_texts = map units_of_start all_start_texts

-- each well-known Symbol has its description (6.1.5.1)
abbrev pub start_symbols : List (Option TextId)
start_symbols =
    Some (text_of (start_text.Description symbol.HasInstance))
    ∷ Some (text_of (start_text.Description symbol.ToPrimitive))
    ∷ Some (text_of (start_text.Description symbol.ToStringTag))
    ∷ []
