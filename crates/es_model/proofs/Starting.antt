-- The laws over the start world, by computing each case.
use Rattle.std.specs.Prelude.{◌≡◌, Some, refl, slice_get}
use Rattle.es_model.specs.declared.kinds.ErrorKind.TheVariants as error
use Rattle.es_model.specs.declared.intrinsics.Class.TheVariants as class
use Rattle.es_model.specs.declared.intrinsics.Intrinsic.{Intrinsic}
use Rattle.es_model.specs.declared.intrinsics.Intrinsic.TheVariants as intrinsic
use Rattle.es_model.specs.declared.builtin_functions.BuiltinFunction.TheVariants as function
use Rattle.es_model.specs.declared.start_texts.StartText.{StartText}
use Rattle.es_model.specs.declared.start_texts.StartText.TheVariants as start_text
use Rattle.es_model.specs.declared.start_texts.WellKnown.TheVariants as symbol
use Rattle.es_model.specs.World.{text_place}
use Rattle.es_model.specs.StartObjects.{start_number}
use Rattle.es_model.specs.StartTexts.{text_number, start_texts, units_of_start}
use Rattle.es_model.specs.StartWorld.{start_lists, start_object}
use Rattle.es_model.specs.StartLaws.{ObjectsAreInOrder, SymbolsAreInOrder, TextsAreInOrder}

object-stands : (i : Intrinsic) → slice_get start_lists.objects (start_number i) ≡ Some (start_object i)
object-stands intrinsic.Global = refl
object-stands (intrinsic.Constructor class.Object) = refl
object-stands (intrinsic.Prototype class.Object) = refl
object-stands (intrinsic.Constructor class.Function) = refl
object-stands (intrinsic.Prototype class.Function) = refl
object-stands (intrinsic.Constructor class.Array) = refl
object-stands (intrinsic.Prototype class.Array) = refl
object-stands (intrinsic.Constructor class.String) = refl
object-stands (intrinsic.Prototype class.String) = refl
object-stands (intrinsic.Constructor class.Number) = refl
object-stands (intrinsic.Prototype class.Number) = refl
object-stands (intrinsic.Constructor class.Boolean) = refl
object-stands (intrinsic.Prototype class.Boolean) = refl
object-stands (intrinsic.Constructor class.Symbol) = refl
object-stands (intrinsic.Prototype class.Symbol) = refl
object-stands (intrinsic.Constructor (class.Error error.Error)) = refl
object-stands (intrinsic.Prototype (class.Error error.Error)) = refl
object-stands (intrinsic.Constructor (class.Error error.TypeError)) = refl
object-stands (intrinsic.Prototype (class.Error error.TypeError)) = refl
object-stands (intrinsic.Constructor (class.Error error.RangeError)) = refl
object-stands (intrinsic.Prototype (class.Error error.RangeError)) = refl
object-stands (intrinsic.Constructor (class.Error error.ReferenceError)) = refl
object-stands (intrinsic.Prototype (class.Error error.ReferenceError)) = refl
object-stands (intrinsic.Constructor (class.Error error.SyntaxError)) = refl
object-stands (intrinsic.Prototype (class.Error error.SyntaxError)) = refl
object-stands intrinsic.Proxy = refl
object-stands intrinsic.ThrowTypeError = refl
object-stands intrinsic.Reflect = refl
object-stands intrinsic.Print = refl
object-stands (intrinsic.Function function.FunctionCall) = refl
object-stands (intrinsic.Function function.FunctionApply) = refl
object-stands (intrinsic.Function function.FunctionHasInstance) = refl
object-stands (intrinsic.Function function.NumberToString) = refl
object-stands (intrinsic.Function function.NumberValueOf) = refl
object-stands (intrinsic.Function function.BooleanToString) = refl
object-stands (intrinsic.Function function.BooleanValueOf) = refl
object-stands (intrinsic.Function function.SymbolToString) = refl
object-stands (intrinsic.Function function.SymbolValueOf) = refl
object-stands (intrinsic.Function function.SymbolDescription) = refl
object-stands (intrinsic.Function function.SymbolToPrimitive) = refl
object-stands (intrinsic.Function function.ErrorToString) = refl

pub objects-are-in-order : ObjectsAreInOrder
objects-are-in-order = (object-stands, refl)

pub symbols-are-in-order : SymbolsAreInOrder
symbols-are-in-order symbol.HasInstance = refl
symbols-are-in-order symbol.ToPrimitive = refl
symbols-are-in-order symbol.ToStringTag = refl

text-stands : (t : StartText) → slice_get start_texts (text_number t) ≡ Some (units_of_start t)
text-stands start_text.Length = refl
text-stands start_text.Name = refl
text-stands start_text.Prototype = refl
text-stands start_text.Constructor = refl
text-stands start_text.Message = refl
text-stands start_text.Empty = refl
text-stands start_text.GlobalThis = refl
text-stands start_text.Undefined = refl
text-stands start_text.Proxy = refl
text-stands start_text.Reflect = refl
text-stands (start_text.Symbol symbol.HasInstance) = refl
text-stands (start_text.Symbol symbol.ToPrimitive) = refl
text-stands (start_text.Symbol symbol.ToStringTag) = refl
text-stands (start_text.Description symbol.HasInstance) = refl
text-stands (start_text.Description symbol.ToPrimitive) = refl
text-stands (start_text.Description symbol.ToStringTag) = refl
text-stands (start_text.Class class.Object) = refl
text-stands (start_text.Class class.Function) = refl
text-stands (start_text.Class class.Array) = refl
text-stands (start_text.Class class.String) = refl
text-stands (start_text.Class class.Number) = refl
text-stands (start_text.Class class.Boolean) = refl
text-stands (start_text.Class class.Symbol) = refl
text-stands (start_text.Class (class.Error error.Error)) = refl
text-stands (start_text.Class (class.Error error.TypeError)) = refl
text-stands (start_text.Class (class.Error error.RangeError)) = refl
text-stands (start_text.Class (class.Error error.ReferenceError)) = refl
text-stands (start_text.Class (class.Error error.SyntaxError)) = refl
text-stands start_text.Print = refl
text-stands start_text.Call = refl
text-stands start_text.Apply = refl
text-stands start_text.ToString = refl
text-stands start_text.ValueOf = refl
text-stands start_text.SymbolDescription = refl
text-stands start_text.GetDescription = refl
text-stands start_text.HasInstanceMethod = refl
text-stands start_text.ToPrimitiveMethod = refl

text-found : (t : StartText) → text_place start_texts (units_of_start t) ≡ text_number t
text-found start_text.Length = refl
text-found start_text.Name = refl
text-found start_text.Prototype = refl
text-found start_text.Constructor = refl
text-found start_text.Message = refl
text-found start_text.Empty = refl
text-found start_text.GlobalThis = refl
text-found start_text.Undefined = refl
text-found start_text.Proxy = refl
text-found start_text.Reflect = refl
text-found (start_text.Symbol symbol.HasInstance) = refl
text-found (start_text.Symbol symbol.ToPrimitive) = refl
text-found (start_text.Symbol symbol.ToStringTag) = refl
text-found (start_text.Description symbol.HasInstance) = refl
text-found (start_text.Description symbol.ToPrimitive) = refl
text-found (start_text.Description symbol.ToStringTag) = refl
text-found (start_text.Class class.Object) = refl
text-found (start_text.Class class.Function) = refl
text-found (start_text.Class class.Array) = refl
text-found (start_text.Class class.String) = refl
text-found (start_text.Class class.Number) = refl
text-found (start_text.Class class.Boolean) = refl
text-found (start_text.Class class.Symbol) = refl
text-found (start_text.Class (class.Error error.Error)) = refl
text-found (start_text.Class (class.Error error.TypeError)) = refl
text-found (start_text.Class (class.Error error.RangeError)) = refl
text-found (start_text.Class (class.Error error.ReferenceError)) = refl
text-found (start_text.Class (class.Error error.SyntaxError)) = refl
text-found start_text.Print = refl
text-found start_text.Call = refl
text-found start_text.Apply = refl
text-found start_text.ToString = refl
text-found start_text.ValueOf = refl
text-found start_text.SymbolDescription = refl
text-found start_text.GetDescription = refl
text-found start_text.HasInstanceMethod = refl
text-found start_text.ToPrimitiveMethod = refl

pub texts-are-in-order : TextsAreInOrder
texts-are-in-order t = (text-stands t, text-found t)
