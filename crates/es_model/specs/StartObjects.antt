-- The numbers of the start objects: the global object, then a constructor and its prototype object for each class, then the others, and the built-in functions
-- that are no constructors (ECMA-262, 6.1.7.4).
use Rattle.std.specs.Prelude.{ℕ, ◌+◌, ◌*◌}
use Rattle.property_keys.specs.declared.identifiers.ObjectId.{ObjectId}
use Rattle.es_model.specs.declared.kinds.ErrorKind.{ErrorKind}
use Rattle.es_model.specs.declared.kinds.ErrorKind.TheVariants as error
use Rattle.es_model.specs.declared.intrinsics.Class.{Class}
use Rattle.es_model.specs.declared.intrinsics.Class.TheVariants as class
use Rattle.es_model.specs.declared.intrinsics.Intrinsic.{Intrinsic}
use Rattle.es_model.specs.declared.intrinsics.Intrinsic.TheVariants as intrinsic
use Rattle.es_model.specs.BuiltinFunctions.{function_place}

abbrev pub error_place : ErrorKind → ℕ
error_place error.Error = 0
error_place error.TypeError = 1
error_place error.RangeError = 2
error_place error.ReferenceError = 3
error_place error.SyntaxError = 4

abbrev pub class_place : Class → ℕ
class_place class.Object = 0
class_place class.Function = 1
class_place class.Array = 2
class_place class.String = 3
class_place class.Number = 4
class_place class.Boolean = 5
class_place class.Symbol = 6
class_place (class.Error kind) = 7 + error_place kind

abbrev pub start_number : Intrinsic → ℕ
start_number intrinsic.Global = 0
start_number (intrinsic.Constructor c) = 1 + 2 * class_place c
start_number (intrinsic.Prototype c) = 2 + 2 * class_place c
start_number intrinsic.Proxy = 25
start_number intrinsic.ThrowTypeError = 26
start_number intrinsic.Reflect = 27
start_number intrinsic.Print = 28
start_number (intrinsic.Function f) = 29 + function_place f

-- how many there are
abbrev pub start_objects : ℕ
start_objects = 41

abbrev pub object_of : Intrinsic → ObjectId
object_of i = record { 0 = start_number i }
