-- The start objects (ECMA-262, 18 to 28) and their properties, in the order of their creation. A property whose value, getter or setter is a built-in function
-- comes with that function.
use Rattle.std.specs.Prelude.{ℕ, pos, Bool, true, false, if◌then◌else◌, Option, Some, None, List, [], ◌∷◌}
use Rattle.property_keys.specs.declared.keys.PropKey.{PropKey}
use Rattle.property_keys.specs.declared.keys.PropKey.TheVariants.{Name, Sym}
use Rattle.property_keys.specs.declared.values.Value.{Value}
use Rattle.property_keys.specs.declared.values.Value.TheVariants as value
use Rattle.descriptors.specs.declared.property.Complete.TheVariants as complete
use Rattle.es_model.specs.declared.owned.OwnProperty.{OwnProperty}
use Rattle.es_model.specs.declared.kinds.ErrorKind.{ErrorKind}
use Rattle.es_model.specs.declared.kinds.ErrorKind.TheVariants as error
use Rattle.es_model.specs.declared.kinds.ObjectKind.{ObjectKind}
use Rattle.es_model.specs.declared.kinds.ObjectKind.TheVariants as kind_of
use Rattle.es_model.specs.declared.intrinsics.Class.{Class}
use Rattle.es_model.specs.declared.intrinsics.Class.TheVariants as class
use Rattle.es_model.specs.declared.intrinsics.Intrinsic.{Intrinsic}
use Rattle.es_model.specs.declared.intrinsics.Intrinsic.TheVariants as intrinsic
use Rattle.es_model.specs.declared.builtin_functions.BuiltinFunction.{BuiltinFunction}
use Rattle.es_model.specs.declared.builtin_functions.BuiltinFunction.TheVariants as function
use Rattle.es_model.specs.declared.start_texts.StartText.{StartText}
use Rattle.es_model.specs.declared.start_texts.StartText.TheVariants as start_text
use Rattle.es_model.specs.declared.start_texts.WellKnown.{WellKnown}
use Rattle.es_model.specs.declared.start_texts.WellKnown.TheVariants as symbol
use Rattle.es_model.specs.BuiltinFunctions.{function_parameters, function_text}
use Rattle.es_model.specs.StartObjects.{object_of, start_number}
use Rattle.es_model.specs.StartTexts.{symbol_of, text_of}

-- ---- what they are

-- the row of a built-in function that is a start object is the object's number
abbrev pub builtin : Intrinsic → Bool → ObjectKind
builtin i constructor = kind_of.Builtin (start_number i) constructor None

-- %Array.prototype% is an Array (23.1.3), those of String, Number and Boolean are a String, Number and Boolean object (22.1.3, 21.1.3, 20.3.3), that
-- of Function is a function (20.2.3), and the others are ordinary
abbrev pub prototype_kind : Class → ObjectKind
prototype_kind class.Object = kind_of.Ordinary
prototype_kind class.Function = builtin (intrinsic.Prototype class.Function) false
prototype_kind class.Array = kind_of.Array
prototype_kind class.String = kind_of.Text (text_of start_text.Empty)
prototype_kind class.Number = kind_of.Wrapper (value.Whole (pos 0))
prototype_kind class.Boolean = kind_of.Wrapper (value.Bool false)
prototype_kind class.Symbol = kind_of.Ordinary
prototype_kind (class.Error e) = kind_of.Ordinary

abbrev pub start_kind : Intrinsic → ObjectKind
start_kind intrinsic.Global = kind_of.Ordinary
start_kind (intrinsic.Constructor c) = builtin (intrinsic.Constructor c) true
start_kind (intrinsic.Prototype c) = prototype_kind c
start_kind intrinsic.Proxy = builtin intrinsic.Proxy true
start_kind intrinsic.ThrowTypeError = builtin intrinsic.ThrowTypeError false
start_kind intrinsic.Reflect = kind_of.Ordinary
start_kind intrinsic.Print = builtin intrinsic.Print false
start_kind (intrinsic.Function f) = builtin (intrinsic.Function f) false

-- ---- their prototypes

-- what the four kinds of native errors stand on is %Error% and %Error.prototype% (20.5.6)
abbrev pub error_parent : ErrorKind → Intrinsic → Intrinsic → Intrinsic
error_parent error.Error up native = up
error_parent error.TypeError up native = native
error_parent error.RangeError up native = native
error_parent error.ReferenceError up native = native
error_parent error.SyntaxError up native = native

abbrev pub constructor_parent : Class → Intrinsic
constructor_parent (class.Error e) = error_parent e (intrinsic.Prototype class.Function) (intrinsic.Constructor (class.Error error.Error))
constructor_parent other = intrinsic.Prototype class.Function

abbrev pub prototype_parent : Class → Option Intrinsic
prototype_parent class.Object = None
prototype_parent (class.Error e) = Some (error_parent e (intrinsic.Prototype class.Object) (intrinsic.Prototype (class.Error error.Error)))
prototype_parent other = Some (intrinsic.Prototype class.Object)

abbrev pub start_parent : Intrinsic → Option Intrinsic
start_parent intrinsic.Global = Some (intrinsic.Prototype class.Object)
start_parent (intrinsic.Constructor c) = Some (constructor_parent c)
start_parent (intrinsic.Prototype c) = prototype_parent c
start_parent intrinsic.Proxy = Some (intrinsic.Prototype class.Function)
start_parent intrinsic.ThrowTypeError = Some (intrinsic.Prototype class.Function)
start_parent intrinsic.Reflect = Some (intrinsic.Prototype class.Object)
start_parent intrinsic.Print = Some (intrinsic.Prototype class.Function)
start_parent (intrinsic.Function f) = Some (intrinsic.Prototype class.Function)

-- all are extensible but %ThrowTypeError% (10.2.4.1)
abbrev pub start_extensible : Intrinsic → Bool
start_extensible intrinsic.ThrowTypeError = false
start_extensible other = true

-- ---- forms of properties

abbrev pub stored : Bool → Bool → PropKey → Value → OwnProperty
stored writable configurable key v = record {
  key = key;
  complete = complete.Stored v (record { writable = writable; enumerable = false; configurable = configurable });
}

-- not enumerable (18)
abbrev pub hidden : StartText → Value → OwnProperty
hidden t v = stored true true (Name (text_of t)) v

-- with three false flags
abbrev pub fixed : StartText → Value → OwnProperty
fixed t v = stored false false (Name (text_of t)) v

-- configurable only
abbrev pub readonly : StartText → Value → OwnProperty
readonly t v = stored false true (Name (text_of t)) v

-- @@toStringTag, configurable only
abbrev pub tag : StartText → OwnProperty
tag t = stored false true (Sym (symbol_of symbol.ToStringTag)) (value.Text (text_of t))

abbrev pub object : Intrinsic → Value
object i = value.Object (object_of i)

abbrev pub text_value : StartText → Value
text_value t = value.Text (text_of t)

-- a well-known Symbol on the constructor of Symbols (20.4.2)
abbrev pub well_known : WellKnown → OwnProperty
well_known s = fixed (start_text.Symbol s) (value.Symbol (symbol_of s))

-- a constructor on the global object (19.3)
abbrev pub constructor_of : Class → OwnProperty
constructor_of c = hidden (start_text.Class c) (object (intrinsic.Constructor c))

-- the constructor on its prototype object
abbrev pub constructor_back : Class → OwnProperty
constructor_back c = hidden start_text.Constructor (object (intrinsic.Constructor c))

-- a method under a text, writable and configurable
abbrev pub method : StartText → BuiltinFunction → OwnProperty
method t f = hidden t (object (intrinsic.Function f))

-- a method under a well-known Symbol
abbrev pub method_of_symbol : Bool → WellKnown → BuiltinFunction → OwnProperty
method_of_symbol configurable s f = stored false configurable (Sym (symbol_of s)) (object (intrinsic.Function f))

-- an accessor without a setter, configurable only
abbrev pub getter : StartText → BuiltinFunction → OwnProperty
getter t f = record {
  key = Name (text_of t);
  complete = complete.Accessor (Some (object_of (intrinsic.Function f))) None false true;
}

-- ---- the table

-- 19.1, 19.3, 19.4, and the function that prints a line
abbrev pub global_properties : List OwnProperty
global_properties =
    hidden start_text.GlobalThis (object intrinsic.Global)
    ∷ fixed start_text.Undefined value.Undefined
    ∷ hidden start_text.Print (object intrinsic.Print)
    ∷ constructor_of class.Function
    ∷ constructor_of class.Number
    ∷ constructor_of class.Boolean
    ∷ constructor_of class.Symbol
    ∷ constructor_of (class.Error error.Error)
    ∷ constructor_of (class.Error error.TypeError)
    ∷ constructor_of (class.Error error.RangeError)
    ∷ constructor_of (class.Error error.ReferenceError)
    ∷ constructor_of (class.Error error.SyntaxError)
    ∷ hidden start_text.Reflect (object intrinsic.Reflect)
    ∷ []

-- a constructor: length, name, prototype, and what comes then
abbrev pub constructor_with : Class → ℕ → List OwnProperty → List OwnProperty
constructor_with c parameters rest =
    readonly start_text.Length (value.Whole (pos parameters))
    ∷ readonly start_text.Name (text_value (start_text.Class c))
    ∷ fixed start_text.Prototype (object (intrinsic.Prototype c))
    ∷ rest

abbrev pub is_class_of_symbols : Class → Bool
is_class_of_symbols class.Symbol = true
is_class_of_symbols other = false

-- the constructor of Symbols has the well-known ones (20.4.2)
abbrev pub constructor_properties : Class → List OwnProperty
constructor_properties c =
    if is_class_of_symbols c
    then constructor_with c 0 (well_known symbol.HasInstance ∷ well_known symbol.ToPrimitive ∷ well_known symbol.ToStringTag ∷ [])
    else constructor_with c 1 []

abbrev pub is_error_itself : ErrorKind → Bool
is_error_itself error.Error = true
is_error_itself other = false

abbrev pub error_prototype_with : ErrorKind → List OwnProperty → List OwnProperty
error_prototype_with e rest =
    constructor_back (class.Error e)
    ∷ hidden start_text.Name (text_value (start_text.Class (class.Error e)))
    ∷ hidden start_text.Message (text_value start_text.Empty)
    ∷ rest

abbrev pub prototype_properties : Class → List OwnProperty
prototype_properties class.Function =
    readonly start_text.Length (value.Whole (pos 0))
    ∷ readonly start_text.Name (text_value start_text.Empty)
    ∷ constructor_back class.Function
    ∷ method start_text.Call function.FunctionCall
    ∷ method start_text.Apply function.FunctionApply
    ∷ method_of_symbol false symbol.HasInstance function.FunctionHasInstance
    ∷ []
prototype_properties class.Array = stored true false (Name (text_of start_text.Length)) (value.Whole (pos 0)) ∷ []
prototype_properties class.String = fixed start_text.Length (value.Whole (pos 0)) ∷ []
prototype_properties class.Number =
    constructor_back class.Number
    ∷ method start_text.ToString function.NumberToString
    ∷ method start_text.ValueOf function.NumberValueOf
    ∷ []
prototype_properties class.Boolean =
    constructor_back class.Boolean
    ∷ method start_text.ToString function.BooleanToString
    ∷ method start_text.ValueOf function.BooleanValueOf
    ∷ []
prototype_properties class.Symbol =
    constructor_back class.Symbol
    ∷ method start_text.ToString function.SymbolToString
    ∷ method start_text.ValueOf function.SymbolValueOf
    ∷ getter start_text.SymbolDescription function.SymbolDescription
    ∷ method_of_symbol true symbol.ToPrimitive function.SymbolToPrimitive
    ∷ tag (start_text.Class class.Symbol)
    ∷ []
prototype_properties (class.Error e) =
    -- Error's prototype alone has toString (20.5.3.4): those of the four kinds inherit it
    if is_error_itself e
    then error_prototype_with e (method start_text.ToString function.ErrorToString ∷ [])
    else error_prototype_with e []
prototype_properties class.Object = []

abbrev pub start_properties : Intrinsic → List OwnProperty
start_properties intrinsic.Global = global_properties
start_properties (intrinsic.Constructor c) = constructor_properties c
start_properties (intrinsic.Prototype c) = prototype_properties c
start_properties intrinsic.Proxy =
    readonly start_text.Length (value.Whole (pos 2))
    ∷ readonly start_text.Name (text_value start_text.Proxy)
    ∷ []
start_properties intrinsic.ThrowTypeError =
    fixed start_text.Length (value.Whole (pos 0))
    ∷ fixed start_text.Name (text_value start_text.Empty)
    ∷ []
start_properties intrinsic.Reflect = tag start_text.Reflect ∷ []
start_properties intrinsic.Print =
    readonly start_text.Length (value.Whole (pos 0))
    ∷ readonly start_text.Name (text_value start_text.Print)
    ∷ []
start_properties (intrinsic.Function f) =
    readonly start_text.Length (value.Whole (pos (function_parameters f)))
    ∷ readonly start_text.Name (text_value (function_text f))
    ∷ []
