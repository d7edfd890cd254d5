-- Worked examples of the built-in functions: what each comes to over a small world, where methods answer as a table says. Worked out by hand from the numbered
-- steps of ECMA-262, 15th edition.
use Rattle.std.specs.Prelude.{◌≡◌, ℕ, Bool, true, false, if◌then◌else◌, nat_eq, Option, Some, None, List, [], ◌∷◌, pos, negsuc, codes, length}
use Rattle.property_keys.specs.declared.identifiers.ObjectId.{ObjectId}
use Rattle.property_keys.specs.declared.identifiers.TextId.{TextId}
use Rattle.property_keys.specs.declared.keys.PropKey.{PropKey}
use Rattle.property_keys.specs.declared.keys.PropKey.TheVariants.{Name}
use Rattle.property_keys.specs.declared.values.Value.{Value}
use Rattle.property_keys.specs.declared.values.Value.TheVariants as value
use Rattle.descriptors.specs.declared.property.Complete.{Complete}
use Rattle.descriptors.specs.declared.property.Complete.TheVariants as complete
use Rattle.es_tree.specs.Tree.{empty_tree}
use Rattle.es_model.specs.declared.answers.Reply.TheVariants as reply
use Rattle.es_model.specs.declared.builtin_functions.BuiltinFunction.{BuiltinFunction}
use Rattle.es_model.specs.declared.builtin_functions.BuiltinFunction.TheVariants as function
use Rattle.es_model.specs.declared.intrinsics.Class.{Class}
use Rattle.es_model.specs.declared.intrinsics.Class.TheVariants as class
use Rattle.es_model.specs.declared.intrinsics.Intrinsic.TheVariants as intrinsic
use Rattle.es_model.specs.declared.kinds.ErrorKind.TheVariants as error
use Rattle.es_model.specs.declared.kinds.ObjectKind.{ObjectKind}
use Rattle.es_model.specs.declared.kinds.ObjectKind.TheVariants as kind_of
use Rattle.es_model.specs.declared.owned.OwnProperty.{OwnProperty}
use Rattle.es_model.specs.declared.requests.Operation.TheVariants as operation
use Rattle.es_model.specs.declared.requests.Request.TheVariants.{Call, Has, Read, Work}
use Rattle.es_model.specs.Completions.{Completion, Normal, Break, Throw}
use Rattle.es_model.specs.Events.{Event, Made, Origin, OfError, OfWrapper}
use Rattle.es_model.specs.Objects.{Object, object_at}
use Rattle.es_model.specs.StartObjects.{object_of}
use Rattle.es_model.specs.World.{Lists, World, description, units_of}
use Rattle.es_model.specs.Program.{Outcome, Ended, Halt, Of, Server, run}
use Rattle.core_builtins.specs.Core.{constructor_called, constructor_constructed, function_called}
use Rattle.small_worlds.specs.SmallWorlds.{at, gives, object, whole}

-- ---- the world: object 0 is a new target, 1 and 2 are functions, 3 holds 255, 4 a Symbol, 5 the truth value true, and 6 is a prototype

abbrev pub word : ℕ → Value
word n = value.Text (record { 0 = n })

abbrev pub symbol : ℕ → Value
symbol n = value.Symbol (record { 0 = n })

abbrev pub words : List (List ℕ)
words =
    [] ∷ codes "a" ∷ codes "Error" ∷ codes "x" ∷ codes "message" ∷ codes "cause" ∷ codes "prototype" ∷ codes "name" ∷ codes "true"
    ∷ codes "false" ∷ codes "ff" ∷ codes "Symbol()" ∷ codes "Symbol(a)" ∷ codes "-z" ∷ codes "101" ∷ codes "-10" ∷ codes "a: x" ∷ codes "0" ∷ []

abbrev pub a_thing : ObjectKind → Object
a_thing k = record { kind = k; proto = None; extensible = true; properties = [] }

abbrev pub people : List Object
people =
    a_thing kind_of.Ordinary
    ∷ a_thing (kind_of.Function (record { 0 = 0 }) false true)
    ∷ a_thing (kind_of.Function (record { 0 = 0 }) false true)
    ∷ a_thing (kind_of.Wrapper (whole 255))
    ∷ a_thing (kind_of.Wrapper (symbol 1))
    ∷ a_thing (kind_of.Wrapper (value.Bool true))
    ∷ a_thing kind_of.Ordinary ∷ []

-- Symbol 0 has no description, and Symbol 1 is described by `a`
abbrev pub room : World
room = record {
  script = empty_tree;
  lists = record { objects = people; texts = words; symbols = None ∷ Some (record { 0 = 1 }) ∷ []; cells = [] };
  turns = 10;
  trace = [];
  printed = [];
}

-- ---- who answers: a read by its key, HasProperty as it is told, the other questions by a number and their first operand

abbrev pub first : List Value → Value
first [] = value.Undefined
first (v ∷ vs) = v

-- the arguments of a call are counted
abbrev pub server : (ℕ → Completion) → Bool → (ℕ → Value → Completion) → Server
server reads has answers n (Of (Read o (Name t) receiver site)) w = Ended (reads t.0) w 0
server reads has answers n (Of (Has o k)) w = Ended (Normal (reply.Flag has)) w 0
server reads has answers n (Of (Call f this arguments)) w = Ended (answers (length arguments) this) w 0
server reads has answers n (Of (Work operation.ToWhole operands)) w = Ended (answers 11 (first operands)) w 0
server reads has answers n (Of (Work operation.ToText operands)) w = Ended (answers 12 (first operands)) w 0
server reads has answers n (Of (Work operation.ListFromArrayLike operands)) w = Ended (Normal (reply.List (whole 1 ∷ whole 2 ∷ whole 3 ∷ []))) w 0
server reads has answers n (Of (Work operation.OrdinaryHasInstance operands)) w = Ended (Normal (reply.Flag has)) w 0
server reads has answers n other w = Halt w 0

-- nothing is asked of anybody
abbrev pub silent : ℕ → Completion
silent t = Throw (word 3)

abbrev pub mute : ℕ → Value → Completion
mute n v = Throw (word 3)

-- ---- what is seen of an outcome: how it ends, and the requests

abbrev pub seen : Outcome → Completion × ℕ
seen (Ended c w n) = (c, n)
seen (Halt w n) = (Break, n)

-- the object that is made last, with what its shape begins with
abbrev pub origins : List Event → List (Origin × Option ObjectId)
origins [] = []
origins (Made o origin p ∷ events) = (origin, p) ∷ origins events
origins (e ∷ events) = origins events

abbrev pub made : Outcome → ObjectKind × List (Origin × Option ObjectId) × List OwnProperty
made (Ended c w n) = let o = object_at w.lists.objects (at 7) in (o.kind, origins w.trace, o.properties)
made (Halt w n) = (kind_of.Ordinary, [], [])

-- of an error that is thrown: its prototype and its message
abbrev pub message_of : Lists → List OwnProperty → List ℕ
message_of l [] = []
message_of l (p ∷ ps) = text_in p.complete
  where
    text_in : Complete → List ℕ
    text_in (complete.Stored (value.Text t) flags) = units_of l t
    text_in other = []

abbrev pub thrown : Outcome → Option ObjectId × List ℕ
thrown (Ended (Throw (value.Object e)) w n) = let o = object_at w.lists.objects e in (o.proto, message_of w.lists o.properties)
thrown other = (None, [])

abbrev pub type_error : List ℕ → Option ObjectId × List ℕ
type_error text = (Some (object_of (intrinsic.Prototype (class.Error error.TypeError))), text)

abbrev pub range_error : List ℕ → Option ObjectId × List ℕ
range_error text = (Some (object_of (intrinsic.Prototype (class.Error error.RangeError))), text)

-- ---- a function with a receiver and arguments, a call and a construction of a constructor

abbrev pub of_function : (ℕ → Completion) → (ℕ → Value → Completion) → BuiltinFunction → Value → List Value → Outcome
of_function reads answers f this arguments = run (server reads true answers) (function_called f this arguments) 0 room

abbrev pub of_call : (ℕ → Completion) → (ℕ → Value → Completion) → Class → List Value → Outcome
of_call reads answers c arguments = run (server reads true answers) (constructor_called c (at 0) arguments) 0 room

abbrev pub of_construction : (ℕ → Completion) → Bool → (ℕ → Value → Completion) → Class → List Value → Outcome
of_construction reads has answers c arguments = run (server reads has answers) (constructor_constructed c arguments (at 0)) 0 room

-- under "prototype" stands object 6
abbrev pub sixth : ℕ → Completion
sixth t = if nat_eq t 6 then gives (object 6) else gives value.Undefined

-- under "prototype" stands no object
abbrev pub nothing_there : ℕ → Completion
nothing_there t = gives value.Undefined

-- ---- Function (20.2)

abbrev pub FunctionIsNotMade : Type 0
FunctionIsNotMade = thrown (of_call silent mute class.Function (word 1 ∷ [])) ≡ type_error (codes "wrong value")

abbrev pub FunctionIsNotConstructed : Type 0
FunctionIsNotConstructed = thrown (of_construction silent true mute class.Function []) ≡ type_error (codes "wrong value")

-- the count of the arguments is the answer, so that they are seen
abbrev pub counts : ℕ → Value → Completion
counts n this = gives (whole n)

abbrev pub tells_receiver : ℕ → Value → Completion
tells_receiver n this = gives this

abbrev pub CallWithoutArguments : Type 0
CallWithoutArguments = seen (of_function silent tells_receiver function.FunctionCall (object 1) []) ≡ (gives value.Undefined, 1)

abbrev pub CallHandsReceiver : Type 0
CallHandsReceiver = seen (of_function silent tells_receiver function.FunctionCall (object 1) (word 1 ∷ whole 5 ∷ [])) ≡ (gives (word 1), 1)

abbrev pub CallTakesRest : Type 0
CallTakesRest = seen (of_function silent counts function.FunctionCall (object 1) (word 1 ∷ whole 5 ∷ whole 6 ∷ [])) ≡ (gives (whole 2), 1)

abbrev pub CallOfNoFunction : Type 0
CallOfNoFunction = thrown (of_function silent mute function.FunctionCall (object 0) []) ≡ type_error (codes "not a function")

abbrev pub CallPassesThrow : Type 0
CallPassesThrow = seen (of_function silent mute function.FunctionCall (object 1) []) ≡ (Throw (word 3), 1)

abbrev pub ApplyToNull : Type 0
ApplyToNull = seen (of_function silent counts function.FunctionApply (object 1) (word 1 ∷ value.Null ∷ [])) ≡ (gives (whole 0), 1)

abbrev pub ApplyToList : Type 0
ApplyToList = seen (of_function silent counts function.FunctionApply (object 1) (word 1 ∷ object 6 ∷ [])) ≡ (gives (whole 3), 2)

-- the function is tested before the list is read
abbrev pub ApplyOfNoFunction : Type 0
ApplyOfNoFunction = thrown (of_function silent mute function.FunctionApply (whole 1) (word 1 ∷ object 6 ∷ [])) ≡ type_error (codes "not a function")

abbrev pub HasInstance : Type 0
HasInstance = seen (of_function silent mute function.FunctionHasInstance (object 1) (object 0 ∷ [])) ≡ (gives (value.Bool true), 1)

-- ---- Boolean (20.3)

abbrev pub BooleanOfText : Type 0
BooleanOfText = seen (of_call silent mute class.Boolean (word 1 ∷ [])) ≡ (gives (value.Bool true), 0)

abbrev pub BooleanOfEmptyText : Type 0
BooleanOfEmptyText = seen (of_call silent mute class.Boolean (word 0 ∷ [])) ≡ (gives (value.Bool false), 0)

abbrev pub BooleanOfNothing : Type 0
BooleanOfNothing = seen (of_call silent mute class.Boolean []) ≡ (gives (value.Bool false), 0)

abbrev pub BooleanConstructed : Type 0
BooleanConstructed =
    (seen (of_construction sixth true mute class.Boolean (whole 1 ∷ [])) ≡ (gives (object 7), 1))
    × (made (of_construction sixth true mute class.Boolean (whole 1 ∷ [])) ≡ (kind_of.Wrapper (value.Bool true), (OfWrapper, Some (at 6)) ∷ [], []))

abbrev pub TextOfTruth : Type 0
TextOfTruth = seen (of_function silent mute function.BooleanToString (object 5) []) ≡ (gives (word 8), 0)

abbrev pub TextOfNoTruth : Type 0
TextOfNoTruth = thrown (of_function silent mute function.BooleanToString (object 3) []) ≡ type_error (codes "wrong value")

abbrev pub TruthOfTruth : Type 0
TruthOfTruth = seen (of_function silent mute function.BooleanValueOf (value.Bool false) []) ≡ (gives (value.Bool false), 0)

abbrev pub TruthOfNoTruth : Type 0
TruthOfNoTruth = thrown (of_function silent mute function.BooleanValueOf (whole 1) []) ≡ type_error (codes "wrong value")

-- ---- Symbol (20.4)

abbrev pub description_text : Lists → Option TextId → Option (List ℕ)
description_text l None = None
description_text l (Some t) = Some (units_of l t)

abbrev pub last_description : Outcome → Option (List ℕ)
last_description (Ended c w n) = description_text w.lists (description w.lists (record { 0 = 2 }))
last_description (Halt w n) = None

abbrev pub SymbolWithoutDescription : Type 0
SymbolWithoutDescription =
    (seen (of_call silent mute class.Symbol []) ≡ (gives (symbol 2), 0))
    × (last_description (of_call silent mute class.Symbol []) ≡ None)

abbrev pub SymbolOfUndefined : Type 0
SymbolOfUndefined = last_description (of_call silent mute class.Symbol (value.Undefined ∷ [])) ≡ None

abbrev pub SymbolOfText : Type 0
SymbolOfText = last_description (of_call silent mute class.Symbol (word 1 ∷ [])) ≡ Some (codes "a")

-- a conversion gives `x`
abbrev pub converts : ℕ → Value → Completion
converts n v = if nat_eq n 12 then gives (word 3) else gives (whole 7)

abbrev pub SymbolOfNumber : Type 0
SymbolOfNumber = last_description (of_call silent converts class.Symbol (whole 5 ∷ [])) ≡ Some (codes "x")

abbrev pub SymbolIsNotConstructed : Type 0
SymbolIsNotConstructed = thrown (of_construction silent true mute class.Symbol (word 1 ∷ [])) ≡ type_error (codes "wrong value")

abbrev pub TextOfBareSymbol : Type 0
TextOfBareSymbol = seen (of_function silent mute function.SymbolToString (symbol 0) []) ≡ (gives (word 11), 0)

abbrev pub TextOfSymbol : Type 0
TextOfSymbol = seen (of_function silent mute function.SymbolToString (object 4) []) ≡ (gives (word 12), 0)

abbrev pub TextOfNoSymbol : Type 0
TextOfNoSymbol = thrown (of_function silent mute function.SymbolToString (word 1) []) ≡ type_error (codes "wrong value")

abbrev pub DescriptionOfSymbol : Type 0
DescriptionOfSymbol = seen (of_function silent mute function.SymbolDescription (object 4) []) ≡ (gives (word 1), 0)

abbrev pub DescriptionOfBareSymbol : Type 0
DescriptionOfBareSymbol = seen (of_function silent mute function.SymbolDescription (symbol 0) []) ≡ (gives value.Undefined, 0)

abbrev pub DescriptionOfNoSymbol : Type 0
DescriptionOfNoSymbol = thrown (of_function silent mute function.SymbolDescription value.Null []) ≡ type_error (codes "wrong value")

abbrev pub SymbolOfObject : Type 0
SymbolOfObject = seen (of_function silent mute function.SymbolValueOf (object 4) []) ≡ (gives (symbol 1), 0)

abbrev pub PrimitiveOfSymbol : Type 0
PrimitiveOfSymbol = seen (of_function silent mute function.SymbolToPrimitive (object 4) (word 1 ∷ [])) ≡ (gives (symbol 1), 0)

-- ---- Error (20.5)

abbrev pub hidden : ℕ → Value → OwnProperty
hidden t v = record { key = Name (record { 0 = t }); complete = complete.Stored v (record { writable = true; enumerable = false; configurable = true }) }

abbrev pub ErrorWithoutMessage : Type 0
ErrorWithoutMessage =
    (seen (of_call sixth mute (class.Error error.TypeError) []) ≡ (gives (object 7), 1))
    × (made (of_call sixth mute (class.Error error.TypeError) []) ≡ (kind_of.Error, (OfError, Some (at 6)) ∷ [], []))

-- what is no object under "prototype" is the realm's own prototype of the class
abbrev pub ErrorOfItsClass : Type 0
ErrorOfItsClass =
    made (of_construction nothing_there true mute (class.Error error.RangeError) [])
    ≡ (kind_of.Error, (OfError, Some (object_of (intrinsic.Prototype (class.Error error.RangeError)))) ∷ [], [])

abbrev pub ErrorWithMessage : Type 0
ErrorWithMessage =
    made (of_construction sixth true mute (class.Error error.Error) (word 1 ∷ []))
    ≡ (kind_of.Error, (OfError, Some (at 6)) ∷ [], hidden 4 (word 1) ∷ [])

abbrev pub MessageIsConverted : Type 0
MessageIsConverted =
    made (of_construction sixth true converts (class.Error error.Error) (object 0 ∷ []))
    ≡ (kind_of.Error, (OfError, Some (at 6)) ∷ [], hidden 4 (word 3) ∷ [])

abbrev pub MessageThrows : Type 0
MessageThrows = seen (of_construction sixth true mute (class.Error error.Error) (object 0 ∷ [])) ≡ (Throw (word 3), 2)

-- there is a cause, and it is undefined
abbrev pub CauseIsUndefined : Type 0
CauseIsUndefined =
    (seen (of_construction sixth true mute (class.Error error.Error) (word 1 ∷ object 0 ∷ [])) ≡ (gives (object 7), 3))
    × (made (of_construction sixth true mute (class.Error error.Error) (word 1 ∷ object 0 ∷ []))
    ≡ (kind_of.Error, (OfError, Some (at 6)) ∷ [], hidden 4 (word 1) ∷ hidden 5 value.Undefined ∷ []))

abbrev pub CauseIsNotThere : Type 0
CauseIsNotThere =
    made (of_construction sixth false mute (class.Error error.Error) (value.Undefined ∷ object 0 ∷ []))
    ≡ (kind_of.Error, (OfError, Some (at 6)) ∷ [], [])

abbrev pub OptionsAreNoObject : Type 0
OptionsAreNoObject = seen (of_construction sixth true mute (class.Error error.Error) (value.Undefined ∷ word 5 ∷ [])) ≡ (gives (object 7), 1)

abbrev pub PrototypeThrows : Type 0
PrototypeThrows = seen (of_construction silent true mute (class.Error error.Error) (word 1 ∷ [])) ≡ (Throw (word 3), 1)

-- the name and the message of what toString is called on
abbrev pub told : Value → Value → ℕ → Completion
told name message t = if nat_eq t 7 then gives name else gives message

abbrev pub shown : Value → Value → Completion × ℕ
shown name message = seen (of_function (told name message) converts function.ErrorToString (object 0) [])

abbrev pub NameAndMessage : Type 0
NameAndMessage = shown (word 1) (word 3) ≡ (gives (word 16), 2)

abbrev pub NameIsEmpty : Type 0
NameIsEmpty = shown (word 0) (word 3) ≡ (gives (word 3), 2)

abbrev pub MessageIsEmpty : Type 0
MessageIsEmpty = shown (word 1) (word 0) ≡ (gives (word 1), 2)

abbrev pub BothAreUndefined : Type 0
BothAreUndefined = shown value.Undefined value.Undefined ≡ (gives (word 2), 2)

abbrev pub BothAreConverted : Type 0
BothAreConverted = seen (of_function (told (word 1) (whole 5)) converts function.ErrorToString (object 0) []) ≡ (gives (word 16), 3)

abbrev pub TextOfNoObject : Type 0
TextOfNoObject = thrown (of_function silent mute function.ErrorToString (word 1) []) ≡ type_error (codes "not an object")

abbrev pub NameThrows : Type 0
NameThrows = seen (of_function silent mute function.ErrorToString (object 0) []) ≡ (Throw (word 3), 1)

-- ---- Number (21.1)

abbrev pub NumberOfNothing : Type 0
NumberOfNothing = seen (of_call silent mute class.Number []) ≡ (gives (whole 0), 0)

abbrev pub NumberOfNumber : Type 0
NumberOfNumber = seen (of_call silent mute class.Number (whole 5 ∷ [])) ≡ (gives (whole 5), 0)

abbrev pub NumberOfText : Type 0
NumberOfText = seen (of_call silent converts class.Number (word 1 ∷ [])) ≡ (gives (whole 7), 1)

abbrev pub NumberConstructed : Type 0
NumberConstructed =
    (seen (of_construction nothing_there true converts class.Number (word 1 ∷ [])) ≡ (gives (object 7), 2))
    × (made (of_construction nothing_there true converts class.Number (word 1 ∷ []))
    ≡ (kind_of.Wrapper (whole 7), (OfWrapper, Some (object_of (intrinsic.Prototype class.Number))) ∷ [], []))

abbrev pub NumberThrows : Type 0
NumberThrows = seen (of_construction sixth true mute class.Number (word 1 ∷ [])) ≡ (Throw (word 3), 1)

abbrev pub HexOfNumber : Type 0
HexOfNumber = seen (of_function silent mute function.NumberToString (object 3) (whole 16 ∷ [])) ≡ (gives (word 10), 0)

abbrev pub NegativeInGreatestRadix : Type 0
NegativeInGreatestRadix = seen (of_function silent mute function.NumberToString (value.Whole (negsuc 34)) (whole 36 ∷ [])) ≡ (gives (word 13), 0)

-- the radix is an object, of which 7 is made
abbrev pub RadixIsConverted : Type 0
RadixIsConverted = seen (of_function silent converts function.NumberToString (whole 50) (object 0 ∷ [])) ≡ (gives (word 14), 1)

abbrev pub NoRadix : Type 0
NoRadix = seen (of_function silent mute function.NumberToString (value.Whole (negsuc 9)) []) ≡ (gives (word 15), 0)

abbrev pub ZeroInRadix : Type 0
ZeroInRadix = seen (of_function silent mute function.NumberToString (whole 0) (whole 2 ∷ [])) ≡ (gives (word 17), 0)

abbrev pub RadixTooGreat : Type 0
RadixTooGreat = thrown (of_function silent mute function.NumberToString (whole 0) (whole 37 ∷ [])) ≡ range_error (codes "invalid radix")

abbrev pub RadixTooSmall : Type 0
RadixTooSmall = thrown (of_function silent mute function.NumberToString (whole 0) (whole 1 ∷ [])) ≡ range_error (codes "invalid radix")

-- the receiver is tested before the radix
abbrev pub TextOfNoNumber : Type 0
TextOfNoNumber = thrown (of_function silent mute function.NumberToString (object 5) (whole 37 ∷ [])) ≡ type_error (codes "wrong value")

abbrev pub NumberOfObject : Type 0
NumberOfObject = seen (of_function silent mute function.NumberValueOf (object 3) []) ≡ (gives (whole 255), 0)

abbrev pub NumberOfNoNumber : Type 0
NumberOfNoNumber = thrown (of_function silent mute function.NumberValueOf (word 17) []) ≡ type_error (codes "wrong value")
