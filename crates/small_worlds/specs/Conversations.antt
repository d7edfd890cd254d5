-- Worked examples of the abstract operations: what each comes to over a small world, where methods answer as a table says. Worked out by hand from the numbered
-- steps of ECMA-262, 15th edition.
use Rattle.std.specs.Prelude.{◌≡◌, ℕ, Bool, true, false, if◌then◌else◌, nat_eq, Option, Some, None, List, [], ◌∷◌, pos, negsuc, codes, length, slice_index_or}
use Rattle.property_keys.specs.declared.identifiers.ObjectId.{ObjectId}
use Rattle.property_keys.specs.declared.keys.PropKey.{PropKey}
use Rattle.property_keys.specs.declared.keys.PropKey.TheVariants.{Index, Name, Sym}
use Rattle.property_keys.specs.declared.values.Value.{Value}
use Rattle.property_keys.specs.declared.values.Value.TheVariants as value
use Rattle.property_keys.specs.Texts.{text_at}
use Rattle.descriptors.specs.declared.fields.Descriptor.{Descriptor}
use Rattle.descriptors.specs.declared.property.Complete.{Complete}
use Rattle.descriptors.specs.declared.property.Complete.TheVariants as complete
use Rattle.es_tree.specs.Tree.{empty_tree}
use Rattle.es_model.specs.declared.answers.Reply.TheVariants as reply
use Rattle.es_model.specs.declared.kinds.ErrorKind.{ErrorKind}
use Rattle.es_model.specs.declared.kinds.ErrorKind.TheVariants as error
use Rattle.es_model.specs.declared.intrinsics.Class.TheVariants as class
use Rattle.es_model.specs.declared.intrinsics.Intrinsic.TheVariants as intrinsic
use Rattle.es_model.specs.declared.owned.OwnProperty.{OwnProperty}
use Rattle.es_model.specs.declared.requests.Operation.{Operation}
use Rattle.es_model.specs.declared.requests.Operation.TheVariants as operation
use Rattle.es_model.specs.declared.requests.Request.TheVariants.{Call, Has, Proto, Print, Read, Work}
use Rattle.es_model.specs.Completions.{Completion, Normal, Break, Throw}
use Rattle.es_model.specs.Objects.{Object, object_at}
use Rattle.es_model.specs.StartObjects.{object_of, start_number}
use Rattle.es_model.specs.World.{Lists, World, units_of}
use Rattle.es_model.specs.Program.{Outcome, Ended, Halt, Of, Server, done, run}
use Rattle.es_model.specs.programs.Converting.{number, to_object, to_uint32}
use Rattle.plain_builtins.specs.Plain.{print_row, row_program, work_program}
use Rattle.small_worlds.specs.SmallWorlds.{a_function, at, gives, object, plain, says, whole}

-- ---- the world: object 0 is what is converted, 1 to 3 are functions, and 4 has the prototype 5

abbrev pub words : List (List ℕ)
words =
    codes "valueOf" ∷ codes "toString" ∷ codes "string" ∷ codes "number" ∷ codes "default" ∷ codes "undefined" ∷ codes "null" ∷ codes "true" ∷ codes "-5"
    ∷ codes "  -0x1 " ∷ codes "0B101" ∷ codes "+7" ∷ codes "007" ∷ [] ∷ codes "9007199254740992" ∷ codes "1" ∷ codes "x" ∷ codes "ab" ∷ codes "ac"
    ∷ codes "length" ∷ codes "4294967294" ∷ codes "prototype" ∷ codes "enumerable" ∷ codes "configurable"
    ∷ codes "value" ∷ codes "writable" ∷ codes "get" ∷ codes "set" ∷ []

-- the text at a place of the table
abbrev pub word : ℕ → Value
word n = value.Text (record { 0 = n })

abbrev pub named : ℕ → PropKey
named n = Name (record { 0 = n })

abbrev pub a_symbol : Value
a_symbol = value.Symbol (record { 0 = 0 })

abbrev pub people : List Object
people = plain None [] ∷ a_function ∷ a_function ∷ a_function ∷ plain (Some (at 5)) [] ∷ plain None [] ∷ []

abbrev pub room : ℕ → World
room turns = record {
  script = empty_tree;
  lists = record { objects = people; texts = words; symbols = None ∷ None ∷ None ∷ []; cells = [] };
  turns = turns;
  trace = [];
  printed = [];
}

-- ---- who answers: a read by its key, a call by the function's number and the first argument, a conversion by itself

abbrev pub first_of : List Value → Value
first_of [] = value.Undefined
first_of (v ∷ vs) = v

abbrev pub server : (PropKey → Completion) → (ℕ → Value → Completion) → Server
server reads calls n (Of (Read o k receiver site)) w = Ended (reads k) w 0
server reads calls n (Of (Has o k)) w = Ended (says true) w 0
server reads calls n (Of (Call (value.Object f) this arguments)) w = Ended (calls f.0 (first_of arguments)) w 0
server reads calls n (Of (Work operation.ToPrimitiveText operands)) w = Ended (calls 1 (word 2)) w 0
server reads calls n (Of (Work operation.ToPrimitiveNumber operands)) w = Ended (calls 1 (word 3)) w 0
server reads calls n (Of (Work operation.ToPrimitiveDefault operands)) w = Ended (calls 1 (word 4)) w 0
server reads calls n (Of (Work operation.ToWhole operands)) w = Ended (calls 2 (first_of operands)) w 0
server reads calls n (Of (Work operation.ToText operands)) w = Ended (calls 3 (first_of operands)) w 0
server reads calls n (Of (Proto o)) w = Ended (Normal (reply.Proto (if nat_eq o.0 4 then Some (at 5) else None))) w 0
server reads calls n (Of (Print line)) w = Ended (gives (whole (length line))) w 0
server reads calls n other w = Halt w 0

-- ---- what is seen of an outcome: how it ends, the turns that are left, the requests

abbrev pub seen : Outcome → Completion × ℕ × ℕ
seen (Ended c w n) = (c, w.turns, n)
seen (Halt w n) = (Break, w.turns, n)

-- of an error that is thrown: its prototype and its message
abbrev pub message_in : Lists → List OwnProperty → List ℕ
message_in l [] = []
message_in l (p ∷ ps) = message_of l p.complete
  where
    message_of : Lists → Complete → List ℕ
    message_of l (complete.Stored (value.Text t) flags) = units_of l t
    message_of l other = []

abbrev pub error_in : Lists → Object → Option ObjectId × List ℕ
error_in l o = (o.proto, message_in l o.properties)

abbrev pub thrown : Outcome → Option ObjectId × List ℕ
thrown (Ended (Throw (value.Object e)) w n) = error_in w.lists (object_at w.lists.objects e)
thrown other = (None, [])

abbrev pub type_error : List ℕ → Option ObjectId × List ℕ
type_error text = (Some (object_of (intrinsic.Prototype (class.Error error.TypeError))), text)

abbrev pub range_error : List ℕ → Option ObjectId × List ℕ
range_error text = (Some (object_of (intrinsic.Prototype (class.Error error.RangeError))), text)

-- an operation with these operands, ten turns, and who answers
abbrev pub outcome : (PropKey → Completion) → (ℕ → Value → Completion) → Operation → List Value → Outcome
outcome reads calls op operands = run (server reads calls) (work_program op operands) 0 (room 10)

-- nothing is asked of anybody
abbrev pub silent : PropKey → Completion
silent k = Throw (word 16)

abbrev pub mute : ℕ → Value → Completion
mute f v = Throw (word 16)

-- ---- ToPrimitive (7.1.1)

-- under valueOf stands function 1, under toString function 2, and under @@toPrimitive nothing
abbrev pub two_methods : PropKey → Completion
two_methods (Name t) = if nat_eq t.0 0 then gives (object 1) else gives (object 2)
two_methods other = gives value.Undefined

-- function 1 gives 7, function 2 the text `x`
abbrev pub seven_or_x : ℕ → Value → Completion
seven_or_x f v = if nat_eq f 1 then gives (whole 7) else gives (word 16)

-- a primitive asks nothing
abbrev pub PrimitiveStays : Type 0
PrimitiveStays = seen (outcome silent mute operation.ToPrimitiveText (word 13 ∷ [])) ≡ (gives (word 13), 10, 0)

abbrev pub SymbolStays : Type 0
SymbolStays = seen (outcome silent mute operation.ToPrimitiveDefault (a_symbol ∷ [])) ≡ (gives a_symbol, 10, 0)

abbrev pub UndefinedStays : Type 0
UndefinedStays = seen (outcome silent mute operation.ToPrimitiveNumber (value.Undefined ∷ [])) ≡ (gives value.Undefined, 10, 0)

abbrev pub NullStays : Type 0
NullStays = seen (outcome silent mute operation.ToPrimitiveDefault (value.Null ∷ [])) ≡ (gives value.Null, 10, 0)

abbrev pub TruthStays : Type 0
TruthStays = seen (outcome silent mute operation.ToPrimitiveText (value.Bool true ∷ [])) ≡ (gives (value.Bool true), 10, 0)

abbrev pub NumberStays : Type 0
NumberStays = seen (outcome silent mute operation.ToPrimitiveText (value.Whole (negsuc 4) ∷ [])) ≡ (gives (value.Whole (negsuc 4)), 10, 0)

-- with number valueOf comes first: a read, then a turn, a read and a call
abbrev pub NumberTriesValueOf : Type 0
NumberTriesValueOf = seen (outcome two_methods seven_or_x operation.ToPrimitiveNumber (object 0 ∷ [])) ≡ (gives (whole 7), 9, 3)

-- without a type it is the same
abbrev pub DefaultTriesValueOf : Type 0
DefaultTriesValueOf = seen (outcome two_methods seven_or_x operation.ToPrimitiveDefault (object 0 ∷ [])) ≡ (gives (whole 7), 9, 3)

-- with string toString comes first
abbrev pub TextTriesToString : Type 0
TextTriesToString = seen (outcome two_methods seven_or_x operation.ToPrimitiveText (object 0 ∷ [])) ≡ (gives (word 16), 9, 3)

-- where the first method gives an Object the second is tried, for another turn
abbrev pub object_or_x : ℕ → Value → Completion
object_or_x f v = if nat_eq f 1 then gives (object 5) else gives (word 16)

abbrev pub ObjectIsPassedOver : Type 0
ObjectIsPassedOver = seen (outcome two_methods object_or_x operation.ToPrimitiveNumber (object 0 ∷ [])) ≡ (gives (word 16), 8, 5)

abbrev pub DefaultPassesOverObject : Type 0
DefaultPassesOverObject = seen (outcome two_methods object_or_x operation.ToPrimitiveDefault (object 0 ∷ [])) ≡ (gives (word 16), 8, 5)

-- two Objects are none
abbrev pub two_objects : ℕ → Value → Completion
two_objects f v = gives (object 5)

abbrev pub TwoObjectsThrow : Type 0
TwoObjectsThrow = thrown (outcome two_methods two_objects operation.ToPrimitiveText (object 0 ∷ [])) ≡ type_error (codes "cannot convert")

-- what is no function is passed over
abbrev pub only_to_string : PropKey → Completion
only_to_string (Name t) = if nat_eq t.0 1 then gives (object 2) else gives (whole 3)
only_to_string other = gives value.Null

abbrev pub NoFunctionIsPassedOver : Type 0
NoFunctionIsPassedOver = seen (outcome only_to_string seven_or_x operation.ToPrimitiveNumber (object 0 ∷ [])) ≡ (gives (word 16), 8, 4)

-- with string it is toString that is passed over
abbrev pub only_value_of : PropKey → Completion
only_value_of (Name t) = if nat_eq t.0 0 then gives (object 1) else gives (whole 3)
only_value_of other = gives value.Null

abbrev pub TextPassesOverNoFunction : Type 0
TextPassesOverNoFunction = seen (outcome only_value_of seven_or_x operation.ToPrimitiveText (object 0 ∷ [])) ≡ (gives (whole 7), 8, 4)

abbrev pub nothing_there : PropKey → Completion
nothing_there k = gives value.Undefined

abbrev pub NoMethodThrows : Type 0
NoMethodThrows = thrown (outcome nothing_there mute operation.ToPrimitiveDefault (object 0 ∷ [])) ≡ type_error (codes "cannot convert")

-- what a method throws is thrown, and no other is tried
abbrev pub ThrowIsPassedOn : Type 0
ThrowIsPassedOn = seen (outcome two_methods mute operation.ToPrimitiveNumber (object 0 ∷ [])) ≡ (Throw (word 16), 9, 3)

abbrev pub DefaultThrows : Type 0
DefaultThrows = seen (outcome two_methods mute operation.ToPrimitiveDefault (object 0 ∷ [])) ≡ (Throw (word 16), 9, 3)

abbrev pub TextThrows : Type 0
TextThrows = seen (outcome two_methods mute operation.ToPrimitiveText (object 0 ∷ [])) ≡ (Throw (word 16), 9, 3)

-- there is no turn for the second method
abbrev pub HaltsAtSecond : Type 0
HaltsAtSecond = seen (run (server two_methods object_or_x) (work_program operation.ToPrimitiveNumber (object 0 ∷ [])) 0 (room 1)) ≡ (Break, 0, 3)

-- a method under @@toPrimitive gets the hint, and takes no turn here
abbrev pub own_method : PropKey → Completion
own_method (Sym s) = gives (object 1)
own_method other = gives (object 2)

abbrev pub echoes : ℕ → Value → Completion
echoes f v = gives v

abbrev pub HintOfText : Type 0
HintOfText = seen (outcome own_method echoes operation.ToPrimitiveText (object 0 ∷ [])) ≡ (gives (word 2), 10, 2)

abbrev pub HintOfNumber : Type 0
HintOfNumber = seen (outcome own_method echoes operation.ToPrimitiveNumber (object 0 ∷ [])) ≡ (gives (word 3), 10, 2)

abbrev pub HintOfDefault : Type 0
HintOfDefault = seen (outcome own_method echoes operation.ToPrimitiveDefault (object 0 ∷ [])) ≡ (gives (word 4), 10, 2)

abbrev pub OwnMethodGivesObject : Type 0
OwnMethodGivesObject = thrown (outcome own_method two_objects operation.ToPrimitiveText (object 0 ∷ [])) ≡ type_error (codes "cannot convert")

abbrev pub own_number : PropKey → Completion
own_number k = gives (whole 1)

abbrev pub OwnMethodNoFunction : Type 0
OwnMethodNoFunction = thrown (outcome own_number mute operation.ToPrimitiveText (object 0 ∷ [])) ≡ type_error (codes "not a function")

abbrev pub OwnMethodThrows : Type 0
OwnMethodThrows = seen (outcome own_method mute operation.ToPrimitiveNumber (object 0 ∷ [])) ≡ (Throw (word 16), 10, 2)

-- ---- ToString (7.1.17)

abbrev pub TextOfUndefined : Type 0
TextOfUndefined = seen (outcome silent mute operation.ToText (value.Undefined ∷ [])) ≡ (gives (word 5), 10, 0)

abbrev pub TextOfNull : Type 0
TextOfNull = seen (outcome silent mute operation.ToText (value.Null ∷ [])) ≡ (gives (word 6), 10, 0)

abbrev pub TextOfTruth : Type 0
TextOfTruth = seen (outcome silent mute operation.ToText (value.Bool true ∷ [])) ≡ (gives (word 7), 10, 0)

abbrev pub TextOfNumber : Type 0
TextOfNumber = seen (outcome silent mute operation.ToText (value.Whole (negsuc 4) ∷ [])) ≡ (gives (word 8), 10, 0)

abbrev pub TextOfText : Type 0
TextOfText = seen (outcome silent mute operation.ToText (word 16 ∷ [])) ≡ (gives (word 16), 10, 0)

abbrev pub TextOfSymbol : Type 0
TextOfSymbol = thrown (outcome silent mute operation.ToText (a_symbol ∷ [])) ≡ type_error (codes "cannot convert")

-- an object is converted with the type string, and what that gives is converted then
abbrev pub TextOfObject : Type 0
TextOfObject = seen (outcome silent echoes operation.ToText (object 0 ∷ [])) ≡ (gives (word 2), 10, 1)

-- ---- ToNumber (7.1.4)

abbrev pub NumberOfUndefined : Type 0
NumberOfUndefined = thrown (outcome silent mute operation.ToWhole (value.Undefined ∷ [])) ≡ range_error (codes "number outside the profile")

abbrev pub NumberOfNull : Type 0
NumberOfNull = seen (outcome silent mute operation.ToWhole (value.Null ∷ [])) ≡ (gives (whole 0), 10, 0)

abbrev pub NumberOfTruth : Type 0
NumberOfTruth = seen (outcome silent mute operation.ToWhole (value.Bool true ∷ [])) ≡ (gives (whole 1), 10, 0)

abbrev pub NumberOfNumber : Type 0
NumberOfNumber = seen (outcome silent mute operation.ToWhole (value.Whole (negsuc 4) ∷ [])) ≡ (gives (value.Whole (negsuc 4)), 10, 0)

-- an object is converted with the type number, and what that gives is converted then: here null
abbrev pub null_given : ℕ → Value → Completion
null_given f v = gives value.Null

abbrev pub NumberOfObject : Type 0
NumberOfObject = seen (outcome silent null_given operation.ToWhole (object 0 ∷ [])) ≡ (gives (whole 0), 10, 1)

abbrev pub NumberOfSymbol : Type 0
NumberOfSymbol = thrown (outcome silent mute operation.ToWhole (a_symbol ∷ [])) ≡ type_error (codes "cannot convert")

-- no sign stands before a prefix
abbrev pub NumberOfSignedHex : Type 0
NumberOfSignedHex = thrown (outcome silent mute operation.ToWhole (word 9 ∷ [])) ≡ range_error (codes "number outside the profile")

abbrev pub NumberOfBinary : Type 0
NumberOfBinary = seen (outcome silent mute operation.ToWhole (word 10 ∷ [])) ≡ (gives (whole 5), 10, 0)

abbrev pub NumberOfPlus : Type 0
NumberOfPlus = seen (outcome silent mute operation.ToWhole (word 11 ∷ [])) ≡ (gives (whole 7), 10, 0)

abbrev pub NumberOfZeros : Type 0
NumberOfZeros = seen (outcome silent mute operation.ToWhole (word 12 ∷ [])) ≡ (gives (whole 7), 10, 0)

abbrev pub NumberOfNothing : Type 0
NumberOfNothing = seen (outcome silent mute operation.ToWhole (word 13 ∷ [])) ≡ (gives (whole 0), 10, 0)

-- 2 ^ 53 is out of the range
abbrev pub NumberTooGreat : Type 0
NumberTooGreat = thrown (outcome silent mute operation.ToWhole (word 14 ∷ [])) ≡ range_error (codes "number outside the profile")

-- ---- ToUint32 (7.1.7): what is no number is converted first, for a request

abbrev pub unsigned_of : (ℕ → Value → Completion) → Value → Outcome
unsigned_of calls v = run (server silent calls) (to_uint32 v (λ n. done (number n))) 0 (room 10)

abbrev pub UnsignedOfNegative : Type 0
UnsignedOfNegative = seen (unsigned_of mute (value.Whole (negsuc 0))) ≡ (gives (whole 4294967295), 10, 0)

-- function 2 stands for the conversion, and gives 2 ^ 32 and 3 more
abbrev pub above_32_bits : ℕ → Value → Completion
above_32_bits f v = gives (whole 4294967299)

abbrev pub UnsignedOfText : Type 0
UnsignedOfText = seen (unsigned_of above_32_bits (word 15)) ≡ (gives (whole 3), 10, 1)

-- ---- ToPropertyKey (7.1.19)

abbrev pub key_gives : PropKey → Completion
key_gives k = Normal (reply.Key k)

abbrev pub KeyOfIndex : Type 0
KeyOfIndex = seen (outcome silent mute operation.ToKey (whole 3 ∷ [])) ≡ (key_gives (Index 3), 10, 0)

abbrev pub KeyOfSymbol : Type 0
KeyOfSymbol = seen (outcome silent mute operation.ToKey (a_symbol ∷ [])) ≡ (key_gives (Sym (record { 0 = 0 })), 10, 0)

abbrev pub KeyOfText : Type 0
KeyOfText = seen (outcome silent mute operation.ToKey (word 16 ∷ [])) ≡ (key_gives (named 16), 10, 0)

-- the text of an index is an index, and one with zeros before it a name
abbrev pub KeyOfOne : Type 0
KeyOfOne = seen (outcome silent mute operation.ToKey (word 15 ∷ [])) ≡ (key_gives (Index 1), 10, 0)

abbrev pub KeyOfZeros : Type 0
KeyOfZeros = seen (outcome silent mute operation.ToKey (word 12 ∷ [])) ≡ (key_gives (named 12), 10, 0)

abbrev pub KeyOfUndefined : Type 0
KeyOfUndefined = seen (outcome silent mute operation.ToKey (value.Undefined ∷ [])) ≡ (key_gives (named 5), 10, 0)

abbrev pub KeyOfNull : Type 0
KeyOfNull = seen (outcome silent mute operation.ToKey (value.Null ∷ [])) ≡ (key_gives (named 6), 10, 0)

abbrev pub KeyOfTruth : Type 0
KeyOfTruth = seen (outcome silent mute operation.ToKey (value.Bool true ∷ [])) ≡ (key_gives (named 7), 10, 0)

-- an object is converted with the type string, and what that gives is the key
abbrev pub KeyOfObject : Type 0
KeyOfObject = seen (outcome silent echoes operation.ToKey (object 0 ∷ [])) ≡ (key_gives (named 2), 10, 1)

-- ---- IsLooselyEqual (7.2.14)

abbrev pub NullIsUndefined : Type 0
NullIsUndefined = seen (outcome silent mute operation.LooselyEqual (value.Null ∷ value.Undefined ∷ [])) ≡ (says true, 10, 0)

abbrev pub NullIsNoZero : Type 0
NullIsNoZero = seen (outcome silent mute operation.LooselyEqual (value.Null ∷ whole 0 ∷ [])) ≡ (says false, 10, 0)

abbrev pub TextIsNumber : Type 0
TextIsNumber = seen (outcome silent mute operation.LooselyEqual (word 12 ∷ whole 7 ∷ [])) ≡ (says true, 10, 0)

abbrev pub NoNumberThrows : Type 0
NoNumberThrows = thrown (outcome silent mute operation.LooselyEqual (whole 1 ∷ word 16 ∷ [])) ≡ range_error (codes "number outside the profile")

abbrev pub TruthIsText : Type 0
TruthIsText = seen (outcome silent mute operation.LooselyEqual (value.Bool true ∷ word 15 ∷ [])) ≡ (says true, 10, 0)

-- the object is converted without a type
abbrev pub ObjectIsText : Type 0
ObjectIsText = seen (outcome silent echoes operation.LooselyEqual (object 0 ∷ word 4 ∷ [])) ≡ (says true, 10, 1)

abbrev pub gives_symbol : ℕ → Value → Completion
gives_symbol f v = gives a_symbol

abbrev pub SymbolIsObject : Type 0
SymbolIsObject = seen (outcome silent gives_symbol operation.LooselyEqual (a_symbol ∷ object 0 ∷ [])) ≡ (says true, 10, 1)

abbrev pub SymbolIsNoText : Type 0
SymbolIsNoText = seen (outcome silent mute operation.LooselyEqual (a_symbol ∷ word 0 ∷ [])) ≡ (says false, 10, 0)

abbrev pub ObjectIsNotNull : Type 0
ObjectIsNotNull = seen (outcome silent mute operation.LooselyEqual (object 0 ∷ value.Null ∷ [])) ≡ (says false, 10, 0)

-- ---- IsLessThan (7.2.13)

-- `ab` and `ac` differ at the second place: two turns
abbrev pub TextsInOrder : Type 0
TextsInOrder = seen (outcome silent mute operation.LessThan (word 17 ∷ word 18 ∷ value.Bool true ∷ [])) ≡ (says true, 8, 0)

abbrev pub NothingIsLess : Type 0
NothingIsLess = seen (outcome silent mute operation.LessThan (word 13 ∷ word 16 ∷ value.Bool true ∷ [])) ≡ (says true, 10, 0)

abbrev pub NumbersInOrder : Type 0
NumbersInOrder = seen (outcome silent mute operation.LessThan (value.Whole (negsuc 4) ∷ word 15 ∷ value.Bool false ∷ [])) ≡ (says true, 10, 0)

abbrev pub NoNumberIsLess : Type 0
NoNumberIsLess =
    thrown (outcome silent mute operation.LessThan (value.Undefined ∷ whole 1 ∷ value.Bool true ∷ [])) ≡ range_error (codes "number outside the profile")

-- who converts an object throws it: so what is thrown is what was converted first
abbrev pub throws_operand : Server
throws_operand n (Of (Work op operands)) w = Ended (Throw (first_of operands)) w 0
throws_operand n other w = Halt w 0

abbrev pub LeftIsFirst : Type 0
LeftIsFirst = seen (run throws_operand (work_program operation.LessThan (object 4 ∷ object 5 ∷ value.Bool true ∷ [])) 0 (room 10)) ≡ (Throw (object 4), 10, 1)

abbrev pub RightIsFirst : Type 0
RightIsFirst = seen (run throws_operand (work_program operation.LessThan (object 4 ∷ object 5 ∷ value.Bool false ∷ [])) 0 (room 10)) ≡ (Throw (object 5), 10, 1)

-- ---- InstanceofOperator (13.10.2)

abbrev pub prototype_of : Value → PropKey → Completion
prototype_of p (Name t) = gives p
prototype_of p other = gives value.Undefined

-- object 4 has the prototype 5: two reads, a round
abbrev pub IsInstance : Type 0
IsInstance = seen (outcome (prototype_of (object 5)) mute operation.InstanceOf (object 4 ∷ object 1 ∷ [])) ≡ (says true, 9, 3)

-- a second round finds null
abbrev pub IsNoInstance : Type 0
IsNoInstance = seen (outcome (prototype_of (object 0)) mute operation.InstanceOf (object 4 ∷ object 1 ∷ [])) ≡ (says false, 8, 4)

abbrev pub InstanceHalts : Type 0
InstanceHalts = seen (run (server (prototype_of (object 0)) mute) (work_program operation.InstanceOf (object 4 ∷ object 1 ∷ [])) 0 (room 1)) ≡ (Break, 0, 3)

abbrev pub PrimitiveIsNoInstance : Type 0
PrimitiveIsNoInstance = seen (outcome (prototype_of (object 0)) mute operation.InstanceOf (whole 1 ∷ object 1 ∷ [])) ≡ (says false, 10, 1)

abbrev pub PrototypeIsNoObject : Type 0
PrototypeIsNoObject = thrown (outcome (prototype_of (whole 1)) mute operation.InstanceOf (object 4 ∷ object 1 ∷ [])) ≡ type_error (codes "not an object")

abbrev pub TargetIsNoObject : Type 0
TargetIsNoObject = thrown (outcome silent mute operation.InstanceOf (object 4 ∷ whole 1 ∷ [])) ≡ type_error (codes "not an object")

abbrev pub TargetIsNoFunction : Type 0
TargetIsNoFunction = thrown (outcome nothing_there mute operation.InstanceOf (object 4 ∷ object 5 ∷ [])) ≡ type_error (codes "not a function")

-- a method under @@hasInstance decides, by ToBoolean of what it gives
abbrev pub HandlerDecides : Type 0
HandlerDecides = seen (outcome own_method seven_or_x operation.InstanceOf (whole 1 ∷ object 5 ∷ [])) ≡ (says true, 10, 2)

-- ---- ToPropertyDescriptor (6.2.6.5): each field is asked for and read

-- every field is 1: get is no function, and is read fifth
abbrev pub GetIsNoFunction : Type 0
GetIsNoFunction = thrown (outcome own_number mute operation.ToWanted (object 0 ∷ [])) ≡ type_error (codes "not a function")

-- every field is function 1: of both kinds, found behind the last read
abbrev pub all_functions : PropKey → Completion
all_functions k = gives (object 1)

abbrev pub MixedThrows : Type 0
MixedThrows = thrown (outcome all_functions mute operation.ToWanted (object 0 ∷ [])) ≡ type_error (codes "bad descriptor")

-- a read throws its key: the first is `enumerable`
abbrev pub throws_key : PropKey → Completion
throws_key (Name t) = Throw (value.Text t)
throws_key other = gives value.Undefined

abbrev pub EnumerableIsFirst : Type 0
EnumerableIsFirst = seen (outcome throws_key mute operation.ToWanted (object 0 ∷ [])) ≡ (Throw (word 22), 10, 2)

-- the first two fields are had, and `value` comes before the others
abbrev pub throws_third : PropKey → Completion
throws_third (Name t) = if nat_eq t.0 22 then gives (whole 1) else (if nat_eq t.0 23 then gives value.Null else Throw (value.Text t))
throws_third other = gives value.Undefined

abbrev pub ValueIsThird : Type 0
ValueIsThird = seen (outcome throws_third mute operation.ToWanted (object 0 ∷ [])) ≡ (Throw (word 24), 10, 6)

abbrev pub WantedIsNoObject : Type 0
WantedIsNoObject = thrown (outcome silent mute operation.ToWanted (whole 1 ∷ [])) ≡ type_error (codes "not an object")

-- ---- CreateListFromArrayLike (7.3.19)

-- an element is its index, and the length this value
abbrev pub elements : Value → PropKey → Completion
elements n (Index i) = gives (whole i)
elements n (Sym s) = gives value.Undefined
elements n (Name t) = gives n

-- two elements, a turn and a read each
abbrev pub ListOfTwo : Type 0
ListOfTwo = seen (outcome (elements (whole 2)) mute operation.ListFromArrayLike (object 0 ∷ [])) ≡ (Normal (reply.List (whole 0 ∷ whole 1 ∷ [])), 8, 3)

-- a length that is no number is converted, for a request
abbrev pub one_and_all : ℕ → Value → Completion
one_and_all f v = gives (whole 1)

abbrev pub LengthIsConverted : Type 0
LengthIsConverted = seen (outcome (elements (word 15)) one_and_all operation.ListFromArrayLike (object 0 ∷ [])) ≡ (Normal (reply.List (whole 0 ∷ [])), 9, 3)

-- undefined and what is below 0 are none
abbrev pub NoLength : Type 0
NoLength = seen (outcome (elements value.Undefined) mute operation.ListFromArrayLike (object 0 ∷ [])) ≡ (Normal (reply.List []), 10, 1)

abbrev pub NegativeLength : Type 0
NegativeLength = seen (outcome (elements (value.Whole (negsuc 4))) mute operation.ListFromArrayLike (object 0 ∷ [])) ≡ (Normal (reply.List []), 10, 1)

-- The length was read once: an element that is gone by then is undefined, and has its turn all the same.
abbrev pub shortened : PropKey → Completion
shortened (Index i) = if nat_eq i 0 then gives (whole 8) else gives value.Undefined
shortened (Sym s) = gives value.Undefined
shortened (Name t) = gives (whole 3)

abbrev pub ListKeepsLength : Type 0
ListKeepsLength =
    seen (outcome shortened mute operation.ListFromArrayLike (object 0 ∷ [])) ≡ (Normal (reply.List (whole 8 ∷ value.Undefined ∷ value.Undefined ∷ [])), 7, 4)

-- for two elements there are turns for one
abbrev pub ListHalts : Type 0
ListHalts = seen (run (server (elements (whole 2)) mute) (work_program operation.ListFromArrayLike (object 0 ∷ [])) 0 (room 1)) ≡ (Break, 0, 2)

abbrev pub KeysAreKeys : Type 0
KeysAreKeys = thrown (outcome (elements (whole 1)) mute operation.KeysFromArrayLike (object 0 ∷ [])) ≡ type_error (codes "wrong value")

-- ---- print: its arguments from left to right, a turn and a request each, and then the line

abbrev pub PrintGivesUndefined : Type 0
PrintGivesUndefined = seen (run (server silent echoes) (row_program print_row (word 16 ∷ word 15 ∷ [])) 0 (room 10)) ≡ (gives value.Undefined, 8, 3)

-- who prints throws the first text of the line
abbrev pub throws_line : Server
throws_line n (Of (Work op operands)) w = Ended (gives (first_of operands)) w 0
throws_line n (Of (Print line)) w = Ended (Throw (first_of line)) w 0
throws_line n other w = Halt w 0

abbrev pub FirstIsFirst : Type 0
FirstIsFirst = seen (run throws_line (row_program print_row (word 16 ∷ word 15 ∷ [])) 0 (room 10)) ≡ (Throw (word 16), 8, 3)

-- what the first conversion throws is thrown, and nothing is printed
abbrev pub PrintThrows : Type 0
PrintThrows = seen (run throws_operand (row_program print_row (word 16 ∷ word 15 ∷ [])) 0 (room 10)) ≡ (Throw (word 16), 9, 1)

-- ---- ToObject (7.1.18): the object that it gives; a new one is object 6

abbrev pub object_for : Value → Outcome
object_for v = run (server silent mute) (to_object v (λ o. done (gives (value.Object o)))) 0 (room 10)

abbrev pub WrapsNumber : Type 0
WrapsNumber = seen (object_for (whole 7)) ≡ (gives (object 6), 10, 0)

abbrev pub WrapsTruth : Type 0
WrapsTruth = seen (object_for (value.Bool false)) ≡ (gives (object 6), 10, 0)

abbrev pub WrapsSymbol : Type 0
WrapsSymbol = seen (object_for a_symbol) ≡ (gives (object 6), 10, 0)

abbrev pub WrapsText : Type 0
WrapsText = seen (object_for (word 17)) ≡ (gives (object 6), 10, 0)

abbrev pub ObjectIsItself : Type 0
ObjectIsItself = seen (object_for (object 4)) ≡ (gives (object 4), 10, 0)

abbrev pub UndefinedIsNoObject : Type 0
UndefinedIsNoObject = thrown (object_for value.Undefined) ≡ type_error (codes "not an object")

abbrev pub NullIsNoObject : Type 0
NullIsNoObject = thrown (object_for value.Null) ≡ type_error (codes "not an object")
