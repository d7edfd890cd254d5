-- Worked examples of the model: small worlds, and what a request comes to in each, as worked out by hand from the numbered steps of ECMA-262.
-- A number behind an outcome is that of the requests asked on the way; a step on to a prototype, a round of step 7 of 10.1.2 and an entering take a turn each.
use Rattle.std.specs.Prelude.{◌≡◌, ℕ, Bool, true, false, Option, Some, None, List, [], ◌∷◌, pos, codes}
use Rattle.property_keys.specs.declared.identifiers.ObjectId.{ObjectId}
use Rattle.property_keys.specs.declared.keys.PropKey.{PropKey}
use Rattle.property_keys.specs.declared.keys.PropKey.TheVariants.{Index, Name, Sym}
use Rattle.property_keys.specs.declared.keys.Attributes.{Attributes}
use Rattle.property_keys.specs.declared.values.Value.{Value}
use Rattle.property_keys.specs.declared.values.Value.TheVariants as value
use Rattle.descriptors.specs.declared.fields.Descriptor.{Descriptor}
use Rattle.descriptors.specs.declared.property.Complete.TheVariants as complete
use Rattle.es_model.specs.declared.kinds.ObjectKind.TheVariants as kind_of
use Rattle.es_model.specs.declared.owned.OwnProperty.{OwnProperty}
use Rattle.es_model.specs.declared.requests.Request.{Request}
use Rattle.es_model.specs.declared.requests.Request.TheVariants.{Define, Has, Read, Write, Delete, Keys, SetProto, Extensible, Prevent, Call, Construct}
use Rattle.es_model.specs.Completions.{Completion, Normal, Throw}
use Rattle.es_model.specs.declared.answers.Reply.TheVariants as reply
use Rattle.es_tree.specs.declared.numbers.SiteId.{SiteId}
use Rattle.es_model.specs.Events.{Event, OfError, Made, MadePrototype, Added, Stored, Redefined, GivenFunctions, Deleted, ProtoSet, Closed}
use Rattle.es_model.specs.Events.{IndexPut, IndexRemoved, Accessed, Walk, AtProperty, AtNull, Reads, Writes, IsSmall, IsOther, OfValue, OfFunctions}
use Rattle.es_tree.specs.Tree.{empty_tree}
use Rattle.es_model.specs.Objects.{Object, is_proxy}
use Rattle.es_model.specs.World.{World}
use Rattle.es_model.specs.Program.{Of, Ended, Halt, Server, run}
use Rattle.ordinary_object.specs.Ordinary.{ordinary_get, ordinary_set}
use Rattle.es_serve.specs.Serve.{model}
use Rattle.es_model.specs.Belongs.{FrameName, NamesObject, NamesKind, NamesValue, NamesKey, Belongs}

-- ---- the parts of a small world

abbrev pub at : ℕ → ObjectId
at n = record { 0 = n }

-- the key that is the text of this number
abbrev pub text : ℕ → PropKey
text n = Name (record { 0 = n })

abbrev pub symbol : ℕ → PropKey
symbol n = Sym (record { 0 = n })

abbrev pub whole : ℕ → Value
whole n = value.Whole (pos n)

abbrev pub object : ℕ → Value
object n = value.Object (at n)

abbrev pub open_flags : Attributes
open_flags = record { writable = true; enumerable = true; configurable = true }

abbrev pub read_only : Attributes
read_only = record { writable = false; enumerable = true; configurable = true }

abbrev pub hidden_flags : Attributes
hidden_flags = record { writable = true; enumerable = false; configurable = true }

abbrev pub fixed_flags : Attributes
fixed_flags = record { writable = false; enumerable = false; configurable = false }

abbrev pub holds : PropKey → Value → Attributes → OwnProperty
holds k v flags = record { key = k; complete = complete.Stored v flags }

abbrev pub has_functions : PropKey → Option ObjectId → Option ObjectId → OwnProperty
has_functions k getter setter = record { key = k; complete = complete.Accessor getter setter true true }

abbrev pub plain : Option ObjectId → List OwnProperty → Object
plain up ps = record { kind = kind_of.Ordinary; proto = up; extensible = true; properties = ps }

abbrev pub shut : Option ObjectId → List OwnProperty → Object
shut up ps = record { kind = kind_of.Ordinary; proto = up; extensible = false; properties = ps }

abbrev pub a_function : Object
a_function = record { kind = kind_of.Function (record { 0 = 0 }) false true; proto = None; extensible = true; properties = [] }

-- a Proxy of object 0
abbrev pub a_proxy : Object
a_proxy = record { kind = kind_of.Proxy (Some (at 0)) (Some (at 1)) false false; proto = None; extensible = false; properties = [] }

-- a new error of this prototype, with the text of the first number under the text of the second
abbrev pub an_error : ℕ → ℕ → ℕ → Object
an_error up said name = record {
  kind = kind_of.Error;
  proto = Some (at up);
  extensible = true;
  properties = holds (text name) (value.Text (record { 0 = said })) hidden_flags ∷ [];
}

-- an empty script, these objects and texts, so many turns and this trace
abbrev pub world : List Object → List (List ℕ) → ℕ → List Event → World
world objects texts turns trace = record {
  script = empty_tree;
  lists = record { objects = objects; texts = texts; symbols = []; cells = [] };
  turns = turns;
  trace = trace;
  printed = [];
}

abbrev pub answers : Request → World → Completion → World → ℕ → Type 0
answers q before c after n = model 0 (Of q) before ≡ Ended c after n

abbrev pub gives : Value → Completion
gives v = Normal (reply.Value v)

abbrev pub says : Bool → Completion
says b = Normal (reply.Flag b)

-- ---- a chain: object 3, its prototype 1, and the prototype of that, 0. Object 2 is a function

abbrev pub top : Object
top = plain None (
    holds (text 0) (whole 7) open_flags
    ∷ has_functions (text 1) (Some (at 2)) (Some (at 2))
    ∷ has_functions (text 2) None None ∷ [])

abbrev pub chain : List Object
chain = top ∷ plain (Some (at 0)) [] ∷ a_function ∷ plain (Some (at 1)) [] ∷ []

abbrev pub chain_with : ℕ → World
chain_with turns = world chain [] turns []

-- ---- [[Get]] (10.1.8.1)

-- Twice step 2.c: to the prototype, for a turn and a request each. Then step 3.
abbrev pub GetGoesUp : Type 0
GetGoesUp = answers (Read (at 3) (text 0) (object 3) None) (chain_with 5) (gives (whole 7)) (chain_with 3) 2

-- Twice step 2.c, then step 2.b at object 0: undefined.
abbrev pub GetOfNothing : Type 0
GetOfNothing = answers (Read (at 3) (text 9) (object 3) None) (chain_with 5) (gives value.Undefined) (chain_with 3) 2

-- Twice step 2.c, then step 7: the Call, for a request and the turn of its entering. In these small worlds an entered function throws undefined.
abbrev pub GetCallsGetter : Type 0
GetCallsGetter = answers (Read (at 3) (text 1) (object 3) None) (chain_with 5) (Throw value.Undefined) (chain_with 2) 3

-- Twice step 2.c, then step 6: the getter is undefined.
abbrev pub GetWithoutGetter : Type 0
GetWithoutGetter = answers (Read (at 3) (text 2) (object 3) None) (chain_with 5) (gives value.Undefined) (chain_with 3) 2

-- The turns for the prototypes are there, the one to enter the getter is not.
abbrev pub GetHaltsAtGetter : Type 0
GetHaltsAtGetter = model 0 (Of (Read (at 3) (text 1) (object 3) None)) (chain_with 2) ≡ Halt (chain_with 0) 3

-- ---- what is handed on: a server that answers a Call, a Read and a Write with the object that it is for, and one where a Call throws its first argument

abbrev pub echo : Server
echo n (Of (Call f this arguments)) w = Ended (gives this) w 0
echo n (Of (Read o k receiver place)) w = Ended (gives receiver) w 0
echo n (Of (Write o k v receiver place)) w = Ended (gives receiver) w 0
echo n other w = Halt w 0

abbrev pub throwing : Server
throwing n (Of (Call f this (v ∷ vs))) w = Ended (Throw v) w 0
throwing n other w = Halt w 0

-- The receiver stays the same on the way up (10.1.8.1, step 2.c).
abbrev pub GetHandsReceiver : Type 0
GetHandsReceiver = run echo (ordinary_get (at 3) (text 0) (object 2)) 0 (chain_with 5) ≡ Ended (gives (object 2)) (chain_with 4) 1

-- A getter is called on the receiver (10.1.8.1, step 7).
abbrev pub GetterHasReceiver : Type 0
GetterHasReceiver = run echo (ordinary_get (at 0) (text 1) (object 3)) 0 (chain_with 5) ≡ Ended (gives (object 3)) (chain_with 5) 1

-- The receiver stays the same on the way up (10.1.9.2, step 1.b.i).
abbrev pub SetHandsReceiver : Type 0
SetHandsReceiver = run echo (ordinary_set (at 3) (text 0) (whole 9) (object 2)) 0 (chain_with 5) ≡ Ended (gives (object 2)) (chain_with 4) 1

-- Whatever a setter returns, the answer is true (10.1.9.2, step 7).
abbrev pub SetterReturns : Type 0
SetterReturns = run echo (ordinary_set (at 0) (text 1) (whole 9) (object 3)) 0 (chain_with 5) ≡ Ended (says true) (chain_with 5) 1

-- A setter gets the value (10.1.9.2, step 6), and what it throws is thrown.
abbrev pub SetterHasValue : Type 0
SetterHasValue = run throwing (ordinary_set (at 0) (text 1) (whole 9) (object 3)) 0 (chain_with 5) ≡ Ended (Throw (whole 9)) (chain_with 5) 1

-- ---- sites: an access that counts is noted before the algorithm starts, with its walk up the prototypes

abbrev pub site : Option SiteId
site = Some (record { 0 = 4 })

abbrev pub walk_to_top : Walk
walk_to_top = record { links = at 1 ∷ at 0 ∷ []; ending = AtProperty (complete.Stored (whole 7) open_flags) }

-- The same as without a site, but for the event.
abbrev pub ReadIsNoted : Type 0
ReadIsNoted =
    answers (Read (at 3) (text 0) (object 3) site) (chain_with 5) (gives (whole 7))
    (world chain [] 3 (Accessed (record { 0 = 4 }) Reads (at 3) false (text 0) walk_to_top ∷ [])) 2

-- A receiver that is another object does not count.
abbrev pub ReadForOther : Type 0
ReadForOther = answers (Read (at 3) (text 0) (object 1) site) (chain_with 5) (gives (whole 7)) (chain_with 3) 2

-- An array index does not count.
abbrev pub ReadOfIndex : Type 0
ReadOfIndex = answers (Read (at 3) (Index 0) (object 3) site) (chain_with 5) (gives value.Undefined) (chain_with 3) 2

-- The access is noted first, with a walk that finds nothing, and then the addition.
abbrev pub WriteIsNoted : Type 0
WriteIsNoted =
    answers (Write (at 0) (text 3) (whole 9) (object 0) site) (world (plain None [] ∷ []) [] 5 []) (says true)
    (world (plain None (holds (text 3) (whole 9) open_flags ∷ []) ∷ []) [] 5 (
    Accessed (record { 0 = 4 }) (Writes IsSmall) (at 0) false (text 3) (record { links = []; ending = AtNull })
    ∷ Added (at 0) (text 3) (OfValue IsSmall open_flags) ∷ [])) 2

-- ---- [[HasProperty]] (10.1.7.1)

-- Step 4.a at object 3 takes the one turn and asks object 1, whose step 4.a has none.
abbrev pub HasHalts : Type 0
HasHalts = model 0 (Of (Has (at 3) (text 0))) (chain_with 1) ≡ Halt (chain_with 0) 1

-- A turn more: object 0 is asked, and has the property (step 2).
abbrev pub HasGoesUp : Type 0
HasGoesUp = answers (Has (at 3) (text 0)) (chain_with 2) (says true) (chain_with 0) 2

-- Twice step 4.a, and then step 5 at object 0.
abbrev pub HasNot : Type 0
HasNot = answers (Has (at 3) (text 9)) (chain_with 2) (says false) (chain_with 0) 2

-- ---- [[Set]] (10.1.9.2)

-- object 0 has one property that is read only, one that is open and one with neither function; 1 has it with functions, 3 read only, and 4 is closed
abbrev pub holder_with : ℕ → Object
holder_with n = plain None (
    holds (text 0) (whole 7) read_only
    ∷ holds (text 2) (whole n) open_flags
    ∷ has_functions (text 1) None None ∷ [])

abbrev pub receivers_with : ℕ → List Object
receivers_with n =
    holder_with n
    ∷ plain None (has_functions (text 2) None None ∷ [])
    ∷ plain None []
    ∷ plain None (holds (text 2) (whole 7) read_only ∷ [])
    ∷ shut None [] ∷ []

abbrev pub receivers : World
receivers = world (receivers_with 7) [] 5 []

-- 9 is written by a key from object 0, for a receiver
abbrev pub write : ℕ → Value → Request
write key receiver = Write (at 0) (text key) (whole 9) receiver None

-- step 2.a
abbrev pub SetReadOnly : Type 0
SetReadOnly = answers (write 0 (object 0)) receivers (says false) receivers 0

-- step 2.b
abbrev pub SetOnNoObject : Type 0
SetOnNoObject = answers (write 2 (whole 1)) receivers (says false) receivers 0

-- step 2.c is a request, then step 2.d.i
abbrev pub SetOverFunctions : Type 0
SetOverFunctions = answers (write 2 (object 1)) receivers (says false) receivers 1

-- step 2.c is a request, then step 2.d.ii
abbrev pub SetOverReadOnly : Type 0
SetOverReadOnly = answers (write 2 (object 3)) receivers (says false) receivers 1

-- step 5
abbrev pub SetWithoutSetter : Type 0
SetWithoutSetter = answers (write 1 (object 0)) receivers (says false) receivers 0

-- Step 2.c is a request, and CreateDataProperty of step 2.e another one, whose definition a closed object refuses (10.1.6.3, step 2.a).
abbrev pub SetOnClosed : Type 0
SetOnClosed = answers (write 2 (object 4)) receivers (says false) receivers 2

-- Steps 2.c and 2.d.iv are a request each. The property keeps its place and its flags.
abbrev pub SetReplaces : Type 0
SetReplaces =
    answers (write 2 (object 0)) receivers (says true)
    (world (receivers_with 9) [] 5 (Stored (at 0) (text 2) (OfValue IsSmall open_flags) ∷ [])) 2

-- Twice step 1.b to the prototype, for a turn and a request each, then steps 2.c and 2.e, a request each. The property comes on the receiver, open.
abbrev pub SetAdds : Type 0
SetAdds =
    answers (Write (at 3) (text 0) (whole 9) (object 3) None) (chain_with 5) (says true)
    (world
    (top ∷ plain (Some (at 0)) [] ∷ a_function ∷ plain (Some (at 1)) (holds (text 0) (whole 9) open_flags ∷ []) ∷ [])
    [] 3 (Added (at 3) (text 0) (OfValue IsSmall open_flags) ∷ [])) 4

-- Twice step 1.b, then step 6: the Call, for a request and the turn of its entering. What the setter throws is thrown.
abbrev pub SetCallsSetter : Type 0
SetCallsSetter = answers (Write (at 3) (text 1) (whole 9) (object 3) None) (chain_with 5) (Throw value.Undefined) (chain_with 2) 3

-- ---- [[OwnPropertyKeys]] (10.1.11.1)

abbrev pub mixed : World
mixed =
    world (plain None (
    holds (symbol 1) (whole 0) open_flags
    ∷ holds (text 1) (whole 1) open_flags
    ∷ holds (Index 5) (whole 2) open_flags
    ∷ holds (text 0) (whole 3) hidden_flags
    ∷ holds (Index 10) (whole 4) open_flags
    ∷ holds (symbol 0) (whole 5) open_flags
    ∷ holds (Index 2) (whole 6) open_flags ∷ []) ∷ []) [] 5 []

-- Step 2 takes the array indices ascending, step 3 the other texts and step 4 the Symbols, both in order of creation.
abbrev pub KeysInOrder : Type 0
KeysInOrder =
    answers (Keys (at 0)) mixed
    (Normal (reply.Keys (Index 2 ∷ Index 5 ∷ Index 10 ∷ text 1 ∷ text 0 ∷ symbol 1 ∷ symbol 0 ∷ []))) mixed 0

-- ---- [[SetPrototypeOf]] (10.1.2.1). Object 2 is %Object.prototype%, object 3 a Proxy

abbrev pub family_under : Option ObjectId → Option ObjectId → List Object
family_under zeroth first = plain zeroth [] ∷ plain first [] ∷ plain None [] ∷ a_proxy ∷ shut (Some (at 3)) [] ∷ []

abbrev pub family : ℕ → World
family turns = world (family_under None (Some (at 0))) [] turns []

-- Object 1 is no object 0, its prototype is: the second round answers (step 7.b).
abbrev pub CycleRefused : Type 0
CycleRefused = answers (SetProto (at 0) (Some (at 1))) (family 5) (says false) (family 3) 0

-- Object 4 is no object 0, and its prototype is a Proxy: the second round ends the search (step 7.c.i), although the Proxy's target is object 0.
abbrev pub CycleThroughProxy : Type 0
CycleThroughProxy =
    answers (SetProto (at 0) (Some (at 4))) (family 5) (says true)
    (world (family_under (Some (at 4)) (Some (at 0))) [] 3 (ProtoSet (at 0) (Some (at 4)) ∷ [])) 0

-- The first round finds null (step 7.a).
abbrev pub NullIsSet : Type 0
NullIsSet =
    answers (SetProto (at 1) None) (family 5) (says true)
    (world (family_under None None) [] 4 (ProtoSet (at 1) None ∷ [])) 0

-- step 2 comes before step 4
abbrev pub SameOnClosed : Type 0
SameOnClosed = answers (SetProto (at 4) (Some (at 3))) (family 5) (says true) (family 5) 0

-- On an open object it comes before the rounds too, so that no turn is taken.
abbrev pub SameOnOpen : Type 0
SameOnOpen = answers (SetProto (at 1) (Some (at 0))) (family 5) (says true) (family 5) 0

-- step 4
abbrev pub OtherOnClosed : Type 0
OtherOnClosed = answers (SetProto (at 4) None) (family 5) (says false) (family 5) 0

-- The first round finds the object itself (step 7.b).
abbrev pub SelfRefused : Type 0
SelfRefused = answers (SetProto (at 0) (Some (at 0))) (family 5) (says false) (family 4) 0

-- Two rounds are wanted, and there are turns for one: nothing is set.
abbrev pub CycleHalts : Type 0
CycleHalts = model 0 (Of (SetProto (at 0) (Some (at 1)))) (family 1) ≡ Halt (family 0) 0

abbrev pub line_under : Option ObjectId → List Object
line_under zeroth = plain zeroth [] ∷ plain (Some (at 2)) [] ∷ plain None [] ∷ []

-- Rounds for objects 1 and 2 and for null, where all objects stand in one chain afterwards.
abbrev pub WholeChainIsSet : Type 0
WholeChainIsSet =
    answers (SetProto (at 0) (Some (at 1))) (world (line_under None) [] 5 []) (says true)
    (world (line_under (Some (at 1))) [] 2 (ProtoSet (at 0) (Some (at 1)) ∷ [])) 0

-- SetImmutablePrototype (10.4.7.2): step 3
abbrev pub ImmutableRefused : Type 0
ImmutableRefused = answers (SetProto (at 2) (Some (at 0))) (family 5) (says false) (family 5) 0

-- SetImmutablePrototype (10.4.7.2): step 2
abbrev pub ImmutableSame : Type 0
ImmutableSame = answers (SetProto (at 2) None) (family 5) (says true) (family 5) 0

-- ---- [[Delete]] (10.1.10.1) and [[DefineOwnProperty]] (10.1.6.3). Object 0 has an open property and a fixed one, and object 1 is closed

abbrev pub pair_with : List OwnProperty → List Event → World
pair_with ps trace = world (plain None ps ∷ shut None [] ∷ a_function ∷ []) [] 5 trace

abbrev pub open_one : OwnProperty
open_one = holds (text 0) (whole 7) open_flags

abbrev pub fixed_one : OwnProperty
fixed_one = holds (text 1) (whole 7) fixed_flags

abbrev pub pair : World
pair = pair_with (open_one ∷ fixed_one ∷ []) []

-- step 2
abbrev pub DeleteAbsent : Type 0
DeleteAbsent = answers (Delete (at 0) (text 9)) pair (says true) pair 0

-- step 3
abbrev pub DeleteOpen : Type 0
DeleteOpen =
    answers (Delete (at 0) (text 0)) pair (says true) (pair_with (fixed_one ∷ []) (Deleted (at 0) (text 0) ∷ [])) 0

-- step 4
abbrev pub DeleteFixed : Type 0
DeleteFixed = answers (Delete (at 0) (text 1)) pair (says false) pair 0

abbrev pub with_value : Value → Descriptor
with_value v = record { value = Some v; writable = None; get = None; set = None; enumerable = None; configurable = None }

abbrev pub to_be_hidden : Descriptor
to_be_hidden = record { value = None; writable = None; get = None; set = None; enumerable = Some false; configurable = None }

abbrev pub to_be_shown : Descriptor
to_be_shown = record { value = None; writable = None; get = None; set = None; enumerable = Some true; configurable = None }

abbrev pub no_fields : Descriptor
no_fields = record { value = None; writable = None; get = None; set = None; enumerable = None; configurable = None }

abbrev pub with_getter : Value → Descriptor
with_getter v = record { value = None; writable = None; get = Some v; set = None; enumerable = None; configurable = None }

abbrev pub getter_one : OwnProperty
getter_one = has_functions (text 0) (Some (at 2)) None

-- Step 6 puts the same value: nothing happens.
abbrev pub DefineKeeps : Type 0
DefineKeeps = answers (Define (at 0) (text 0) (with_value (whole 7))) pair (says true) pair 0

-- Step 5 lets the same value stand in the fixed property too.
abbrev pub DefineKeepsFixed : Type 0
DefineKeepsFixed = answers (Define (at 0) (text 1) (with_value (whole 7))) pair (says true) pair 0

-- step 5.e.ii: another value of a fixed property
abbrev pub DefineOverFixed : Type 0
DefineOverFixed = answers (Define (at 0) (text 1) (with_value (whole 8))) pair (says false) pair 0

-- Step 6 puts the one flag. The rest stays.
abbrev pub DefineHides : Type 0
DefineHides =
    answers (Define (at 0) (text 0) to_be_hidden) pair (says true)
    (pair_with (holds (text 0) (whole 7) hidden_flags ∷ fixed_one ∷ [])
    (Redefined (at 0) (text 0) (OfValue IsSmall hidden_flags) ∷ [])) 0

-- Step 2.d makes a property, with false for each flag that is not given.
abbrev pub DefineAdds : Type 0
DefineAdds =
    answers (Define (at 0) (text 2) (with_value (whole 8))) pair (says true)
    (pair_with (open_one ∷ fixed_one ∷ holds (text 2) (whole 8) fixed_flags ∷ [])
    (Added (at 0) (text 2) (OfValue IsSmall fixed_flags) ∷ [])) 0

-- step 2.a
abbrev pub DefineOnClosed : Type 0
DefineOnClosed = answers (Define (at 1) (text 0) (with_value (whole 7))) pair (says false) pair 0

-- step 4: no field is given
abbrev pub DefineNothing : Type 0
DefineNothing = answers (Define (at 0) (text 1) no_fields) pair (says true) pair 0

-- Step 2.d makes a property of no fields, which is undefined with three false flags.
abbrev pub DefineAddsEmpty : Type 0
DefineAddsEmpty =
    answers (Define (at 0) (text 2) no_fields) pair (says true)
    (pair_with (open_one ∷ fixed_one ∷ holds (text 2) value.Undefined fixed_flags ∷ [])
    (Added (at 0) (text 2) (OfValue IsOther fixed_flags) ∷ [])) 0

-- Step 6.a: a getter in the place of a value. The setter is undefined, and enumerable and configurable stay.
abbrev pub DefineGetter : Type 0
DefineGetter =
    answers (Define (at 0) (text 0) (with_getter (object 2))) pair (says true)
    (pair_with (getter_one ∷ fixed_one ∷ []) (Redefined (at 0) (text 0) (OfFunctions true true) ∷ [])) 0

-- Step 6.b: a value in the place of a getter. It is not writable, and enumerable and configurable stay.
abbrev pub DefineOverGetter : Type 0
DefineOverGetter =
    answers (Define (at 0) (text 0) (with_value (whole 8))) (pair_with (getter_one ∷ []) []) (says true)
    (pair_with (holds (text 0) (whole 8) read_only ∷ []) (Redefined (at 0) (text 0) (OfValue IsSmall read_only) ∷ [])) 0

-- Step 6.c: no getter any more.
abbrev pub DefineNoGetter : Type 0
DefineNoGetter =
    answers (Define (at 0) (text 0) (with_getter value.Undefined)) (pair_with (getter_one ∷ []) []) (says true)
    (pair_with (has_functions (text 0) None None ∷ []) (GivenFunctions (at 0) (text 0) (OfFunctions true true) ∷ [])) 0

-- step 5.c: a getter in the place of a fixed value
abbrev pub DefineGetterOverFixed : Type 0
DefineGetterOverFixed = answers (Define (at 0) (text 1) (with_getter (object 2))) pair (says false) pair 0

-- step 5.b: another enumerable
abbrev pub DefineShowsFixed : Type 0
DefineShowsFixed = answers (Define (at 0) (text 1) to_be_shown) pair (says false) pair 0

-- An index has events of its own: it is put, with three true flags, and taken out.
abbrev pub IndexIsPut : Type 0
IndexIsPut =
    answers (Write (at 0) (Index 3) (whole 9) (object 0) None) pair (says true)
    (pair_with (open_one ∷ fixed_one ∷ holds (Index 3) (whole 9) open_flags ∷ []) (IndexPut (at 0) 3 IsSmall true ∷ [])) 2

abbrev pub IndexIsRemoved : Type 0
IndexIsRemoved =
    answers (Delete (at 0) (Index 3)) (pair_with (open_one ∷ holds (Index 3) (whole 9) open_flags ∷ []) []) (says true)
    (pair_with (open_one ∷ []) (IndexRemoved (at 0) 3 ∷ [])) 0

-- ---- [[PreventExtensions]] (10.1.4.1) and [[IsExtensible]] (10.1.3.1)

-- step 1, which is an event
abbrev pub PreventCloses : Type 0
PreventCloses =
    answers (Prevent (at 0)) (world (plain None [] ∷ []) [] 5 []) (says true) (world (shut None [] ∷ []) [] 5 (Closed (at 0) ∷ [])) 0

-- A closed object stays closed: nothing happens.
abbrev pub PreventAgain : Type 0
PreventAgain = answers (Prevent (at 1)) pair (says true) pair 0

abbrev pub IsOpen : Type 0
IsOpen = answers (Extensible (at 0)) pair (says true) pair 0

abbrev pub IsClosed : Type 0
IsClosed = answers (Extensible (at 1)) pair (says false) pair 0

-- ---- Call (7.3.13) and Construct of what has no such method

abbrev pub thrown_of : ℕ → ℕ → ℕ → List (List ℕ) → World
thrown_of up said name texts =
    world (plain None [] ∷ a_function ∷ an_error up said name ∷ []) texts 5 (
    MadePrototype (at up)
    ∷ Made (at 2) OfError (Some (at up))
    ∷ Added (at 2) (text name) (OfValue IsOther hidden_flags) ∷ [])

abbrev pub callers : List (List ℕ) → World
callers texts = world (plain None [] ∷ a_function ∷ []) texts 5 []

-- Step 2 throws a TypeError, whose prototype is object 2 + 2 * (7 + 1) = 18. It stands last, and both texts are new.
abbrev pub CallOfUndefined : Type 0
CallOfUndefined =
    answers (Call value.Undefined value.Undefined []) (callers []) (Throw (object 2))
    (thrown_of 18 0 1 (codes "not a function" ∷ codes "message" ∷ [])) 0

-- The same of an object without the method. One text is known before.
abbrev pub CallOfObject : Type 0
CallOfObject =
    answers (Call (object 0) value.Undefined []) (callers (codes "message" ∷ [])) (Throw (object 2))
    (thrown_of 18 1 0 (codes "message" ∷ codes "not a function" ∷ [])) 0

-- A function that is no constructor (10.2.2 is absent there).
abbrev pub ConstructOfFunction : Type 0
ConstructOfFunction =
    answers (Construct (at 1) [] (at 1)) (callers []) (Throw (object 2))
    (thrown_of 18 0 1 (codes "not a constructor" ∷ codes "message" ∷ [])) 0

-- A function is entered for a turn. In these small worlds it throws undefined.
abbrev pub CallEnters : Type 0
CallEnters =
    answers (Call (object 1) value.Undefined []) (callers []) (Throw value.Undefined)
    (world (plain None [] ∷ a_function ∷ []) [] 4 []) 0

-- With 1999 calls that run there is room for one more.
abbrev pub CallIsTheLast : Type 0
CallIsTheLast =
    model 1999 (Of (Call (object 1) value.Undefined [])) (callers [])
    ≡ Ended (Throw value.Undefined) (world (plain None [] ∷ a_function ∷ []) [] 4 []) 0

-- As many calls run as may: the turn is taken, and a RangeError is thrown, whose prototype is object 2 + 2 * (7 + 2) = 20.
abbrev pub CallTooDeep : Type 0
CallTooDeep =
    model 2000 (Of (Call (object 1) value.Undefined [])) (callers [])
    ≡ Ended (Throw (object 2)) (record (thrown_of 20 0 1 (codes "too many nested calls" ∷ codes "message" ∷ [])) { turns = 4 }) 0

-- There is no turn to enter it.
abbrev pub CallHalts : Type 0
CallHalts =
    model 0 (Of (Call (object 1) value.Undefined [])) (world (plain None [] ∷ a_function ∷ []) [] 0 [])
    ≡ Halt (world (plain None [] ∷ a_function ∷ []) [] 0 []) 0

-- A Proxy without [[Call]] is no function.
abbrev pub CallOfProxy : Type 0
CallOfProxy =
    answers (Call (object 1) value.Undefined []) (world (plain None [] ∷ a_proxy ∷ []) [] 5 []) (Throw (object 2))
    (world (plain None [] ∷ a_proxy ∷ an_error 18 0 1 ∷ []) (codes "not a function" ∷ codes "message" ∷ []) 5 (
    MadePrototype (at 18)
    ∷ Made (at 2) OfError (Some (at 18))
    ∷ Added (at 2) (text 1) (OfValue IsOther hidden_flags) ∷ [])) 0

-- Step 4.a of 10.1.7.1 at object 4 takes a turn and asks object 3, a Proxy, whose method is entered for another turn. It is not written yet: it
-- throws undefined.
abbrev pub HasEntersProxy : Type 0
HasEntersProxy = answers (Has (at 4) (text 0)) (family 5) (Throw value.Undefined) (family 3) 1

-- ---- frames that belong

-- where [[Set]] waits for the own property of the receiver (10.1.9.2, step 2.c)
pub record SetWaits : Type 0 where
  pub key : PropKey
  pub value : Value
  pub receiver : ObjectId

abbrev pub names_of_set : SetWaits → List FrameName
names_of_set frame = NamesKey frame.key ∷ NamesValue frame.value ∷ NamesObject frame.receiver ∷ []

-- where a method of a Proxy waits for its handler
abbrev pub names_of_proxy : ObjectId → List FrameName
names_of_proxy o = NamesKind o is_proxy ∷ []

-- objects 0 and 1 are plain, object 2 is a Proxy of 0, and text 0 is the only one
abbrev pub proxied : World
proxied = world (plain None [] ∷ plain None [] ∷ a_proxy ∷ []) (codes "a" ∷ []) 5 []

abbrev pub SetBelongs : Type 0
SetBelongs = Belongs names_of_set proxied (record { key = Index 3; value = value.Text (record { 0 = 0 }); receiver = at 1 })

-- there is no object 3, and no text 1
abbrev pub NoReceiver : Type 0
NoReceiver = Belongs names_of_set proxied (record { key = Index 3; value = value.Text (record { 0 = 0 }); receiver = at 3 }) → ⊥

abbrev pub NoKey : Type 0
NoKey = Belongs names_of_set proxied (record { key = text 1; value = value.Text (record { 0 = 0 }); receiver = at 1 }) → ⊥

abbrev pub ProxyBelongs : Type 0
ProxyBelongs = Belongs names_of_proxy proxied (at 2)

-- object 1 is there, and is no Proxy
abbrev pub PlainIsNoProxy : Type 0
PlainIsNoProxy = Belongs names_of_proxy proxied (at 1) → ⊥
