-- Worked examples of requests that stand by themselves nowhere in `SmallWorlds`, or that differ from those there in one thing. Worked out by hand from the
-- numbered steps of ECMA-262.
use Rattle.std.specs.Prelude.{◌≡◌, ℕ, Bool, true, false, Option, Some, None, List, [], ◌∷◌, codes}
use Rattle.property_keys.specs.declared.keys.PropKey.TheVariants.{Index}
use Rattle.property_keys.specs.declared.keys.Attributes.{Attributes}
use Rattle.property_keys.specs.declared.values.Value.{Value}
use Rattle.property_keys.specs.declared.values.Value.TheVariants as value
use Rattle.descriptors.specs.declared.fields.Descriptor.{Descriptor}
use Rattle.descriptors.specs.declared.property.Complete.{Complete}
use Rattle.descriptors.specs.declared.property.Complete.TheVariants as complete
use Rattle.es_tree.specs.declared.numbers.SiteId.{SiteId}
use Rattle.es_model.specs.declared.answers.Reply.TheVariants as reply
use Rattle.es_model.specs.declared.kinds.ObjectKind.TheVariants as kind_of
use Rattle.es_model.specs.declared.owned.OwnProperty.{OwnProperty}
use Rattle.es_model.specs.declared.requests.Request.TheVariants.{GetOwn, Define, Keys, Print, Proto, Read, Write}
use Rattle.es_model.specs.Completions.{Completion, Normal, Throw}
use Rattle.es_model.specs.Events.{Event, Accessed, Added, Redefined, GivenFunctions, OfFunctions, OfValue, Reads, Writes, IsReference, IsSmall}
use Rattle.es_model.specs.Events.{AtNull, AtProperty, AtProxy}
use Rattle.es_model.specs.Objects.{Object}
use Rattle.es_model.specs.Program.{Ended, run}
use Rattle.es_model.specs.World.{World}
use Rattle.ordinary_object.specs.Ordinary.{ordinary_set}
use Rattle.small_worlds.specs.SmallWorlds.{answers, at, chain, chain_with, family, family_under, fixed_flags, gives, hidden_flags, holds, object, open_flags}
use Rattle.small_worlds.specs.SmallWorlds.{pair_with, plain, receivers, says, site, symbol, text, throwing, whole, with_getter, with_value, world, write}

-- ---- [[GetPrototypeOf]] (10.1.1.1): an object, null, and a Proxy, which is given as it is

abbrev pub ProtoIsObject : Type 0
ProtoIsObject = answers (Proto (at 3)) (chain_with 5) (Normal (reply.Proto (Some (at 1)))) (chain_with 5) 0

abbrev pub ProtoIsNull : Type 0
ProtoIsNull = answers (Proto (at 0)) (chain_with 5) (Normal (reply.Proto None)) (chain_with 5) 0

abbrev pub ProtoIsProxy : Type 0
ProtoIsProxy = answers (Proto (at 4)) (family 5) (Normal (reply.Proto (Some (at 3)))) (family 5) 0

-- The method of a Proxy is entered for a turn. It is not written yet: it throws undefined.
abbrev pub ProtoEntersProxy : Type 0
ProtoEntersProxy = answers (Proto (at 3)) (family 5) (Throw value.Undefined) (family 4) 0

-- ---- [[GetOwnProperty]] (10.1.5.1): the whole property, and none of a prototype

abbrev pub own_is : Option Complete → Completion
own_is c = Normal (reply.Property c)

abbrev pub OwnIsStored : Type 0
OwnIsStored = answers (GetOwn (at 0) (text 0)) (chain_with 5) (own_is (Some (complete.Stored (whole 7) open_flags))) (chain_with 5) 0

abbrev pub OwnIsAccessor : Type 0
OwnIsAccessor =
    answers (GetOwn (at 0) (text 1)) (chain_with 5) (own_is (Some (complete.Accessor (Some (at 2)) (Some (at 2)) true true))) (chain_with 5) 0

abbrev pub OwnIsNotInherited : Type 0
OwnIsNotInherited = answers (GetOwn (at 3) (text 0)) (chain_with 5) (own_is None) (chain_with 5) 0

-- ---- [[Set]] with a receiver of each kind of value (10.1.9.2): step 2.b gives false for each that is no Object. The property is writable

abbrev pub SetOnUndefined : Type 0
SetOnUndefined = answers (write 2 value.Undefined) receivers (says false) receivers 0

abbrev pub SetOnNull : Type 0
SetOnNull = answers (write 2 value.Null) receivers (says false) receivers 0

abbrev pub SetOnTruth : Type 0
SetOnTruth = answers (write 2 (value.Bool true)) receivers (says false) receivers 0

abbrev pub SetOnText : Type 0
SetOnText = answers (write 2 (value.Text (record { 0 = 0 }))) receivers (says false) receivers 0

abbrev pub SetOnSymbol : Type 0
SetOnSymbol = answers (write 2 (value.Symbol (record { 0 = 0 }))) receivers (says false) receivers 0

-- It is the same where no object of the chain has the property (step 1.c).
abbrev pub SetAbsentOnSymbol : Type 0
SetAbsentOnSymbol = answers (write 9 (value.Symbol (record { 0 = 0 }))) receivers (says false) receivers 0

-- A setter is called all the same (step 7): it throws the value that it gets.
abbrev pub SetterOfSymbol : Type 0
SetterOfSymbol =
    run throwing (ordinary_set (at 0) (text 1) (whole 9) (value.Symbol (record { 0 = 0 }))) 0 (chain_with 5) ≡ Ended (Throw (whole 9)) (chain_with 5) 1

-- ---- [[OwnPropertyKeys]] of a String object (10.4.3.3): the indices of its code units, here three, each once, then those of its list

abbrev pub lettered : World
lettered =
    world (record {
      kind = kind_of.Text (record { 0 = 1 });
      proto = None;
      extensible = true;
      properties =
          holds (symbol 0) (whole 0) open_flags
          ∷ holds (text 0) (whole 3) fixed_flags
          ∷ holds (Index 7) (whole 1) open_flags
          ∷ holds (Index 1) (whole 2) open_flags ∷ [];
    } ∷ []) (codes "length" ∷ codes "abc" ∷ []) 5 []

abbrev pub KeysOfText : Type 0
KeysOfText =
    answers (Keys (at 0)) lettered
    (Normal (reply.Keys (Index 0 ∷ Index 1 ∷ Index 2 ∷ Index 7 ∷ text 0 ∷ symbol 0 ∷ []))) lettered 0

-- ---- [[DefineOwnProperty]] (10.1.6.3): what stays of enumerable and configurable

abbrev pub getter_with : (enumerable configurable : Bool) → OwnProperty
getter_with e c = record { key = text 0; complete = complete.Accessor (Some (at 2)) None e c }

abbrev pub hidden_one : OwnProperty
hidden_one = holds (text 0) (whole 7) hidden_flags

-- Step 6.a: the hidden property becomes an accessor that is not enumerable.
abbrev pub GetterOverHidden : Type 0
GetterOverHidden =
    answers (Define (at 0) (text 0) (with_getter (object 2))) (pair_with (hidden_one ∷ []) []) (says true)
    (pair_with (getter_with false true ∷ []) (Redefined (at 0) (text 0) (OfFunctions false true) ∷ [])) 0

-- Step 6.b: the accessor that is not enumerable becomes a property that is neither writable nor enumerable.
abbrev pub configurable_only : Attributes
configurable_only = record { writable = false; enumerable = false; configurable = true }

abbrev pub ValueOverHidden : Type 0
ValueOverHidden =
    answers (Define (at 0) (text 0) (with_value (whole 8))) (pair_with (getter_with false true ∷ []) []) (says true)
    (pair_with (holds (text 0) (whole 8) configurable_only ∷ []) (Redefined (at 0) (text 0) (OfValue IsSmall configurable_only) ∷ [])) 0

-- Step 6.c: the same getter with another configurable is an accessor redefined, and another getter alone is functions given.
abbrev pub getter_fixed : Descriptor
getter_fixed = record (with_getter (object 2)) { configurable = Some false }

abbrev pub AccessorIsFixed : Type 0
AccessorIsFixed =
    answers (Define (at 0) (text 0) getter_fixed) (pair_with (getter_with true true ∷ []) []) (says true)
    (pair_with (getter_with true false ∷ []) (Redefined (at 0) (text 0) (OfFunctions true false) ∷ [])) 0

abbrev pub AccessorIsGiven : Type 0
AccessorIsGiven =
    answers (Define (at 0) (text 0) (with_getter (object 1))) (pair_with (getter_with false true ∷ []) []) (says true)
    (pair_with (record { key = text 0; complete = complete.Accessor (Some (at 1)) None false true } ∷ [])
    (GivenFunctions (at 0) (text 0) (OfFunctions false true) ∷ [])) 0

-- ---- accesses: object 1 is an Array, and its prototype is object 0

abbrev pub length_flags : Attributes
length_flags = record { writable = true; enumerable = false; configurable = false }

abbrev pub listed : List OwnProperty → ℕ → List Event → World
listed more turns trace =
    world (plain None (holds (text 0) (whole 7) open_flags ∷ [])
    ∷ record { kind = kind_of.Array; proto = Some (at 0); extensible = true; properties = holds (text 1) (whole 0) length_flags ∷ more }
    ∷ []) [] turns trace

abbrev pub fourth_site : SiteId
fourth_site = record { 0 = 4 }

-- A read is told as one of an Array, with its walk to the property. Step 2.c is a turn and a request.
abbrev pub ReadOfArray : Type 0
ReadOfArray =
    answers (Read (at 1) (text 0) (object 1) site) (listed [] 5 []) (gives (whole 7))
    (listed [] 4 (
    Accessed fourth_site Reads (at 1) true (text 0) (record { links = at 0 ∷ []; ending = AtProperty (complete.Stored (whole 7) open_flags) }) ∷ [])) 1

-- A write is told with the class of its value, before the property is asked for. Step 1.b is a turn and a request, steps 2.c and 2.e are a request each.
-- The last one is [[DefineOwnProperty]] of an Array, which is not written yet: it throws undefined.
abbrev pub WriteOfArray : Type 0
WriteOfArray =
    answers (Write (at 1) (text 2) (object 0) (object 1) site) (listed [] 5 []) (Throw value.Undefined)
    (listed [] 4 (
    Accessed fourth_site (Writes IsReference) (at 1) true (text 2) (record { links = at 0 ∷ []; ending = AtNull }) ∷ [])) 3

-- The walk of a read up to a Proxy ends there. Step 2.c is a turn and a request, and the method of the Proxy is entered for another turn.
abbrev pub ReadMeetsProxy : Type 0
ReadMeetsProxy =
    answers (Read (at 4) (text 0) (object 4) site) (family 5) (Throw value.Undefined)
    (world (family_under None (Some (at 0))) [] 3 (
    Accessed fourth_site Reads (at 4) false (text 0) (record { links = at 3 ∷ []; ending = AtProxy }) ∷ [])) 1

-- An access of a Proxy itself does not count.
abbrev pub ReadOfProxy : Type 0
ReadOfProxy = answers (Read (at 3) (text 0) (object 3) site) (family 5) (Throw value.Undefined) (family 4) 0

-- A Symbol counts as a text does. Twice step 2.c, and step 2.b gives undefined.
abbrev pub ReadBySymbol : Type 0
ReadBySymbol =
    answers (Read (at 3) (symbol 0) (object 3) site) (chain_with 5) (gives value.Undefined)
    (world chain [] 3 (
    Accessed fourth_site Reads (at 3) false (symbol 0) (record { links = at 1 ∷ at 0 ∷ []; ending = AtNull }) ∷ [])) 2

-- ---- a line: its texts in UTF-8 with a space between two, and a line feed; the answer is undefined, for no turn

-- `a`, a surrogate without a partner, and U+1F600 in its two code units
abbrev pub lined : List ℕ → World
lined printed =
    record (world [] (codes "a" ∷ (0xD800 ∷ []) ∷ (0xD83D ∷ 0xDE00 ∷ []) ∷ []) 5 []) { printed = printed }

abbrev pub said : ℕ → Value
said n = value.Text (record { 0 = n })

abbrev pub LineHasTexts : Type 0
LineHasTexts = answers (Print (said 0 ∷ said 1 ∷ [])) (lined []) (gives value.Undefined) (lined (97 ∷ 32 ∷ 239 ∷ 191 ∷ 189 ∷ 10 ∷ [])) 0

abbrev pub LineIsEmpty : Type 0
LineIsEmpty = answers (Print []) (lined []) (gives value.Undefined) (lined (10 ∷ [])) 0

-- It stands behind the lines that are there.
abbrev pub LineIsLast : Type 0
LineIsLast = answers (Print (said 2 ∷ [])) (lined (97 ∷ 10 ∷ [])) (gives value.Undefined) (lined (97 ∷ 10 ∷ 240 ∷ 159 ∷ 152 ∷ 128 ∷ 10 ∷ [])) 0
