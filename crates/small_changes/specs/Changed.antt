-- Worked examples of the changes: the whole world after each, worked out by hand from the sections of ECMA-262 that are named and from what events tell.
use Rattle.std.specs.Prelude.{◌≡◌, ℕ, true, false, Option, Some, None, List, [], ◌∷◌, ◌++◌, map, codes}
use Rattle.property_keys.specs.declared.identifiers.ObjectId.{ObjectId}
use Rattle.property_keys.specs.declared.identifiers.TextId.{TextId}
use Rattle.property_keys.specs.declared.keys.PropKey.TheVariants.{Index}
use Rattle.property_keys.specs.declared.values.Value.{Value}
use Rattle.property_keys.specs.declared.values.Value.TheVariants as value
use Rattle.descriptors.specs.declared.property.Complete.TheVariants as complete
use Rattle.es_model.specs.declared.kinds.CellNo.{CellNo}
use Rattle.es_model.specs.declared.kinds.ObjectKind.TheVariants as kind_of
use Rattle.es_model.specs.declared.owned.OwnProperty.{OwnProperty}
use Rattle.es_model.specs.Changes.{Change, Defining, Storing, Deleting, SettingProto, Preventing, Making, Revoking, Unmapping, Interning}
use Rattle.es_model.specs.Changes.{MakingSymbol, MakingCell, SettingCell, Constructing, changed}
use Rattle.es_model.specs.Events.{Event, OfPlain, OfFunction, Made, MadePrototype, Stored, Deleted, ProtoSet, Closed, Constructed, IndexPut, OfValue}
use Rattle.es_model.specs.Events.{IsSmall, IsOther}
use Rattle.es_model.specs.Objects.{Object}
use Rattle.es_model.specs.OwnKeys.{own_keys}
use Rattle.es_model.specs.World.{World, cell, description, extensible, number_of, own}
use Rattle.small_changes.specs.Worlds.{a_function, a_proxy, at, fixed_flags, has, hidden_flags, holds, of_kind, open_flags, plain, symbol, text}
use Rattle.small_changes.specs.Worlds.{wants_value, whole, world}

-- ---- the world: object 0 has an open property, a hidden one, a getter and a fixed one; 1 is a function, 2 a Proxy, 3 an arguments object that shares both
-- ---- cells, and 4 has the prototype 0 and takes no new property

abbrev pub first_one : OwnProperty
first_one = holds (text 0) (whole 7) open_flags

abbrev pub hidden_one : ℕ → OwnProperty
hidden_one n = holds (text 1) (whole n) hidden_flags

abbrev pub getter_one : OwnProperty
getter_one = has (text 2) (complete.Accessor (Some (at 1)) None true true)

abbrev pub fixed_one : OwnProperty
fixed_one = holds (text 3) (whole 9) fixed_flags

abbrev pub first_ones : List OwnProperty
first_ones = first_one ∷ hidden_one 8 ∷ getter_one ∷ fixed_one ∷ []

abbrev pub sharing : Option CellNo → Option CellNo → Object
sharing zeroth first = of_kind (kind_of.Arguments (zeroth ∷ first ∷ [])) None []

abbrev pub cell_at : ℕ → Option CellNo
cell_at n = Some (record { 0 = n })

abbrev pub shut_under : Option ObjectId → Object
shut_under up = record (plain up []) { extensible = false }

abbrev pub before : World
before = world (plain None first_ones ∷ a_function ∷ a_proxy ∷ sharing (cell_at 0) (cell_at 1) ∷ shut_under (Some (at 0)) ∷ [])

-- a change leads from there to this world
abbrev pub LeadsTo : Change → World → Type 0
LeadsTo c after = changed c before ≡ after

-- ---- what differs afterwards, and the trace

abbrev pub with_objects : List Object → List Event → World
with_objects objects trace = record (world objects) { trace = trace }

-- other properties of object 0
abbrev pub with_first : List OwnProperty → List Event → World
with_first ps trace = with_objects (plain None ps ∷ a_function ∷ a_proxy ∷ sharing (cell_at 0) (cell_at 1) ∷ shut_under (Some (at 0)) ∷ []) trace

-- an object more
abbrev pub with_new : Object → List Event → World
with_new x trace = with_objects (before.lists.objects ++ x ∷ []) trace

abbrev pub with_texts : List (List ℕ) → World
with_texts texts = record before { lists = record before.lists { texts = texts } }

abbrev pub with_symbols : List (Option TextId) → World
with_symbols symbols = record before { lists = record before.lists { symbols = symbols } }

abbrev pub with_cells : List (Option Value) → World
with_cells cells = record before { lists = record before.lists { cells = cells } }

-- ---- another value in a stored property (10.1.6.3, step 6.c, with [[Value]] alone)

-- The hidden property stays hidden, in its place, and the others stay.
abbrev pub StoreKeepsFlags : Type 0
StoreKeepsFlags =
    LeadsTo (Storing (at 0) (text 1) (whole 4))
    (with_first (first_one ∷ hidden_one 4 ∷ getter_one ∷ fixed_one ∷ []) (Stored (at 0) (text 1) (OfValue IsSmall hidden_flags) ∷ []))

-- The change itself asks for no flag. Whether the property is writable was asked before (10.1.9.2, step 2.a).
abbrev pub StoreInFixed : Type 0
StoreInFixed =
    LeadsTo (Storing (at 0) (text 3) value.Null)
    (with_first
    (first_one ∷ hidden_one 8 ∷ getter_one ∷ holds (text 3) value.Null fixed_flags ∷ [])
    (Stored (at 0) (text 3) (OfValue IsOther fixed_flags) ∷ []))

-- the same value changes nothing, and nothing is stored in a getter, under a key that is not there, or where no object is
abbrev pub StoreSame : Type 0
StoreSame = LeadsTo (Storing (at 0) (text 1) (whole 8)) before

abbrev pub StoreInGetter : Type 0
StoreInGetter = LeadsTo (Storing (at 0) (text 2) (whole 4)) before

abbrev pub StoreAbsent : Type 0
StoreAbsent = LeadsTo (Storing (at 1) (text 1) (whole 4)) before

abbrev pub StoreNowhere : Type 0
StoreNowhere = LeadsTo (Storing (at 5) (text 1) (whole 4)) before

-- ---- a property taken out (10.1.10.1, step 3): the others keep their order

abbrev pub DeleteHidden : Type 0
DeleteHidden =
    LeadsTo (Deleting (at 0) (text 1)) (with_first (first_one ∷ getter_one ∷ fixed_one ∷ []) (Deleted (at 0) (text 1) ∷ []))

-- a property that is not configurable stays, and an absent one is no event
abbrev pub DeleteFixed : Type 0
DeleteFixed = LeadsTo (Deleting (at 0) (text 3)) before

abbrev pub DeleteAbsent : Type 0
DeleteAbsent = LeadsTo (Deleting (at 1) (text 3)) before

-- ---- a property defined (10.1.6.3): step 2 adds it last, and a refusal changes nothing

abbrev pub DefineAdds : Type 0
DefineAdds =
    LeadsTo (Defining (at 0) (Index 6) (wants_value (whole 4)))
    (with_first (first_ones ++ holds (Index 6) (whole 4) fixed_flags ∷ []) (IndexPut (at 0) 6 IsSmall false ∷ []))

abbrev pub DefineOnShut : Type 0
DefineOnShut = LeadsTo (Defining (at 4) (text 0) (wants_value (whole 4))) before

abbrev pub DefineRefused : Type 0
DefineRefused = LeadsTo (Defining (at 0) (text 3) (wants_value (whole 4))) before

-- ---- the prototype (10.1.2.1, step 8) and extensions (10.1.4.1, step 1)

abbrev pub ProtoIsSet : Type 0
ProtoIsSet =
    LeadsTo (SettingProto (at 3) (Some (at 0)))
    (with_objects (
    plain None first_ones ∷ a_function ∷ a_proxy
    ∷ (record (sharing (cell_at 0) (cell_at 1)) { proto = Some (at 0) })
    ∷ shut_under (Some (at 0)) ∷ [])
    (ProtoSet (at 3) (Some (at 0)) ∷ []))

-- the same prototype is no event, and a Proxy has none
abbrev pub ProtoSame : Type 0
ProtoSame = LeadsTo (SettingProto (at 4) (Some (at 0))) before

abbrev pub ProtoOfProxy : Type 0
ProtoOfProxy = LeadsTo (SettingProto (at 2) (Some (at 0))) before

abbrev pub PreventOpen : Type 0
PreventOpen =
    LeadsTo (Preventing (at 3))
    (with_objects (
    plain None first_ones ∷ a_function ∷ a_proxy
    ∷ (record (sharing (cell_at 0) (cell_at 1)) { extensible = false })
    ∷ shut_under (Some (at 0)) ∷ [])
    (Closed (at 3) ∷ []))

abbrev pub PreventShut : Type 0
PreventShut = LeadsTo (Preventing (at 4)) before

-- ---- objects (10.1.12, 10.5.14): a new one stands last, extensible and without properties

-- its prototype is told of first
abbrev pub MakeUnder : Type 0
MakeUnder =
    LeadsTo (Making kind_of.Ordinary OfPlain (Some (at 4)))
    (with_new (plain (Some (at 4)) []) (MadePrototype (at 4) ∷ Made (at 5) OfPlain (Some (at 4)) ∷ []))

abbrev pub MakeUnderNull : Type 0
MakeUnderNull =
    LeadsTo (Making (kind_of.Function (record { 0 = 0 }) false true) OfFunction None)
    (with_new a_function (Made (at 5) OfFunction None ∷ []))

-- a Proxy has no shape, neither as a prototype nor where it is made, and no prototype of its own
abbrev pub MakeUnderProxy : Type 0
MakeUnderProxy =
    LeadsTo (Making kind_of.Ordinary OfPlain (Some (at 2))) (with_new (plain (Some (at 2)) []) (Made (at 5) OfPlain (Some (at 2)) ∷ []))

abbrev pub MakeProxy : Type 0
MakeProxy = LeadsTo (Making (kind_of.Proxy (Some (at 0)) (Some (at 1)) true false) OfPlain (Some (at 4))) (with_new a_proxy [])

-- ---- revoking (28.2.2.1, step 2): target and handler are gone, and that it may be called stays. It is no event

abbrev pub RevokeProxy : Type 0
RevokeProxy =
    LeadsTo (Revoking (at 2))
    (with_objects (
    plain None first_ones ∷ a_function
    ∷ (record a_proxy { kind = kind_of.Proxy None None true false })
    ∷ sharing (cell_at 0) (cell_at 1) ∷ shut_under (Some (at 0)) ∷ []) [])

abbrev pub RevokeOther : Type 0
RevokeOther = LeadsTo (Revoking (at 1)) before

-- ---- unmapping (10.4.4.2, step 6; 10.4.4.5, step 4): this index shares no cell any more, and the other one does. It is no event

abbrev pub UnmapIndex : Type 0
UnmapIndex =
    LeadsTo (Unmapping (at 3) 0)
    (with_objects (plain None first_ones ∷ a_function ∷ a_proxy ∷ sharing None (cell_at 1) ∷ shut_under (Some (at 0)) ∷ []) [])

-- there is no such index, and object 0 shares none
abbrev pub UnmapAbsent : Type 0
UnmapAbsent = LeadsTo (Unmapping (at 3) 2) before

abbrev pub UnmapOther : Type 0
UnmapOther = LeadsTo (Unmapping (at 0) 0) before

-- ---- texts, Symbols (20.4.1.1, step 4) and cells (9.1.1.1): what is new stands last

abbrev pub InternNew : Type 0
InternNew = LeadsTo (Interning (codes "e")) (with_texts (codes "a" ∷ codes "b" ∷ codes "c" ∷ codes "dog" ∷ codes "e" ∷ []))

abbrev pub InternKnown : Type 0
InternKnown = LeadsTo (Interning (codes "c")) before

abbrev pub SymbolIsMade : Type 0
SymbolIsMade = LeadsTo (MakingSymbol (Some (record { 0 = 3 }))) (with_symbols (None ∷ Some (record { 0 = 3 }) ∷ []))

-- the same description again is another Symbol, and so is none again
abbrev pub SymbolsAreTwo : Type 0
SymbolsAreTwo =
    changed (MakingSymbol None) (changed (MakingSymbol (Some (record { 0 = 3 }))) (with_symbols (None ∷ Some (record { 0 = 3 }) ∷ [])))
    ≡ with_symbols (None ∷ Some (record { 0 = 3 }) ∷ Some (record { 0 = 3 }) ∷ None ∷ [])

abbrev pub CellIsMade : Type 0
CellIsMade = LeadsTo (MakingCell (Some (whole 4))) (with_cells (Some (whole 5) ∷ None ∷ Some (whole 4) ∷ []))

abbrev pub EmptyCellIsMade : Type 0
EmptyCellIsMade = LeadsTo (MakingCell None) (with_cells (Some (whole 5) ∷ None ∷ None ∷ []))

-- an empty cell and one with a value; there is no cell 2
abbrev pub EmptyCellIsSet : Type 0
EmptyCellIsSet = LeadsTo (SettingCell (record { 0 = 1 }) (whole 4)) (with_cells (Some (whole 5) ∷ Some (whole 4) ∷ []))

abbrev pub CellIsSet : Type 0
CellIsSet = LeadsTo (SettingCell (record { 0 = 0 }) value.Undefined) (with_cells (Some value.Undefined ∷ None ∷ []))

abbrev pub NoCellIsSet : Type 0
NoCellIsSet = LeadsTo (SettingCell (record { 0 = 2 }) (whole 4)) before

-- ---- an event alone

abbrev pub ConstructionIsTold : Type 0
ConstructionIsTold = LeadsTo (Constructing (record { 0 = 3 })) (record before { trace = Constructed (record { 0 = 3 }) ∷ [] })

-- ---- what is read

-- a cell with a value, an empty one, and none
abbrev pub CellsAreRead : Type 0
CellsAreRead = map (λ (n : ℕ). cell before.lists (record { 0 = n })) (0 ∷ 1 ∷ 2 ∷ []) ≡ Some (whole 5) ∷ None ∷ None ∷ []

-- a Symbol without a description, one with a description, and none
abbrev pub DescriptionsAreRead : Type 0
DescriptionsAreRead =
    map (λ (n : ℕ). description (with_symbols (None ∷ Some (record { 0 = 3 }) ∷ [])).lists (record { 0 = n })) (0 ∷ 1 ∷ 2 ∷ [])
    ≡ None ∷ Some (record { 0 = 3 }) ∷ None ∷ []

-- a text that is known has its place, and a new one gets the next
abbrev pub TextsHaveNumbers : Type 0
TextsHaveNumbers = map (λ (t : List ℕ). (number_of before.lists t).0) (codes "c" ∷ codes "e" ∷ []) ≡ 2 ∷ 4 ∷ []

-- where no object is stands one that is closed
abbrev pub NowhereIsShut : Type 0
NowhereIsShut = map (λ (n : ℕ). extensible before.lists (at n)) (0 ∷ 2 ∷ 4 ∷ 5 ∷ []) ≡ true ∷ false ∷ false ∷ false ∷ []

abbrev pub NowhereHasNone : Type 0
NowhereHasNone =
    map (λ (n : ℕ). own before.lists (at n) (text 1)) (0 ∷ 1 ∷ 5 ∷ []) ≡ Some (complete.Stored (whole 8) hidden_flags) ∷ None ∷ None ∷ []

-- The own keys of a String object (10.4.3.3): the indices of its code units, here the three of text 3, each once, then other indices, texts and Symbols.
abbrev pub TextHasKeys : Type 0
TextHasKeys =
    own_keys (world (of_kind (kind_of.Text (record { 0 = 3 })) None (
    holds (symbol 0) value.Null open_flags
    ∷ holds (text 1) value.Null fixed_flags
    ∷ holds (Index 7) value.Null open_flags
    ∷ holds (Index 1) value.Null open_flags ∷ []) ∷ [])).lists (at 0)
    ≡ Index 0 ∷ Index 1 ∷ Index 2 ∷ Index 7 ∷ text 1 ∷ symbol 0 ∷ []
