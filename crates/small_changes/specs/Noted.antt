-- Worked examples of events: the class of a value, what a change of a property is told as, and what a site tells of an access. Worked out by hand: a number is
-- small from -2^31 to 2^31 - 1; other flags or another kind are told as redefined, and another value or other functions alone are not.
use Rattle.std.specs.Prelude.{◌≡◌, ℕ, true, false, Some, None, List, [], ◌∷◌, negsuc}
use Rattle.property_keys.specs.declared.identifiers.ObjectId.{ObjectId}
use Rattle.property_keys.specs.declared.keys.PropKey.{PropKey}
use Rattle.property_keys.specs.declared.keys.PropKey.TheVariants.{Index}
use Rattle.property_keys.specs.declared.values.Value.TheVariants as value
use Rattle.descriptors.specs.declared.fields.Descriptor.{Descriptor}
use Rattle.descriptors.specs.declared.property.Complete.TheVariants as complete
use Rattle.es_tree.specs.declared.numbers.SiteId.{SiteId}
use Rattle.es_model.specs.declared.kinds.ObjectKind.TheVariants as kind_of
use Rattle.es_model.specs.declared.owned.OwnProperty.{OwnProperty}
use Rattle.es_model.specs.Changes.{Change, Defining, Deleting, Accessing, changed}
use Rattle.es_model.specs.Events.{IsSmall, IsNumber, IsReference, IsOther, OfValue, OfFunctions, class_of, Way, Reads, Writes}
use Rattle.es_model.specs.Events.{Event, Added, Stored, GivenFunctions, Redefined, Deleted, IndexPut, IndexRemoved, Accessed}
use Rattle.es_model.specs.Events.{Walk, WalkEnd, AtProperty, AtNull, AtProxy}
use Rattle.es_model.specs.Objects.{Object}
use Rattle.small_changes.specs.Worlds.{a_function, a_proxy, at, fixed_flags, has, holds, object, of_kind, open_flags, plain, symbol, text, whole}
use Rattle.small_changes.specs.Worlds.{with_flags, world}
use Rattle.small_changes.specs.Worlds.{wants_configurable, wants_enumerable, wants_get, wants_set, wants_value, wants_writable}

-- ---- the class of a value

-- 2^31 - 1 and 2^31
abbrev pub GreatestSmall : Type 0
GreatestSmall = class_of (whole 2147483647) ≡ IsSmall

abbrev pub AboveSmall : Type 0
AboveSmall = class_of (whole 2147483648) ≡ IsNumber

-- -2^31 and one below: `negsuc n` is -(n + 1)
abbrev pub LeastSmall : Type 0
LeastSmall = class_of (value.Whole (negsuc 2147483647)) ≡ IsSmall

abbrev pub BelowSmall : Type 0
BelowSmall = class_of (value.Whole (negsuc 2147483648)) ≡ IsNumber

-- 2^53 - 1
abbrev pub GreatestNumber : Type 0
GreatestNumber = class_of (whole 9007199254740991) ≡ IsNumber

abbrev pub ObjectIsReference : Type 0
ObjectIsReference = class_of (object 0) ≡ IsReference

-- ---- a change of a property. It is the one property of object 0, and 1 and 2 are functions

abbrev pub told : OwnProperty → Change → List Event
told p c = (changed c (world (plain None (p ∷ []) ∷ a_function ∷ a_function ∷ []))).trace

abbrev pub told_of : OwnProperty → Descriptor → List Event
told_of p wanted = told p (Defining (at 0) p.key wanted)

abbrev pub seven : OwnProperty
seven = holds (text 0) (whole 7) open_flags

abbrev pub gets : PropKey → OwnProperty
gets k = has k (complete.Accessor (Some (at 1)) None true true)

-- another value alone is told with its own class: that of 8, of null, of an object and of 2^31
abbrev pub ValueAlone : Type 0
ValueAlone = told_of seven (wants_value (whole 8)) ≡ Stored (at 0) (text 0) (OfValue IsSmall open_flags) ∷ []

abbrev pub NullAlone : Type 0
NullAlone = told_of seven (wants_value value.Null) ≡ Stored (at 0) (text 0) (OfValue IsOther open_flags) ∷ []

abbrev pub ObjectAlone : Type 0
ObjectAlone = told_of seven (wants_value (object 1)) ≡ Stored (at 0) (text 0) (OfValue IsReference open_flags) ∷ []

abbrev pub NumberAlone : Type 0
NumberAlone = told_of seven (wants_value (whole 2147483648)) ≡ Stored (at 0) (text 0) (OfValue IsNumber open_flags) ∷ []

-- each flag alone redefines
abbrev pub WritableAlone : Type 0
WritableAlone = told_of seven (wants_writable false) ≡ Redefined (at 0) (text 0) (OfValue IsSmall (with_flags false true true)) ∷ []

abbrev pub EnumerableAlone : Type 0
EnumerableAlone = told_of seven (wants_enumerable false) ≡ Redefined (at 0) (text 0) (OfValue IsSmall (with_flags true false true)) ∷ []

abbrev pub ConfigurableAlone : Type 0
ConfigurableAlone = told_of seven (wants_configurable false) ≡ Redefined (at 0) (text 0) (OfValue IsSmall (with_flags true true false)) ∷ []

-- a flag together with a value is told once
abbrev pub ValueWithFlag : Type 0
ValueWithFlag =
    told_of seven (record (wants_value value.Null) { enumerable = Some false })
    ≡ Redefined (at 0) (text 0) (OfValue IsOther (with_flags true false true)) ∷ []

-- what stays the same is told of nothing
abbrev pub SameValue : Type 0
SameValue = told_of seven (wants_value (whole 7)) ≡ []

-- another kind, both ways
abbrev pub ValueBecomesGetter : Type 0
ValueBecomesGetter = told_of seven (wants_get (object 1)) ≡ Redefined (at 0) (text 0) (OfFunctions true true) ∷ []

abbrev pub GetterBecomesValue : Type 0
GetterBecomesValue = told_of (gets (text 0)) (wants_value (whole 8)) ≡ Redefined (at 0) (text 0) (OfValue IsSmall (with_flags false true true)) ∷ []

-- accessor functions alone: another getter, a setter, no getter any more
abbrev pub GetterAlone : Type 0
GetterAlone = told_of (gets (text 0)) (wants_get (object 2)) ≡ GivenFunctions (at 0) (text 0) (OfFunctions true true) ∷ []

abbrev pub SetterAlone : Type 0
SetterAlone = told_of (gets (text 0)) (wants_set (object 2)) ≡ GivenFunctions (at 0) (text 0) (OfFunctions true true) ∷ []

abbrev pub NoGetterAlone : Type 0
NoGetterAlone = told_of (gets (text 0)) (wants_get value.Undefined) ≡ GivenFunctions (at 0) (text 0) (OfFunctions true true) ∷ []

-- each flag of an accessor alone redefines, and so does one together with a function
abbrev pub AccessorEnumerableAlone : Type 0
AccessorEnumerableAlone = told_of (gets (text 0)) (wants_enumerable false) ≡ Redefined (at 0) (text 0) (OfFunctions false true) ∷ []

abbrev pub AccessorConfigurableAlone : Type 0
AccessorConfigurableAlone = told_of (gets (text 0)) (wants_configurable false) ≡ Redefined (at 0) (text 0) (OfFunctions true false) ∷ []

abbrev pub GetterWithFlag : Type 0
GetterWithFlag =
    told_of (gets (text 0)) (record (wants_get (object 2)) { configurable = Some false }) ≡ Redefined (at 0) (text 0) (OfFunctions true false) ∷ []

-- a new property, stored and accessor
abbrev pub ValueIsAdded : Type 0
ValueIsAdded = told seven (Defining (at 0) (text 1) (wants_value (object 1))) ≡ Added (at 0) (text 1) (OfValue IsReference fixed_flags) ∷ []

abbrev pub GetterIsAdded : Type 0
GetterIsAdded =
    told seven (Defining (at 0) (text 1) (record (wants_get (object 1)) { enumerable = Some true })) ≡ Added (at 0) (text 1) (OfFunctions true false) ∷ []

abbrev pub TextIsDeleted : Type 0
TextIsDeleted = told seven (Deleting (at 0) (text 0)) ≡ Deleted (at 0) (text 0) ∷ []

-- a Symbol has the events of a text
abbrev pub SymbolIsAdded : Type 0
SymbolIsAdded = told seven (Defining (at 0) (symbol 0) (wants_value (whole 8))) ≡ Added (at 0) (symbol 0) (OfValue IsSmall fixed_flags) ∷ []

abbrev pub SymbolIsStored : Type 0
SymbolIsStored =
    told_of (holds (symbol 0) (whole 7) open_flags) (wants_value (whole 8)) ≡ Stored (at 0) (symbol 0) (OfValue IsSmall open_flags) ∷ []

abbrev pub SymbolIsGivenFunctions : Type 0
SymbolIsGivenFunctions = told_of (gets (symbol 0)) (wants_get (object 2)) ≡ GivenFunctions (at 0) (symbol 0) (OfFunctions true true) ∷ []

abbrev pub SymbolIsDeleted : Type 0
SymbolIsDeleted = told (gets (symbol 0)) (Deleting (at 0) (symbol 0)) ≡ Deleted (at 0) (symbol 0) ∷ []

-- ---- an index is put with the class of its value, and whether it is stored with three true flags

abbrev pub eighth : OwnProperty
eighth = holds (Index 8) (whole 7) open_flags

abbrev pub IndexIsPut : Type 0
IndexIsPut = told_of eighth (wants_value (object 1)) ≡ IndexPut (at 0) 8 IsReference true ∷ []

abbrev pub IndexNotWritable : Type 0
IndexNotWritable = told_of eighth (wants_writable false) ≡ IndexPut (at 0) 8 IsSmall false ∷ []

abbrev pub IndexNotEnumerable : Type 0
IndexNotEnumerable = told_of eighth (wants_enumerable false) ≡ IndexPut (at 0) 8 IsSmall false ∷ []

abbrev pub IndexNotConfigurable : Type 0
IndexNotConfigurable = told_of eighth (wants_configurable false) ≡ IndexPut (at 0) 8 IsSmall false ∷ []

abbrev pub IndexGetter : Type 0
IndexGetter = told_of eighth (wants_get (object 1)) ≡ IndexPut (at 0) 8 IsOther false ∷ []

abbrev pub IndexIsRemoved : Type 0
IndexIsRemoved = told eighth (Deleting (at 0) (Index 8)) ≡ IndexRemoved (at 0) 8 ∷ []

-- ---- an access at a site: whether the object is an Array, and the walk up the prototypes. Object 0 has one property; 1 is an Array with the prototype 0, and
-- ---- 2 an object above it; 3 is a Proxy of 0, 4 has the prototype 3 and a property, and 5 has the prototype 4

abbrev pub relatives : List Object
relatives =
    plain None (seven ∷ [])
    ∷ of_kind kind_of.Array (Some (at 0)) []
    ∷ plain (Some (at 1)) []
    ∷ a_proxy
    ∷ plain (Some (at 3)) (holds (text 1) value.Null fixed_flags ∷ [])
    ∷ plain (Some (at 4)) []
    ∷ []

abbrev pub fourth_site : SiteId
fourth_site = record { 0 = 4 }

abbrev pub accessed : Way → ℕ → PropKey → List Event
accessed way n k = (changed (Accessing fourth_site way (at n) k) (world relatives)).trace

abbrev pub along : List ObjectId → WalkEnd → Walk
along links ending = record { links = links; ending = ending }

abbrev pub at_seven : WalkEnd
at_seven = AtProperty (complete.Stored (whole 7) open_flags)

-- the property is on the object itself, one above it, and two above it
abbrev pub OwnIsAccessed : Type 0
OwnIsAccessed = accessed Reads 0 (text 0) ≡ Accessed fourth_site Reads (at 0) false (text 0) (along [] at_seven) ∷ []

abbrev pub ArrayIsAccessed : Type 0
ArrayIsAccessed = accessed Reads 1 (text 0) ≡ Accessed fourth_site Reads (at 1) true (text 0) (along (at 0 ∷ []) at_seven) ∷ []

-- the object is no Array, though one stands above it
abbrev pub UnderArray : Type 0
UnderArray = accessed Reads 2 (text 0) ≡ Accessed fourth_site Reads (at 2) false (text 0) (along (at 1 ∷ at 0 ∷ []) at_seven) ∷ []

-- no object of the chain has the property
abbrev pub NullIsReached : Type 0
NullIsReached = accessed Reads 2 (text 1) ≡ Accessed fourth_site Reads (at 2) false (text 1) (along (at 1 ∷ at 0 ∷ []) AtNull) ∷ []

-- a Proxy is the last of the links, whatever its target has, and a property in front of it is found
abbrev pub ProxyIsMet : Type 0
ProxyIsMet = accessed Reads 5 (text 0) ≡ Accessed fourth_site Reads (at 5) false (text 0) (along (at 4 ∷ at 3 ∷ []) AtProxy) ∷ []

abbrev pub FoundBeforeProxy : Type 0
FoundBeforeProxy =
    accessed Reads 5 (text 1) ≡ Accessed fourth_site Reads (at 5) false (text 1) (along (at 4 ∷ []) (AtProperty (complete.Stored value.Null fixed_flags))) ∷ []

-- a write is told with the class of its value
abbrev pub ArrayIsWritten : Type 0
ArrayIsWritten =
    accessed (Writes IsNumber) 1 (text 1) ≡ Accessed fourth_site (Writes IsNumber) (at 1) true (text 1) (along (at 0 ∷ []) AtNull) ∷ []
