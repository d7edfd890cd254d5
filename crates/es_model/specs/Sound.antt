-- Sound worlds.
use Rattle.property_keys.specs.Limits.{most_units}
use Rattle.std.specs.Prelude.{◌-◌, ◌^◌, ◌≡◌, ◌≢◌, ◌<◌, ◌≤◌, ⊤, IsTrue, IsFalse, ℕ, zero, suc, pos, Bool, true, false, if◌then◌else◌}
use Rattle.std.specs.Prelude.{Option, Some, None, List, [], ◌∷◌, length, slice_get, option_and_then}
use Rattle.std.specs.List.{AllByRecursion}
use Rattle.property_keys.specs.declared.identifiers.ObjectId.{ObjectId}
use Rattle.property_keys.specs.declared.keys.PropKey.{PropKey}
use Rattle.property_keys.specs.declared.keys.PropKey.TheVariants.{Name}
use Rattle.property_keys.specs.declared.values.Value.{Value}
use Rattle.property_keys.specs.declared.values.Value.TheVariants as value
use Rattle.property_keys.specs.Texts.{HasOneEach}
use Rattle.descriptors.specs.declared.property.Complete.{Complete}
use Rattle.descriptors.specs.declared.property.Complete.TheVariants as complete
use Rattle.es_tree.specs.declared.facts.FunctionFacts.{FunctionFacts}
use Rattle.es_model.specs.declared.kinds.ObjectKind.{ObjectKind}
use Rattle.es_model.specs.declared.kinds.ObjectKind.TheVariants as kind_of
use Rattle.es_model.specs.declared.owned.OwnProperty.{OwnProperty}
use Rattle.es_model.specs.declared.intrinsics.Intrinsic.{Intrinsic}
use Rattle.es_model.specs.declared.start_texts.StartText.TheVariants as start_text
use Rattle.es_model.specs.StartObjects.{object_of}
use Rattle.es_model.specs.StartTexts.{units_of_start}
use Rattle.es_model.specs.StartTable.{start_kind}
use Rattle.es_model.specs.Builtins.{BuiltinFacts, builtin_facts}
use Rattle.es_tree.specs.Tree.{Tree, top_names}
use Rattle.es_model.specs.Objects.{Object, object_at, is_array, is_proxy, same_key}
use Rattle.es_model.specs.World.{Lists, World, own, proto, kind, number_of}
use Rattle.es_model.specs.Grows.{fixed_kind}
use Rattle.es_model.specs.Known.{IsObject, IsText, IsCell, IfThere, IsKnown, IsKnownProperty}

-- ---- what an object names is there

-- what the inner slots name is there
abbrev pub IsKnownKind : Lists → ObjectKind → Type 0
IsKnownKind l (kind_of.Builtin row constructor proxy) = IfThere (IsObject l) proxy
IsKnownKind l (kind_of.Text t) = IsText l t
IsKnownKind l (kind_of.Wrapper v) = IsKnown l v
IsKnownKind l (kind_of.Arguments cells) = AllByRecursion (IfThere (IsCell l)) cells
IsKnownKind l (kind_of.Proxy target handler callable constructor) = IfThere (IsObject l) target × IfThere (IsObject l) handler
IsKnownKind l other = ⊤

-- no two properties have one key
abbrev pub AreDistinct : List OwnProperty → Type 0
AreDistinct [] = ⊤
AreDistinct (p ∷ ps) = AllByRecursion (λ (q : OwnProperty). same_key p.key q.key ≡ false) ps × AreDistinct ps

-- all that an object names is there, and its keys differ
pub record IsIntactObject (l : Lists) (x : Object) : Type 0 where
  pub slots : IsKnownKind l x.kind
  pub proto : IfThere (IsObject l) x.proto
  pub properties : AllByRecursion (IsKnownProperty l) x.properties
  pub distinct : AreDistinct x.properties

-- ---- no chain of prototypes comes back to an object without passing a Proxy

abbrev pub link : Lists → ObjectId → Option ObjectId
link l o = if is_proxy (kind l o) then None else proto l o

-- so many links up from an object
abbrev pub up : Lists → ℕ → ObjectId → Option ObjectId
up l zero o = Some o
up l (suc n) o = option_and_then (up l n) (link l o)

abbrev pub NeverReturns : Lists → Type 0
NeverReturns l = (o : ObjectId) (n : ℕ) → IsObject l o → up l (suc n) o ≢ Some o

-- ---- what holds at a halt too

-- the well-known Symbols are the first three: hasInstance, toPrimitive, toStringTag
abbrev pub well_known : ℕ
well_known = 3

abbrev pub IsShort : List ℕ → Type 0
IsShort units = length units ≤ most_units

-- All that is named is there, each start object with its kind and the well-known Symbols too; keys and texts differ; no chain of prototypes comes back.
pub record IsIntact (l : Lists) : Type 0 where
  pub objects : (o : ObjectId) → IsObject l o → IsIntactObject l (object_at l.objects o)
  pub cells : AllByRecursion (IfThere (IsKnown l)) l.cells
  pub descriptions : AllByRecursion (IfThere (IsText l)) l.symbols
  pub texts : HasOneEach l.texts
  pub lengths : AllByRecursion IsShort l.texts
  pub symbols : well_known ≤ length l.symbols
  pub start : (i : Intrinsic) → IsObject l (object_of i) × (fixed_kind (kind l (object_of i)) ≡ start_kind i)
  pub chains : NeverReturns l

-- ---- the kinds of objects

-- a function of the script has the flags that the script gives it
abbrev pub HasFlags : Option FunctionFacts → (constructor strict : Bool) → Type 0
HasFlags None constructor strict = ⊥
HasFlags (Some facts) constructor strict = (facts.constructor ≡ constructor) × (facts.strict ≡ strict)

abbrev pub IsOlder : ObjectId → ObjectId → Type 0
IsOlder o p = p.0 < o.0

-- a revoke function names its Proxy, and no other function names one
abbrev pub HasItsProxy : Lists → Bool → Option ObjectId → Type 0
HasItsProxy l true None = ⊥
HasItsProxy l true (Some p) = IsObject l p × IsTrue (is_proxy (kind l p))
HasItsProxy l false None = ⊤
HasItsProxy l false (Some p) = ⊥

-- a built-in function has a row, and the constructor flag of that row
abbrev pub HasRow : Lists → Option BuiltinFacts → Bool → Option ObjectId → Type 0
HasRow l None constructor proxy = ⊥
HasRow l (Some facts) constructor proxy = (facts.constructs ≡ constructor) × HasItsProxy l facts.revokes proxy

-- the inner slots of object o say what is so
abbrev pub IsRightKind : Tree → Lists → ObjectId → ObjectKind → Type 0
-- where a function of the script is there, so are the cells of the script's top scope
IsRightKind script l o (kind_of.Function function constructor strict) =
    HasFlags (slice_get script.functions function.0) constructor strict × (top_names script ≤ length l.cells)
IsRightKind script l o (kind_of.Builtin row constructor proxy) = HasRow l (builtin_facts row) constructor proxy
-- the target of a Proxy is older than the Proxy
IsRightKind script l o (kind_of.Proxy target handler callable constructor) = IfThere (IsOlder o) target
IsRightKind script l o other = ⊤

-- ---- the length of an Array object (10.4.2)

abbrev pub most_length : ℕ
most_length = 2 ^ 32 - 1

-- a whole number from 0 to 2 ^ 32 - 1
abbrev pub IsLength : Value → Type 0
IsLength (value.Whole (pos n)) = n ≤ most_length
IsLength other = ⊥

-- a stored property, not configurable, whose value is a length
abbrev pub IsLengthProperty : Option Complete → Type 0
IsLengthProperty (Some (complete.Stored v flags)) = IsLength v × IsFalse flags.configurable
IsLengthProperty other = ⊥

-- the key of the text `length`
abbrev pub length_key : Lists → PropKey
length_key l = Name (number_of l (units_of_start start_text.Length))

abbrev pub HasLength : Lists → ObjectId → Type 0
HasLength l o = IsLengthProperty (own l o (length_key l))

-- ---- the whole

pub record IsSound (w : World) : Type 0 where
  pub intact : IsIntact w.lists
  pub kinds : (o : ObjectId) → IsObject w.lists o → IsRightKind w.script w.lists o (kind w.lists o)
  -- each Array object has its own `length`
  pub arrays : (o : ObjectId) → IsObject w.lists o → IsTrue (is_array (kind w.lists o)) → HasLength w.lists o
