-- What happens to the shapes of objects, as it is put on the trace of a world. No algorithm reads the trace.
use Rattle.std.specs.Prelude.{ℕ, Bool, false, ◌&&◌, if◌then◌else◌, Option, Some, None, List, ℤ, pos, neg_ℤ, int_le, ◌-◌, ◌^◌}
use Rattle.std.specs.Bool.{beq}
use Rattle.property_keys.specs.declared.identifiers.ObjectId.{ObjectId}
use Rattle.property_keys.specs.declared.keys.PropKey.{PropKey}
use Rattle.property_keys.specs.declared.keys.PropKey.TheVariants.{Index, Name, Sym}
use Rattle.property_keys.specs.declared.keys.Attributes.{Attributes}
use Rattle.property_keys.specs.declared.values.Value.{Value}
use Rattle.property_keys.specs.declared.values.Value.TheVariants as value
use Rattle.descriptors.specs.declared.property.Complete.{Complete}
use Rattle.descriptors.specs.declared.property.Complete.TheVariants as complete
use Rattle.es_tree.specs.declared.numbers.FunctionNo.{FunctionNo}
use Rattle.es_tree.specs.declared.numbers.LiteralNo.{LiteralNo}
use Rattle.es_tree.specs.declared.numbers.SiteId.{SiteId}

-- where an object comes from
pub data Origin : Type 0 where
  OfPlain : Origin
  OfFunction : Origin
  OfArray : Origin
  OfArguments : Origin
  OfWrapper : Origin
  OfError : Origin
  -- an object literal of the script
  OfLiteral : LiteralNo → Origin
  -- a function of the script that constructs
  OfConstructor : FunctionNo → Origin

-- the class of a value. A small number is from -2^31 to 2^31 - 1
pub data ValueClass : Type 0 where
  IsSmall : ValueClass
  IsNumber : ValueClass
  IsReference : ValueClass
  IsOther : ValueClass

-- what an event says of a property: the class of its value with its flags, or the flags of an accessor
pub data Field : Type 0 where
  OfValue : ValueClass → Attributes → Field
  OfFunctions : (enumerable configurable : Bool) → Field

-- where a walk up the prototypes ends: at a property, past the last object, or at a Proxy
pub data WalkEnd : Type 0 where
  AtProperty : Complete → WalkEnd
  AtNull : WalkEnd
  AtProxy : WalkEnd

-- the objects after the receiver, to the holder or the last one
pub record Walk : Type 0 where
  pub links : List ObjectId
  pub ending : WalkEnd

-- a read, or a write with the class of its value
pub data Way : Type 0 where
  Reads : Way
  Writes : ValueClass → Way

pub data Event : Type 0 where
  Made : ObjectId → Origin → Option ObjectId → Event
  -- it stands before the object is made whose prototype this is
  MadePrototype : ObjectId → Event
  Added : ObjectId → PropKey → Field → Event
  -- the same flags and another value
  Stored : ObjectId → PropKey → Field → Event
  -- the same flags and other functions
  GivenFunctions : ObjectId → PropKey → Field → Event
  -- another kind or other flags
  Redefined : ObjectId → PropKey → Field → Event
  Deleted : ObjectId → PropKey → Event
  ProtoSet : ObjectId → Option ObjectId → Event
  Closed : ObjectId → Event
  -- a construction by a function of the script ended, by return or by throw
  Constructed : FunctionNo → Event
  -- with the class of the value, and whether it is a stored property with three true flags
  IndexPut : ObjectId → ℕ → ValueClass → Bool → Event
  IndexRemoved : ObjectId → ℕ → Event
  -- at a site, on an object that is an array or not
  Accessed : SiteId → Way → ObjectId → Bool → PropKey → Walk → Event

-- ---- what the events say

abbrev pub is_small : ℤ → Bool
is_small n = int_le (neg_ℤ (pos (2 ^ 31))) n && int_le n (pos (2 ^ 31 - 1))

abbrev pub class_of : Value → ValueClass
class_of value.Undefined = IsOther
class_of value.Null = IsOther
class_of (value.Bool b) = IsOther
class_of (value.Whole n) = if is_small n then IsSmall else IsNumber
class_of (value.Text t) = IsOther
class_of (value.Symbol s) = IsOther
class_of (value.Object o) = IsReference

abbrev pub field_of : Complete → Field
field_of (complete.Stored v flags) = OfValue (class_of v) flags
field_of (complete.Accessor get set enumerable configurable) = OfFunctions enumerable configurable

abbrev pub class_in : Complete → ValueClass
class_in (complete.Stored v flags) = class_of v
class_in (complete.Accessor get set enumerable configurable) = IsOther

-- a stored property with three true flags
abbrev pub is_plain : Complete → Bool
is_plain (complete.Stored v flags) = flags.writable && flags.enumerable && flags.configurable
is_plain (complete.Accessor get set enumerable configurable) = false

abbrev pub same_flags : Attributes → Attributes → Bool
same_flags a b = beq a.writable b.writable && beq a.enumerable b.enumerable && beq a.configurable b.configurable

-- a named property was this, and is now that
abbrev pub named_event : ObjectId → PropKey → Option Complete → Complete → Event
named_event o k None c = Added o k (field_of c)
named_event o k (Some (complete.Stored x old)) (complete.Stored v flags) =
    if same_flags old flags then Stored o k (OfValue (class_of v) flags) else Redefined o k (OfValue (class_of v) flags)
named_event o k (Some (complete.Stored x old)) (complete.Accessor get set e c) = Redefined o k (OfFunctions e c)
named_event o k (Some (complete.Accessor get set e c)) (complete.Stored v flags) = Redefined o k (OfValue (class_of v) flags)
named_event o k (Some (complete.Accessor get set e c)) (complete.Accessor get' set' e' c') =
    if beq e e' && beq c c' then GivenFunctions o k (OfFunctions e' c') else Redefined o k (OfFunctions e' c')

-- a property was this, and is now that
abbrev pub put_event : ObjectId → PropKey → Option Complete → Complete → Event
put_event o (Index i) old c = IndexPut o i (class_in c) (is_plain c)
put_event o (Name t) old c = named_event o (Name t) old c
put_event o (Sym s) old c = named_event o (Sym s) old c

abbrev pub removal_event : ObjectId → PropKey → Event
removal_event o (Index i) = IndexRemoved o i
removal_event o (Name t) = Deleted o (Name t)
removal_event o (Sym s) = Deleted o (Sym s)
