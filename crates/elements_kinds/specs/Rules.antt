-- What a definition and a removal make of elements: of the properties, the kind and the capacity.
use Rattle.std.specs.Prelude.{◌≡◌, ◌+◌, ◌-◌, ◌/◌, ◌^◌, ◌&&◌, ◌||◌, ◌==◌, not, max, ℕ, Bool, false}
use Rattle.std.specs.Prelude.{Option, Some, None, List, [], ◌∷◌, ⊤, if◌then◌else◌, nat_lt, nat_le}
use Rattle.std.specs.Ordering.{nat_cmp}
use Rattle.std.specs.FinMap as map_of
use Rattle.std.specs.FinMap.{FinMap}
use Rattle.property_keys.specs.declared.values.Value.{Value}
use Rattle.descriptors.specs.declared.property.Complete.{Complete}
use Rattle.descriptors.specs.declared.property.Complete.TheVariants.{Stored, Accessor}
use Rattle.elements_kinds.specs.declared.kinds.ElementsKind.{ElementsKind}
use Rattle.elements_kinds.specs.declared.kinds.ElementsKind.TheVariants as kind
use Rattle.elements_kinds.specs.declared.kinds.Class.{Class}
use Rattle.elements_kinds.specs.declared.kinds.Class.TheVariants as class
use Rattle.elements_kinds.specs.Kinds.{class_in, class_of, holey_from, is_dictionary, is_holey, join, kind_of}
use Rattle.elements_kinds.specs.Properties.{plain}
use Rattle.elements_kinds.specs.Words.{IsGoodValue}

-- what is seen of elements
pub record View : Type 0 where
  pub properties : FinMap nat_cmp Complete
  pub kind : ElementsKind
  pub capacity : ℕ

abbrev pub start : View
start = record { properties = map_of.empty; kind = kind.PackedSmi; capacity = 0 }

-- a data property whose three flags are true
abbrev pub is_plain : Complete → Bool
is_plain (Stored value attributes) = attributes.writable && attributes.enumerable && attributes.configurable
is_plain (Accessor get set enumerable configurable) = false

-- a number is in the range of the values
abbrev pub IsGood : Complete → Type 0
IsGood (Stored value attributes) = IsGoodValue value
IsGood (Accessor get set enumerable configurable) = ⊤

abbrev pub class_for : Complete → Class
class_for (Stored value attributes) = class_of value
class_for (Accessor get set enumerable configurable) = class.Tagged

abbrev pub end_of_keys : List ℕ → ℕ
end_of_keys [] = 0
end_of_keys (i ∷ is) = max (i + 1) (end_of_keys is)

-- one past the greatest index present
unfoldable pub end_of : FinMap nat_cmp Complete → ℕ
end_of properties = end_of_keys (map_of.keys properties)

abbrev pub greatest_of : FinMap nat_cmp Complete → Option ℕ
greatest_of properties = if end_of properties == 0 then None else Some (end_of properties - 1)

-- ---- a definition at i

-- a store of this capacity becomes a dictionary
abbrev pub leaves_store : ℕ → ℕ → Complete → Bool
leaves_store capacity i property = nat_lt (capacity + 1024) i || (nat_le (2 ^ 23) i || not (is_plain property))

-- the capacity after a definition in a store: where i is at or past it, with n = i + 1 it is n + n / 2 + 16
abbrev pub capacity_for : ℕ → ℕ → ℕ
capacity_for capacity i = if nat_lt i capacity then capacity else (i + 1) + (i + 1) / 2 + 16

-- the kind after a definition in a store: i past the end makes it holey, and the value's class is taken in
abbrev pub kind_for : View → ℕ → Complete → ElementsKind
kind_for v i property = kind_of (join (class_in v.kind) (class_for property)) (is_holey v.kind || nat_lt (end_of v.properties) i)

abbrev pub is_dictionary_after : View → ℕ → Complete → Bool
is_dictionary_after v i property = is_dictionary v.kind || leaves_store v.capacity i property

abbrev pub defined : View → ℕ → Complete → View
defined v i property = record {
  properties = map_of.insert v.properties i property;
  kind = if is_dictionary_after v i property then kind.Dictionary else kind_for v i property;
  capacity = if is_dictionary_after v i property then 0 else capacity_for v.capacity i;
}

-- the property of a value that is put into the store
pub record Fits (v : View) (i : ℕ) (property : Complete) (value : Value) : Type 0 where
  pub is : property ≡ plain value
  pub stays : is_dictionary_after v i property ≡ false

-- ---- a removal of i

abbrev pub leaves_hole : FinMap nat_cmp Complete → ℕ → Bool
leaves_hole properties i = map_of.contains_key properties i && not (i + 1 == end_of properties)

abbrev pub removed : View → ℕ → View
removed v i = record {
  properties = map_of.remove v.properties i;
  kind = if leaves_hole v.properties i then holey_from v.kind else v.kind;
  capacity = v.capacity;
}
