-- Objects (ECMA-262, 6.1.7): a kind with its inner slots, a prototype or null, whether new properties may come, and ONE list of properties in the order of
-- their creation, with distinct keys. Each function here is total: an object that is not there has no property and takes none.
use Rattle.std.specs.Prelude.{ℕ, Bool, true, false, not, if◌then◌else◌, Option, Some, None, List, [], ◌∷◌, ◌++◌, filter, slice_index_or, slice_set, nat_eq}
use Rattle.property_keys.specs.declared.identifiers.ObjectId.{ObjectId}
use Rattle.property_keys.specs.declared.keys.PropKey.{PropKey}
use Rattle.property_keys.specs.declared.keys.PropKey.TheVariants.{Index, Name, Sym}
use Rattle.descriptors.specs.declared.property.Complete.{Complete}
use Rattle.es_model.specs.declared.owned.OwnProperty.{OwnProperty}
use Rattle.es_model.specs.declared.kinds.ObjectKind.{ObjectKind}
use Rattle.es_model.specs.declared.kinds.ObjectKind.TheVariants as kind_of

pub record Object : Type 0 where
  pub kind : ObjectKind
  pub proto : Option ObjectId
  pub extensible : Bool
  pub properties : List OwnProperty

-- keys are the same where their numbers are: equal texts have one number
abbrev pub same_key : PropKey → PropKey → Bool
same_key (Index a) (Index b) = nat_eq a b
same_key (Name a) (Name b) = nat_eq a.0 b.0
same_key (Sym a) (Sym b) = nat_eq a.0 b.0
same_key a b = false

-- ---- lists of properties

-- the property of a key
abbrev pub find_property : List OwnProperty → PropKey → Option Complete
find_property [] key = None
find_property (p ∷ ps) key = if same_key p.key key then Some p.complete else find_property ps key

-- a new property stands last
abbrev pub add_property : List OwnProperty → PropKey → Complete → List OwnProperty
add_property ps key c = ps ++ record { key = key; complete = c } ∷ []

-- a property is replaced in its place
abbrev pub replace_property : List OwnProperty → PropKey → Complete → List OwnProperty
replace_property [] key c = []
replace_property (p ∷ ps) key c = if same_key p.key key then record { key = p.key; complete = c } ∷ ps else p ∷ replace_property ps key c

-- a property is taken out
abbrev pub remove_property : List OwnProperty → PropKey → List OwnProperty
remove_property ps key = filter (λ p. not (same_key p.key key)) ps

abbrev pub with_properties : Object → List OwnProperty → Object
with_properties object ps = record object { properties = ps }

-- ---- lists of objects

-- what stands where no object is
abbrev pub no_object : Object
no_object = record { kind = kind_of.Ordinary; proto = None; extensible = false; properties = [] }

abbrev pub object_at : List Object → ObjectId → Object
object_at objects object = slice_index_or objects object.0 no_object

abbrev pub put_object : List Object → ObjectId → Object → List Object
put_object objects object x = slice_set objects object.0 x

abbrev pub is_proxy : ObjectKind → Bool
is_proxy (kind_of.Proxy target handler callable constructor) = true
is_proxy other = false

abbrev pub is_array : ObjectKind → Bool
is_array kind_of.Array = true
is_array other = false

-- a new object, without properties. A Proxy has no prototype and no properties of its own (10.5)
abbrev pub new_object_of : ObjectKind → Option ObjectId → Object
new_object_of k proto =
    if is_proxy k
    then record { kind = k; proto = None; extensible = false; properties = [] }
    else record { kind = k; proto = proto; extensible = true; properties = [] }

-- a Proxy without its target and handler (10.5)
abbrev pub revoked_kind : ObjectKind → ObjectKind
revoked_kind (kind_of.Proxy target handler callable constructor) = kind_of.Proxy None None callable constructor
revoked_kind other = other

-- an arguments object whose index i shares no cell any more (10.4.4)
abbrev pub unmapped_kind : ObjectKind → ℕ → ObjectKind
unmapped_kind (kind_of.Arguments cells) i = kind_of.Arguments (slice_set cells i None)
unmapped_kind other i = other
