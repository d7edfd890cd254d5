-- The parts of a small world. Those of `small_worlds` are others: it is proved again where the whole model is, and this crate is not.
use Rattle.std.specs.Prelude.{ℕ, Bool, true, false, Option, Some, None, List, [], ◌∷◌, pos, codes}
use Rattle.property_keys.specs.declared.identifiers.ObjectId.{ObjectId}
use Rattle.property_keys.specs.declared.keys.PropKey.{PropKey}
use Rattle.property_keys.specs.declared.keys.PropKey.TheVariants.{Name, Sym}
use Rattle.property_keys.specs.declared.keys.Attributes.{Attributes}
use Rattle.property_keys.specs.declared.values.Value.{Value}
use Rattle.property_keys.specs.declared.values.Value.TheVariants as value
use Rattle.descriptors.specs.declared.fields.Descriptor.{Descriptor}
use Rattle.descriptors.specs.declared.property.Complete.{Complete}
use Rattle.descriptors.specs.declared.property.Complete.TheVariants as complete
use Rattle.es_tree.specs.Tree.{empty_tree}
use Rattle.es_model.specs.declared.kinds.ObjectKind.{ObjectKind}
use Rattle.es_model.specs.declared.kinds.ObjectKind.TheVariants as kind_of
use Rattle.es_model.specs.declared.owned.OwnProperty.{OwnProperty}
use Rattle.es_model.specs.Objects.{Object}
use Rattle.es_model.specs.World.{World}

abbrev pub at : ℕ → ObjectId
at n = record { 0 = n }

-- the key that is the text of this number
abbrev pub text : ℕ → PropKey
text n = Name (record { 0 = n })

abbrev pub symbol : ℕ → PropKey
symbol n = Sym (record { 0 = n })

abbrev pub whole : ℕ → Value
whole n = value.Whole (pos n)

abbrev pub object : ℕ → Value
object n = value.Object (at n)

-- writable, enumerable, configurable
abbrev pub with_flags : Bool → Bool → Bool → Attributes
with_flags writable enumerable configurable = record { writable = writable; enumerable = enumerable; configurable = configurable }

abbrev pub open_flags : Attributes
open_flags = with_flags true true true

abbrev pub hidden_flags : Attributes
hidden_flags = with_flags true false true

abbrev pub fixed_flags : Attributes
fixed_flags = with_flags false false false

abbrev pub has : PropKey → Complete → OwnProperty
has k c = record { key = k; complete = c }

abbrev pub holds : PropKey → Value → Attributes → OwnProperty
holds k v flags = has k (complete.Stored v flags)

-- ---- what is wanted of a property: no field, or one alone

abbrev pub nothing : Descriptor
nothing = record { value = None; writable = None; get = None; set = None; enumerable = None; configurable = None }

abbrev pub wants_value : Value → Descriptor
wants_value v = record nothing { value = Some v }

abbrev pub wants_writable : Bool → Descriptor
wants_writable b = record nothing { writable = Some b }

abbrev pub wants_get : Value → Descriptor
wants_get v = record nothing { get = Some v }

abbrev pub wants_set : Value → Descriptor
wants_set v = record nothing { set = Some v }

abbrev pub wants_enumerable : Bool → Descriptor
wants_enumerable b = record nothing { enumerable = Some b }

abbrev pub wants_configurable : Bool → Descriptor
wants_configurable b = record nothing { configurable = Some b }

-- ---- objects and worlds

abbrev pub of_kind : ObjectKind → Option ObjectId → List OwnProperty → Object
of_kind k up ps = record { kind = k; proto = up; extensible = true; properties = ps }

abbrev pub plain : Option ObjectId → List OwnProperty → Object
plain up ps = of_kind kind_of.Ordinary up ps

abbrev pub a_function : Object
a_function = of_kind (kind_of.Function (record { 0 = 0 }) false true) None []

-- a Proxy of object 0, with object 1 as its handler, which may be called
abbrev pub a_proxy : Object
a_proxy = record { kind = kind_of.Proxy (Some (at 0)) (Some (at 1)) true false; proto = None; extensible = false; properties = [] }

-- an empty script, these objects, four texts, one Symbol without a description, two cells of which the second is empty, and five turns
abbrev pub world : List Object → World
world objects = record {
  script = empty_tree;
  lists = record {
    objects = objects;
    texts = codes "a" ∷ codes "b" ∷ codes "c" ∷ codes "dog" ∷ [];
    symbols = None ∷ [];
    cells = Some (whole 5) ∷ None ∷ [];
  };
  turns = 5;
  trace = [];
  printed = [];
}
