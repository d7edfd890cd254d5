-- An object as nobody can tell it from another: its named properties in their order, and its properties at indices as a finite map, since own keys have indices
-- ascending whatever the order of their creation (ECMA-262, 10.1.11.1).
use Rattle.std.specs.Prelude.{Bool, true, false, Option, List, [], ◌∷◌, filter, slice_index_or, slice_set}
use Rattle.std.specs.Ordering.{nat_cmp}
use Rattle.std.specs.FinMap as map_of
use Rattle.std.specs.FinMap.{FinMap}
use Rattle.property_keys.specs.declared.identifiers.ObjectId.{ObjectId}
use Rattle.property_keys.specs.declared.keys.PropKey.{PropKey}
use Rattle.property_keys.specs.declared.keys.PropKey.TheVariants.{Index, Name, Sym}
use Rattle.descriptors.specs.declared.property.Complete.{Complete}
use Rattle.es_model.specs.declared.kinds.ObjectKind.{ObjectKind}
use Rattle.es_model.specs.declared.owned.OwnProperty.{OwnProperty}
use Rattle.es_model.specs.Objects.{Object, find_property, add_property, replace_property, remove_property, no_object}

pub record Seen : Type 0 where
  pub kind : ObjectKind
  pub proto : Option ObjectId
  pub extensible : Bool
  pub named : List OwnProperty
  pub indexed : FinMap nat_cmp Complete

abbrev pub is_named : PropKey → Bool
is_named (Index i) = false
is_named (Name t) = true
is_named (Sym s) = true

abbrev pub named : List OwnProperty → List OwnProperty
named ps = filter (λ (p : OwnProperty). is_named p.key) ps

abbrev pub with_index : PropKey → Complete → FinMap nat_cmp Complete → FinMap nat_cmp Complete
with_index (Index i) c m = map_of.insert m i c
with_index (Name t) c m = m
with_index (Sym s) c m = m

abbrev pub indexed : List OwnProperty → FinMap nat_cmp Complete
indexed [] = map_of.empty
indexed (p ∷ ps) = with_index p.key p.complete (indexed ps)

-- what is seen of an object
abbrev pub seen : Object → Seen
seen o = record { kind = o.kind; proto = o.proto; extensible = o.extensible; named = named o.properties; indexed = indexed o.properties }

-- the property of a key
abbrev pub find_seen : Seen → PropKey → Option Complete
find_seen s (Index i) = map_of.get s.indexed i
find_seen s (Name t) = find_property s.named (Name t)
find_seen s (Sym t) = find_property s.named (Sym t)

-- a new property
abbrev pub seen_added : Seen → PropKey → Complete → Seen
seen_added s (Index i) c = record s { indexed = map_of.insert s.indexed i c }
seen_added s (Name t) c = record s { named = add_property s.named (Name t) c }
seen_added s (Sym t) c = record s { named = add_property s.named (Sym t) c }

-- a property is replaced in its place
abbrev pub seen_replaced : Seen → PropKey → Complete → Seen
seen_replaced s (Index i) c = record s { indexed = map_of.insert s.indexed i c }
seen_replaced s (Name t) c = record s { named = replace_property s.named (Name t) c }
seen_replaced s (Sym t) c = record s { named = replace_property s.named (Sym t) c }

-- a property is taken out
abbrev pub seen_removed : Seen → PropKey → Seen
seen_removed s (Index i) = record s { indexed = map_of.remove s.indexed i }
seen_removed s (Name t) = record s { named = remove_property s.named (Name t) }
seen_removed s (Sym t) = record s { named = remove_property s.named (Sym t) }

-- what is seen where no object is
abbrev pub no_seen : Seen
no_seen = seen no_object

abbrev pub seen_at : List Seen → ObjectId → Seen
seen_at objects object = slice_index_or objects object.0 no_seen

abbrev pub put_seen : List Seen → ObjectId → Seen → List Seen
put_seen objects object s = slice_set objects object.0 s
