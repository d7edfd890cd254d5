-- The changes that an algorithm may make, as data, and the world after each. The events of a change are put on the trace with it.
use Rattle.std.specs.Prelude.{ℕ, ◌-◌, Bool, true, false, ◌&&◌, not, if◌then◌else◌, Option, Some, None, List, [], ◌∷◌, ◌++◌, length, nat_lt, nat_eq, slice_set}
use Rattle.property_keys.specs.declared.identifiers.ObjectId.{ObjectId}
use Rattle.property_keys.specs.declared.identifiers.TextId.{TextId}
use Rattle.property_keys.specs.declared.keys.PropKey.{PropKey}
use Rattle.property_keys.specs.declared.values.Value.{Value}
use Rattle.property_keys.specs.Texts.{interned}
use Rattle.property_keys.specs.Values.{same_value}
use Rattle.descriptors.specs.declared.property.Complete.{Complete}
use Rattle.descriptors.specs.declared.property.Complete.TheVariants as complete
use Rattle.descriptors.specs.declared.fields.Descriptor.{Descriptor}
use Rattle.descriptors.specs.declared.validation.Verdict.{Verdict}
use Rattle.descriptors.specs.declared.validation.Verdict.TheVariants as verdict
use Rattle.descriptors.specs.Validation.{is_configurable}
use Rattle.es_model.specs.declared.kinds.CellNo.{CellNo}
use Rattle.es_model.specs.declared.kinds.ObjectKind.{ObjectKind}
use Rattle.es_tree.specs.declared.numbers.FunctionNo.{FunctionNo}
use Rattle.es_tree.specs.declared.numbers.SiteId.{SiteId}
use Rattle.es_model.specs.Objects.{Object, object_at, put_object, with_properties, add_property, replace_property}
use Rattle.es_model.specs.Objects.{remove_property, new_object_of, is_array, is_proxy, revoked_kind, unmapped_kind}
use Rattle.es_model.specs.Events.{Event, Origin, Way, Made, MadePrototype, ProtoSet, Closed, Constructed, Accessed, put_event, removal_event}
use Rattle.es_model.specs.World.{Lists, World, own, proto, kind, extensible, definition, new_object, walk}

pub data Change : Type 0 where
  -- ValidateAndApplyPropertyDescriptor (10.1.6.3)
  Defining : ObjectId → PropKey → Descriptor → Change
  -- another value in a stored property that is there
  Storing : ObjectId → PropKey → Value → Change
  -- a property that is there and configurable is taken out (10.1.10)
  Deleting : ObjectId → PropKey → Change
  SettingProto : ObjectId → Option ObjectId → Change
  -- no new properties from now on (10.1.4)
  Preventing : ObjectId → Change
  -- a new object without properties
  Making : ObjectKind → Origin → Option ObjectId → Change
  -- a Proxy loses its target and its handler
  Revoking : ObjectId → Change
  -- an index of an arguments object shares no cell any more
  Unmapping : ObjectId → ℕ → Change
  -- a text gets a number, if it has none
  Interning : List ℕ → Change
  MakingSymbol : Option TextId → Change
  MakingCell : Option Value → Change
  SettingCell : CellNo → Value → Change
  -- a construction by a function of the script has ended
  Constructing : FunctionNo → Change
  -- a site reads or writes, before the ordinary algorithm starts
  Accessing : SiteId → Way → ObjectId → PropKey → Change

-- ---- parts of a world replaced

-- an event on the trace
abbrev pub noted : World → Event → World
noted w e = record w { trace = w.trace ++ e ∷ [] }

abbrev pub with_objects : World → List Object → World
with_objects w objects = record w { lists = record w.lists { objects = objects } }

abbrev pub with_object : World → ObjectId → Object → World
with_object w object x = with_objects w (put_object w.lists.objects object x)

abbrev pub is_there : Lists → ObjectId → Bool
is_there l o = nat_lt o.0 (length l.objects)

-- ---- properties

-- the world after a new property
unfoldable pub added : World → ObjectId → PropKey → Complete → World
added w object key c =
    let o = object_at w.lists.objects object in
    noted (with_object w object (with_properties o (add_property o.properties key c))) (put_event object key None c)

-- the world after a property that was `old` is replaced in its place
unfoldable pub replaced : World → ObjectId → PropKey → Complete → Complete → World
replaced w object key old c =
    let o = object_at w.lists.objects object in
    noted (with_object w object (with_properties o (replace_property o.properties key c))) (put_event object key (Some old) c)

-- the world after a property is taken out
unfoldable pub removed : World → ObjectId → PropKey → World
removed w object key =
    let o = object_at w.lists.objects object in
    noted (with_object w object (with_properties o (remove_property o.properties key))) (removal_event object key)

-- the world after a verdict on a property that is there or not. A definition that changes nothing makes no event
abbrev pub applied : World → ObjectId → PropKey → Option Complete → Verdict → World
applied w object key now verdict.Refuse = w
applied w object key now verdict.Keep = w
applied w object key None (verdict.Apply c) = added w object key c
applied w object key (Some old) (verdict.Apply c) = replaced w object key old c

abbrev pub defined : World → ObjectId → PropKey → Descriptor → World
defined w object key wanted = applied w object key (own w.lists object key) (definition w.lists object key wanted)

-- the world after a value is stored in the property that is there. The same value changes nothing
abbrev pub stored_at : World → ObjectId → PropKey → Value → Option Complete → World
stored_at w object key v None = w
stored_at w object key v (Some (complete.Stored x flags)) =
    if same_value v x then w else replaced w object key (complete.Stored x flags) (complete.Stored v flags)
stored_at w object key v (Some (complete.Accessor get set enumerable configurable)) = w

abbrev pub stored : World → ObjectId → PropKey → Value → World
stored w object key v = stored_at w object key v (own w.lists object key)

abbrev pub deleted_at : World → ObjectId → PropKey → Option Complete → World
deleted_at w object key None = w
deleted_at w object key (Some c) = if is_configurable c then removed w object key else w

abbrev pub deleted : World → ObjectId → PropKey → World
deleted w object key = deleted_at w object key (own w.lists object key)

-- ---- objects

-- the event of an object that becomes a prototype. A Proxy has no shape
abbrev pub prototype_noted : World → Option ObjectId → World
prototype_noted w None = w
prototype_noted w (Some p) = if is_proxy (kind w.lists p) then w else noted w (MadePrototype p)

-- a new object stands last. Its prototype is made one before
unfoldable pub made : World → ObjectKind → Origin → Option ObjectId → World
made w k origin proto =
    let after = with_objects w (w.lists.objects ++ new_object_of k proto ∷ []) in
    if is_proxy k then after
    else noted (prototype_noted after proto) (Made (new_object w.lists) origin proto)

unfoldable pub with_proto : World → ObjectId → Option ObjectId → World
with_proto w object proto =
    noted (with_object w object (record (object_at w.lists.objects object) { proto = proto })) (ProtoSet object proto)

abbrev pub same_proto : Option ObjectId → Option ObjectId → Bool
same_proto None None = true
same_proto (Some a) (Some b) = nat_eq a.0 b.0
same_proto a b = false

-- a prototype that is set, of an object that is no Proxy. The same prototype changes nothing
abbrev pub proto_set : World → ObjectId → Option ObjectId → World
proto_set w object p =
    if is_there w.lists object && not (is_proxy (kind w.lists object)) && not (same_proto (proto w.lists object) p) then with_proto w object p else w

unfoldable pub closed : World → ObjectId → World
closed w object = noted (with_object w object (record (object_at w.lists.objects object) { extensible = false })) (Closed object)

abbrev pub prevented : World → ObjectId → World
prevented w object = if extensible w.lists object then closed w object else w

-- another kind, which differs in inner slots alone
unfoldable pub with_kind : World → ObjectId → ObjectKind → World
with_kind w object k = with_object w object (record (object_at w.lists.objects object) { kind = k })

abbrev pub revoked : World → ObjectId → World
revoked w object = with_kind w object (revoked_kind (kind w.lists object))

abbrev pub unmapped : World → ObjectId → ℕ → World
unmapped w object i = with_kind w object (unmapped_kind (kind w.lists object) i)

-- ---- texts, Symbols, cells

unfoldable pub text_known : World → List ℕ → World
text_known w text = record w { lists = record w.lists { texts = interned w.lists.texts text } }

unfoldable pub symbol_made : World → Option TextId → World
symbol_made w d = record w { lists = record w.lists { symbols = w.lists.symbols ++ d ∷ [] } }

unfoldable pub cell_made : World → Option Value → World
cell_made w v = record w { lists = record w.lists { cells = w.lists.cells ++ v ∷ [] } }

unfoldable pub cell_set : World → CellNo → Value → World
cell_set w c v = record w { lists = record w.lists { cells = slice_set w.lists.cells c.0 (Some v) } }

-- ---- events alone

unfoldable pub construction_noted : World → FunctionNo → World
construction_noted w f = noted w (Constructed f)

unfoldable pub access_noted : World → SiteId → Way → ObjectId → PropKey → World
access_noted w site way o key = noted w (Accessed site way o (is_array (kind w.lists o)) key (walk w.lists o key))

-- ---- the world after a change, with its events on the trace. It is opaque: no algorithm and no frame looks into it
unfoldable pub changed : Change → World → World
changed (Defining o k d) w = defined w o k d
changed (Storing o k v) w = stored w o k v
changed (Deleting o k) w = deleted w o k
changed (SettingProto o p) w = proto_set w o p
changed (Preventing o) w = prevented w o
changed (Making k origin p) w = made w k origin p
changed (Revoking o) w = revoked w o
changed (Unmapping o i) w = unmapped w o i
changed (Interning text) w = text_known w text
changed (MakingSymbol d) w = symbol_made w d
changed (MakingCell v) w = cell_made w v
changed (SettingCell c v) w = cell_set w c v
changed (Constructing f) w = construction_noted w f
changed (Accessing site way o k) w = access_noted w site way o k

-- so many turns are taken
unfoldable pub charged : World → ℕ → World
charged w n = record w { turns = w.turns - n }

-- these bytes are printed
unfoldable pub printed_more : World → List ℕ → World
printed_more w bytes = record w { printed = w.printed ++ bytes }
