-- The maps of objects.
use Rattle.std.specs.Prelude.{Option, None}
use Rattle.property_keys.specs.declared.identifiers.ObjectId.{ObjectId}
use Rattle.map_store.specs.declared.MapId.{MapId}
use Rattle.object_heap.specs.Stands.{HeapView}

-- The map that an object is on; None where it has dictionary form, as each object has until maps are kept. Opaque: nothing above may rest on that.
unfoldable pub map_number : HeapView → ObjectId → Option MapId
map_number heap object = None
