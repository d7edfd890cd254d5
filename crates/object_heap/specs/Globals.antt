-- What holds of the list of objects of every heap: the global object stands first, and it is an ordinary one, as is what stands where no object is.
use Rattle.std.specs.Prelude.{◌≡◌, ◌<◌, List, length}
use Rattle.es_model.specs.declared.intrinsics.Intrinsic.TheVariants.{Global}
use Rattle.es_model.specs.declared.kinds.ObjectKind.TheVariants.{Ordinary}
use Rattle.es_model.specs.StartObjects.{object_of}
use Rattle.object_heap.specs.Seen.{Seen, seen_at}

pub record HasGlobal (objects : List Seen) : Type 0 where
  pub there : 0 < length objects
  pub ordinary : (seen_at objects (object_of Global)).kind ≡ Ordinary
