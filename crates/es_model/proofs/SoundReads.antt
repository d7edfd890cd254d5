-- What is read in a sound world names what is there, and a charge leaves the world sound.
use Rattle.std.proofs.Common.{ℕ, Bool, true, false, cond, Option, Some, List, [], ◌∷◌}
use Rattle.std.specs.List.{AllByRecursion}
use Rattle.property_keys.specs.declared.identifiers.ObjectId.{ObjectId}
use Rattle.property_keys.specs.declared.keys.PropKey.{PropKey}
use Rattle.descriptors.specs.declared.property.Complete.{Complete}
use Rattle.es_model.specs.declared.owned.OwnProperty.{OwnProperty}
use Rattle.es_model.specs.Objects.{same_key, find_property}
use Rattle.es_model.specs.World.{Lists, World, own, proto}
use Rattle.es_model.specs.Changes.{charged}
use Rattle.es_model.specs.Known.{IsObject, IfThere, IsKnownComplete, IsKnownProperty}
use Rattle.es_model.specs.Sound.{IsSound}

found-cond : (l : Lists) (b : Bool) (c : Complete) (rest : Option Complete) → IsKnownComplete l c → IfThere (IsKnownComplete l) rest → IfThere (IsKnownComplete l) (cond b (Some c) rest)
found-cond l true c rest h h' = h
found-cond l false c rest h h' = h'

find-known : (l : Lists) (ps : List OwnProperty) (k : PropKey) → AllByRecursion (IsKnownProperty l) ps → IfThere (IsKnownComplete l) (find_property ps k)
find-known l [] k h = tt
find-known l (p ∷ ps) k h = found-cond l (same_key p.key k) p.complete (find_property ps k) h.0.1 (find-known l ps k h.1)

pub own-known : (w : World) (o : ObjectId) (k : PropKey) → IsSound w → IsObject w.lists o → IfThere (IsKnownComplete w.lists) (own w.lists o k)
own-known w o k sound there = find-known w.lists _ k (sound.intact.objects o there).properties

pub proto-known : (w : World) (o : ObjectId) → IsSound w → IsObject w.lists o → IfThere (IsObject w.lists) (proto w.lists o)
proto-known w o sound there = (sound.intact.objects o there).proto

pub sound-charged : (w : World) (n : ℕ) → IsSound w → IsSound (charged w n)
unfolding charged
sound-charged w n s = record { intact = s.intact; kinds = s.kinds; arrays = s.arrays }
