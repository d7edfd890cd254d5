-- The ordinary methods that only read keep worlds sound.
use Rattle.std.proofs.Common.{Option, Some, None}
use Rattle.property_keys.specs.declared.identifiers.ObjectId.{ObjectId}
use Rattle.property_keys.specs.declared.keys.PropKey.{PropKey}
use Rattle.property_keys.specs.declared.values.Value.{Value}
use Rattle.descriptors.specs.declared.property.Complete.{Complete}
use Rattle.descriptors.specs.declared.property.Complete.TheVariants.{Stored, Accessor}
use Rattle.es_tree.specs.declared.numbers.SiteId.{SiteId}
use Rattle.es_model.specs.declared.requests.Request.TheVariants.{GetOwn, Has, Read, Proto, Extensible}
use Rattle.es_model.specs.World.{World, own, proto}
use Rattle.es_model.specs.Changes.{charged}
use Rattle.es_model.specs.Program.{Of}
use Rattle.es_model.specs.Known.{IsObject, IfThere, IsKnown, IsKnownKey, IsKnownComplete}
use Rattle.es_model.specs.Sound.{IsSound}
use Rattle.es_model.specs.Kept.{FitsTask, IsKept}
use Rattle.ordinary_object.specs.Ordinary.{ordinary_get_own_property, ordinary_get_prototype_of, ordinary_is_extensible, has_property_found, ordinary_has_property, get_found, ordinary_get}
use Rattle.es_model.proofs.SoundReads.{own-known, proto-known, sound-charged}

pub get_own-kept : (w : World) (o : ObjectId) (k : PropKey) → IsSound w → IsObject w.lists o → IsKept (FitsTask (Of (GetOwn o k))) (ordinary_get_own_property o k) w
get_own-kept w o k sound there = (sound, (tt, own-known w o k sound there))

pub get_proto-kept : (w : World) (o : ObjectId) → IsSound w → IsObject w.lists o → IsKept (FitsTask (Of (Proto o))) (ordinary_get_prototype_of o) w
get_proto-kept w o sound there = (sound, (tt, proto-known w o sound there))

pub extensible-kept : (w : World) (o : ObjectId) → IsSound w → IsKept (FitsTask (Of (Extensible o))) (ordinary_is_extensible o) w
extensible-kept w o sound = (sound, (tt, tt))

has_property_found-kept : (w : World) (o : ObjectId) (found : Option Complete) (up : Option ObjectId) (k : PropKey) → IsSound w → IfThere (IsObject w.lists) up → IsKnownKey w.lists k → IsKept (FitsTask (Of (Has o k))) (has_property_found found up k) w
unfolding charged
has_property_found-kept w o (Some c) up k sound known key = (sound, (tt, tt))
has_property_found-kept w o None (Some parent) k sound known key = (sound.intact, (sound-charged w 1 sound, (known, key), λ c v later-sound later fit. (later-sound, fit)))
has_property_found-kept w o None None k sound known key = (sound, (tt, tt))

pub has-kept : (w : World) (o : ObjectId) (k : PropKey) → IsSound w → IsObject w.lists o → IsKnownKey w.lists k → IsKept (FitsTask (Of (Has o k))) (ordinary_has_property o k) w
has-kept w o k sound there key = has_property_found-kept w o (own w.lists o k) (proto w.lists o) k sound (proto-known w o sound there) key

get_found-kept : (w : World) (o : ObjectId) (site : Option SiteId) (found : Option Complete) (up : Option ObjectId) (k : PropKey) (r : Value) → IsSound w → IfThere (IsKnownComplete w.lists) found → IfThere (IsObject w.lists) up → IsKnownKey w.lists k → IsKnown w.lists r →
    IsKept (FitsTask (Of (Read o k r site))) (get_found found up k r) w
unfolding charged
get_found-kept w o site None None k r sound h known key receiver = (sound, (tt, tt))
get_found-kept w o site None (Some parent) k r sound h known key receiver = (sound.intact, (sound-charged w 1 sound, (known, key, receiver), λ c v later-sound later fit. (later-sound, fit)))
get_found-kept w o site (Some (Stored x flags)) up k r sound h known key receiver = (sound, (tt, h))
get_found-kept w o site (Some (Accessor None set e c)) up k r sound h known key receiver = (sound, (tt, tt))
get_found-kept w o site (Some (Accessor (Some getter) set e c)) up k r sound h known key receiver = (sound, (h.0, receiver, tt), λ c v later-sound later fit. (later-sound, fit))

pub get-kept : (w : World) (o : ObjectId) (site : Option SiteId) (k : PropKey) (r : Value) → IsSound w → IsObject w.lists o → IsKnownKey w.lists k → IsKnown w.lists r → IsKept (FitsTask (Of (Read o k r site))) (ordinary_get o k r) w
get-kept w o site k r sound there key receiver = get_found-kept w o site (own w.lists o k) (proto w.lists o) k r sound (own-known w o k sound there) (proto-known w o sound there) key receiver
