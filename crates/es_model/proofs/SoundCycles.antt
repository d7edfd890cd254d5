-- A prototype from which no link leads back to the object may be set.
use Rattle.std.proofs.Common.{◌≡◌, ◌≢◌, false, cond, Option, None, get_or, set, refl, ap, ◌∙◌, arith, ◌&&◌, get_or-set_same, get_or-set_other}
use Rattle.std.specs.Prelude.{not}
use Rattle.std.proofs.lemmas.List.{length-set}
use Rattle.property_keys.specs.declared.identifiers.ObjectId.{ObjectId}
use Rattle.es_model.specs.Objects.{Object, object_at, put_object, no_object, is_proxy}
use Rattle.es_model.specs.World.{Lists, World, proto, kind}
use Rattle.es_model.specs.Changes.{SettingProto, is_there, same_proto, with_object, with_proto, changed}
use Rattle.es_model.specs.Known.{IsObject, IfThere}
use Rattle.es_model.specs.Sound.{IsSound}
use Rattle.es_model.proofs.Cycles.{IsFree, IsRelinked, never_returns-relinked}
use Rattle.es_model.proofs.Growing.{grows-put}
use Rattle.es_model.proofs.SoundChanges.{sound-cond, sound-noted}
use Rattle.es_model.proofs.SoundPut.{link_of, sound-put}

-- ---- an object is replaced by one with another prototype

abbrev relinked : Lists → ObjectId → Option ObjectId → Object
relinked l o v = record (object_at l.objects o) { proto = v }

abbrev with_link : Lists → ObjectId → Option ObjectId → Lists
with_link l o v = record l { objects = put_object l.objects o (relinked l o v) }

object-back : (l : Lists) (o : ObjectId) (v : Option ObjectId) (a : ObjectId) → IsObject (with_link l o v) a → IsObject l a
object-back l o v a h = let n = length-set l.objects o.0 (relinked l o v) in omega arith

object-here : (l : Lists) (o : ObjectId) (v : Option ObjectId) → IsObject l o → (a : ObjectId) → a.0 ≡ o.0 → object_at (with_link l o v).objects a ≡ relinked l o v
object-here l o v there a e = ap (λ i. get_or (set l.objects o.0 (relinked l o v)) i no_object) e ∙ get_or-set_same l.objects o.0 (relinked l o v) no_object there

object-other : (l : Lists) (o : ObjectId) (v : Option ObjectId) (a : ObjectId) → a.0 ≢ o.0 → object_at (with_link l o v).objects a ≡ object_at l.objects a
object-other l o v a e = get_or-set_other l.objects o.0 a.0 (relinked l o v) no_object e

is_relinked : (l : Lists) (o : ObjectId) (v : Option ObjectId) → IsObject l o → is_proxy (kind l o) ≡ false → IsRelinked l (with_link l o v) o v
is_relinked l o v there plain = record {
  there = object-back l o v;
  here = λ a e. ap link_of (object-here l o v there a e) ∙ ap (λ b. cond b None v) plain;
  others = λ a e. ap link_of (object-other l o v a e);
}

-- ---- the change

sound-with_proto : (w : World) (o : ObjectId) (v : Option ObjectId) → IsSound w → IsObject w.lists o → IfThere (IsObject w.lists) v → is_proxy (kind w.lists o) ≡ false → IsFree w.lists o v → IsSound (with_proto w o v)
unfolding with_proto
sound-with_proto w o v s there known plain free =
    let x : Object = relinked w.lists o v in
    sound-noted (with_object w o x) _ (sound-put w o x s (grows-put w o x refl) (never_returns-relinked w.lists (with_link w.lists o v) o v (is_relinked w.lists o v there plain) free s.intact.chains)
    (λ here. let old = s.intact.objects o here in (record { slots = old.slots; proto = known; properties = old.properties; distinct = old.distinct }, s.kinds o here, s.arrays o here)))

-- a prototype from which no link leads back to the object
pub sound-setting_proto : (w : World) (o : ObjectId) (v : Option ObjectId) → IsSound w → IsObject w.lists o → IfThere (IsObject w.lists) v → is_proxy (kind w.lists o) ≡ false → IsFree w.lists o v → IsSound (changed (SettingProto o v) w)
unfolding changed
sound-setting_proto w o v s there known plain free =
    sound-cond (is_there w.lists o && not (is_proxy (kind w.lists o)) && not (same_proto (proto w.lists o) v)) (with_proto w o v) w (sound-with_proto w o v s there known plain free) s
