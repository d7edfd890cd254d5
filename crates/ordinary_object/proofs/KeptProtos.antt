-- The program of [[SetPrototypeOf]] of objects that are no Proxies keeps worlds sound: no call of script code stands between its walk and its change.
use Rattle.std.proofs.Common.{◌≡◌, ◌≢◌, ℕ, zero, suc, Bool, true, false, cond, Option, Some, None, length, refl, sym, ap, subst}
use Rattle.std.proofs.lemmas.Bool.{eqb-false}
use Rattle.property_keys.specs.declared.identifiers.ObjectId.{ObjectId}
use Rattle.es_model.specs.Completions.{Completion}
use Rattle.es_model.specs.declared.requests.Request.TheVariants.{SetProto}
use Rattle.es_model.specs.declared.intrinsics.Class.TheVariants as class
use Rattle.es_model.specs.declared.intrinsics.Intrinsic.TheVariants as intrinsic
use Rattle.es_model.specs.StartObjects.{object_of}
use Rattle.es_model.specs.Objects.{is_proxy}
use Rattle.es_model.specs.World.{Lists, World, proto, kind, extensible}
use Rattle.es_model.specs.Changes.{same_proto, charged}
use Rattle.es_model.specs.Program.{Program, Of}
use Rattle.es_model.specs.Known.{IsObject, IfThere}
use Rattle.es_model.specs.Sound.{IsSound, link}
use Rattle.es_model.specs.Kept.{FitsTask, IsKept}
use Rattle.ordinary_object.specs.Ordinary.{same_object, prototype_is_set, set_prototype_round, ordinary_set_prototype_of, set_immutable_prototype, set_prototype_of}
use Rattle.es_model.proofs.Cycles.{IsFree, free-none, free-step}
use Rattle.es_model.proofs.SoundReads.{sound-charged}
use Rattle.es_model.proofs.SoundCycles.{sound-setting_proto}

kept-test : (P : Lists → Completion → Type 0) (w : World) (b : Bool) (p q : Program) → (b ≡ true → IsKept P p w) → (b ≡ false → IsKept P q w) → IsKept P (cond b p q) w
kept-test P w true p q h h' = h refl
kept-test P w false p q h h' = h' refl

prototype_is_set-kept : (w : World) (o : ObjectId) (v : Option ObjectId) → IsSound w → IsObject w.lists o → IfThere (IsObject w.lists) v → is_proxy (kind w.lists o) ≡ false → IsFree w.lists o v →
    IsKept (FitsTask (Of (SetProto o v))) (prototype_is_set o v) w
prototype_is_set-kept w o v s there known plain free = (sound-setting_proto w o v s there known plain free, (tt, tt))

-- the links of a Proxy and of an object that is none
link-proxy : (l : Lists) (p : ObjectId) → is_proxy (kind l p) ≡ true → link l p ≡ None
link-proxy l p e = ap (λ b. cond b None (proto l p)) e

link-plain : (l : Lists) (p : ObjectId) → is_proxy (kind l p) ≡ false → link l p ≡ proto l p
link-plain l p e = ap (λ b. cond b None (proto l p)) e

-- the walk from here on, where it is enough that no link leads back from here
round-kept : (left : ℕ) (w : World) (o : ObjectId) (v p : Option ObjectId) → IsSound w → IsObject w.lists o → IfThere (IsObject w.lists) v → is_proxy (kind w.lists o) ≡ false → (IsFree w.lists o p → IsFree w.lists o v) →
    IsKept (FitsTask (Of (SetProto o v))) (set_prototype_round left o v p) w
unfolding charged
round-kept zero w o v p s there known plain walked = (s, (tt, tt))
round-kept (suc left) w o v None s there known plain walked = (s.intact, prototype_is_set-kept (charged w 1) o v (sound-charged w 1 s) there known plain (walked (free-none w.lists o)))
round-kept (suc left) w o v (Some p) s there known plain walked = (
  s.intact,
  kept-test (FitsTask (Of (SetProto o v))) (charged w 1) (same_object p o) _ _ (λ same. (sound-charged w 1 s, (tt, tt))) (λ other.
      let apart : p.0 ≢ o.0 = eqb-false p.0 o.0 other in
      kept-test (FitsTask (Of (SetProto o v))) (charged w 1) (is_proxy (kind w.lists p)) (prototype_is_set o v) (set_prototype_round left o v (proto w.lists p))
      (λ e. prototype_is_set-kept (charged w 1) o v (sound-charged w 1 s) there known plain (walked (free-step w.lists o p apart (subst (IsFree w.lists o) (sym (link-proxy w.lists p e)) (free-none w.lists o)))))
      (λ e. round-kept left (charged w 1) o v (proto w.lists p) (sound-charged w 1 s) there known plain (λ free. walked (free-step w.lists o p apart (subst (IsFree w.lists o) (sym (link-plain w.lists p e)) free))))),
)

ordinary_set_prototype_of-kept : (w : World) (o : ObjectId) (v : Option ObjectId) → IsSound w → IsObject w.lists o → IfThere (IsObject w.lists) v → is_proxy (kind w.lists o) ≡ false → IsKept (FitsTask (Of (SetProto o v))) (ordinary_set_prototype_of o v) w
ordinary_set_prototype_of-kept w o v s there known plain =
    kept-test (FitsTask (Of (SetProto o v))) w (same_proto (proto w.lists o) v) _ _ (λ e. (s, (tt, tt))) (λ e.
    kept-test (FitsTask (Of (SetProto o v))) w (extensible w.lists o) _ _ (λ e. round-kept (suc (length w.lists.objects)) w o v v s there known plain (λ free. free)) (λ e. (s, (tt, tt))))

pub set_proto-kept : (w : World) (o : ObjectId) (v : Option ObjectId) → IsSound w → IsObject w.lists o → IfThere (IsObject w.lists) v → is_proxy (kind w.lists o) ≡ false → IsKept (FitsTask (Of (SetProto o v))) (set_prototype_of o v) w
set_proto-kept w o v s there known plain =
    kept-test (FitsTask (Of (SetProto o v))) w (same_object o (object_of (intrinsic.Prototype class.Object))) (set_immutable_prototype o v) (ordinary_set_prototype_of o v) (λ e. (s, (tt, tt))) (λ e. ordinary_set_prototype_of-kept w o v s there known plain)
