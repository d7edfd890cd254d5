-- The ordinary methods that change keep worlds sound.
use Rattle.std.proofs.Common.{◌≡◌, false, Option, Some, None, [], ◌∷◌, refl}
use Rattle.property_keys.specs.declared.identifiers.ObjectId.{ObjectId}
use Rattle.property_keys.specs.declared.keys.PropKey.{PropKey}
use Rattle.property_keys.specs.declared.values.Value.{Value}
use Rattle.property_keys.specs.declared.values.Value.TheVariants as value
use Rattle.descriptors.specs.declared.fields.Descriptor.{Descriptor}
use Rattle.descriptors.specs.declared.property.Complete.{Complete}
use Rattle.descriptors.specs.declared.property.Complete.TheVariants.{Stored, Accessor}
use Rattle.es_tree.specs.declared.numbers.SiteId.{SiteId}
use Rattle.es_model.specs.Completions.{Completion}
use Rattle.es_model.specs.declared.requests.Request.TheVariants.{Write, Define, Delete, Prevent, GetOwn, Call}
use Rattle.es_model.specs.Objects.{is_array}
use Rattle.es_model.specs.World.{Lists, World, kind, own, proto}
use Rattle.es_model.specs.Changes.{charged}
use Rattle.es_model.specs.Program.{Of}
use Rattle.es_model.specs.Known.{IsObject, IfThere, IsKnown, IsKnownKey, IsKnownComplete, IsKnownDescriptor}
use Rattle.es_model.specs.Fits.{Fits}
use Rattle.es_model.specs.Sound.{IsSound}
use Rattle.es_model.specs.Kept.{FitsTask, IsKept}
use Rattle.es_model.specs.programs.Abrupt.{value_in, property_in}
use Rattle.ordinary_object.specs.Ordinary.{ordinary_define_own_property, ordinary_delete, ordinary_prevent_extensions, ordinary_set, ordinary_set_with_own_descriptor, set_receiver, set_had, set_existing, value_alone, with_three_true}
use Rattle.es_model.proofs.Abrupt.{answer-kept}
use Rattle.es_model.proofs.ArrayLengths.{no_array-leaves}
use Rattle.es_model.proofs.KnownLater.{known-later, key-later, object-later}
use Rattle.es_model.proofs.SoundReads.{own-known, proto-known, sound-charged}
use Rattle.es_model.proofs.SoundChanges.{sound-defining, sound-deleting, sound-preventing}
use Rattle.es_model.proofs.SoundErrors.{kept-if}

pub define-kept : (w : World) (o : ObjectId) (k : PropKey) (d : Descriptor) → IsSound w → IsObject w.lists o → IsKnownKey w.lists k → IsKnownDescriptor w.lists d → is_array (kind w.lists o) ≡ false → IsKept (FitsTask (Of (Define o k d))) (ordinary_define_own_property o k d) w
define-kept w o k d s there key h other = (sound-defining w o k d s there key h (no_array-leaves w.lists o k d.value other), (tt, tt))

pub delete-kept : (w : World) (o : ObjectId) (k : PropKey) → IsSound w → IsKept (FitsTask (Of (Delete o k))) (ordinary_delete o k) w
delete-kept w o k s = (sound-deleting w o k s, (tt, tt))

pub prevent-kept : (w : World) (o : ObjectId) → IsSound w → IsKept (FitsTask (Of (Prevent o))) (ordinary_prevent_extensions o) w
prevent-kept w o s = (sound-preventing w o s, (tt, tt))

-- ---- [[Set]]

alone-known : (l : Lists) (v : Value) → IsKnown l v → IsKnownDescriptor l (value_alone v)
alone-known l v h = record { value = h; get = tt; set = tt; sound = refl }

three-known : (l : Lists) (v : Value) → IsKnown l v → IsKnownDescriptor l (with_three_true v)
three-known l v h = record { value = h; get = tt; set = tt; sound = refl }

set_existing-kept : (o : ObjectId) (x r : Value) (site : Option SiteId) (w : World) (k : PropKey) (v : Value) (receiver : ObjectId) (found : Option Complete) → IsSound w → IsKnownKey w.lists k → IsKnown w.lists v → IsObject w.lists receiver →
    IsKept (FitsTask (Of (Write o k x r site))) (set_existing k v receiver found) w
set_existing-kept o x r site w k v receiver None s key known there = (s, (there, key, three-known w.lists v known), λ c u later-sound later fit. (later-sound, fit))
set_existing-kept o x r site w k v receiver (Some (Accessor get set e c)) s key known there = (s, (tt, tt))
set_existing-kept o x r site w k v receiver (Some (Stored y flags)) s key known there =
    kept-if (FitsTask (Of (Write o k x r site))) w flags.writable _ _
    (s, (there, key, alone-known w.lists v known), λ c u later-sound later fit. (later-sound, fit)) (s, (tt, tt))

set_had-kept : (o : ObjectId) (x r : Value) (site : Option SiteId) (w : World) (k : PropKey) (v : Value) (receiver : ObjectId) (c : Completion) → IsSound w → IsKnownKey w.lists k → IsKnown w.lists v → IsObject w.lists receiver → Fits w.lists (GetOwn receiver k) c →
    IsKept (FitsTask (Of (Write o k x r site))) (set_had k v receiver c) w
set_had-kept o x r site w k v receiver c s key known there fit =
    answer-kept (Of (Write o k x r site)) (GetOwn receiver k) w property_in (set_existing k v receiver) c s fit (λ y found e h. set_existing-kept o x r site w k v receiver found s key known there)

set_receiver-kept : (o : ObjectId) (x r : Value) (site : Option SiteId) (w : World) (k : PropKey) (v receiver : Value) → IsSound w → IsKnownKey w.lists k → IsKnown w.lists v → IsKnown w.lists receiver →
    IsKept (FitsTask (Of (Write o k x r site))) (set_receiver k v receiver) w
set_receiver-kept o x r site w k v (value.Object receiver) s key known there = (
  s,
  (there, key),
  λ c u later-sound later fit.
      set_had-kept o x r site u k v receiver c later-sound (key-later w.lists u.lists later.lists k key) (known-later w.lists u.lists later.lists v known) (object-later w.lists u.lists later.lists receiver there) fit,
)
set_receiver-kept o x r site w k v value.Undefined s key known there = (s, (tt, tt))
set_receiver-kept o x r site w k v value.Null s key known there = (s, (tt, tt))
set_receiver-kept o x r site w k v (value.Bool b) s key known there = (s, (tt, tt))
set_receiver-kept o x r site w k v (value.Whole n) s key known there = (s, (tt, tt))
set_receiver-kept o x r site w k v (value.Text t) s key known there = (s, (tt, tt))
set_receiver-kept o x r site w k v (value.Symbol y) s key known there = (s, (tt, tt))

ordinary_set_with_own_descriptor-kept : (o : ObjectId) (x r : Value) (site : Option SiteId) (w : World) (found : Option Complete) (up : Option ObjectId) (k : PropKey) (v receiver : Value) → IsSound w → IfThere (IsKnownComplete w.lists) found → IfThere (IsObject w.lists) up → IsKnownKey w.lists k → IsKnown w.lists v → IsKnown w.lists receiver →
    IsKept (FitsTask (Of (Write o k x r site))) (ordinary_set_with_own_descriptor found up k v receiver) w
unfolding charged
ordinary_set_with_own_descriptor-kept o x r site w None (Some parent) k v receiver s h up key known there = (s.intact, (sound-charged w 1 s, (up, key, known, there), λ c u later-sound later fit. (later-sound, fit)))
ordinary_set_with_own_descriptor-kept o x r site w None None k v receiver s h up key known there = set_receiver-kept o x r site w k v receiver s key known there
ordinary_set_with_own_descriptor-kept o x r site w (Some (Stored y flags)) up k v receiver s h u key known there =
    kept-if (FitsTask (Of (Write o k x r site))) w flags.writable _ _ (set_receiver-kept o x r site w k v receiver s key known there) (s, (tt, tt))
ordinary_set_with_own_descriptor-kept o x r site w (Some (Accessor get None e c)) up k v receiver s h u key known there = (s, (tt, tt))
ordinary_set_with_own_descriptor-kept o x r site w (Some (Accessor get (Some setter) e c)) up k v receiver s h u key known there =
    (s, (h.1, there, (known, tt)), λ y z later-sound later fit. answer-kept (Of (Write o k x r site)) (Call (value.Object setter) receiver (v ∷ [])) z value_in _ y later-sound fit (λ a b e g. (later-sound, (tt, tt))))

pub set-kept : (w : World) (o : ObjectId) (k : PropKey) (v receiver : Value) (site : Option SiteId) → IsSound w → IsObject w.lists o → IsKnownKey w.lists k → IsKnown w.lists v → IsKnown w.lists receiver → IsKept (FitsTask (Of (Write o k v receiver site))) (ordinary_set o k v receiver) w
set-kept w o k v receiver site s there key known r = ordinary_set_with_own_descriptor-kept o v receiver site w (own w.lists o k) (proto w.lists o) k v receiver s (own-known w o k s there) (proto-known w o s there) key known r
