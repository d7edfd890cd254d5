-- What is refused changes nothing.
use Rattle.std.proofs.Common.{◌≡◌, true, false, Option, Some, None, refl}
use Rattle.property_keys.specs.declared.identifiers.ObjectId.{ObjectId}
use Rattle.property_keys.specs.declared.keys.PropKey.{PropKey}
use Rattle.descriptors.specs.declared.fields.Descriptor.{Descriptor}
use Rattle.descriptors.specs.declared.property.Complete.{Complete}
use Rattle.descriptors.specs.declared.validation.Verdict.{Verdict}
use Rattle.descriptors.specs.declared.validation.Verdict.TheVariants as verdict
use Rattle.descriptors.specs.Validation.{is_allowed}
use Rattle.es_model.specs.World.{World, own, definition, allows, deletes, can_delete}
use Rattle.es_model.specs.Changes.{Defining, Deleting, changed, applied, deleted_at}

applied-refused : (w : World) (o : ObjectId) (k : PropKey) (now : Option Complete) (v : Verdict) → is_allowed v ≡ false → applied w o k now v ≡ w
applied-refused w o k now verdict.Refuse e = refl
applied-refused w o k now verdict.Keep e = refl
applied-refused w o k now (verdict.Apply c) e = absurd (let n : true ≡ false = e in cc)

pub defined-refused : (w : World) (o : ObjectId) (k : PropKey) (d : Descriptor) → allows w.lists o k d ≡ false → changed (Defining o k d) w ≡ w
unfolding changed allows
defined-refused w o k d e = applied-refused w o k (own w.lists o k) (definition w.lists o k d) e

deleted-kept : (w : World) (o : ObjectId) (k : PropKey) (now : Option Complete) → can_delete now ≡ false → deleted_at w o k now ≡ w
deleted-kept w o k None e = refl
deleted-kept w o k (Some c) e = rw e refl

pub deleted-refused : (w : World) (o : ObjectId) (k : PropKey) → deletes w.lists o k ≡ false → changed (Deleting o k) w ≡ w
unfolding changed deletes
deleted-refused w o k e = deleted-kept w o k (own w.lists o k) e
