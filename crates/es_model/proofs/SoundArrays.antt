-- New objects: their kind, and an Array object that is made and given its length in one step.
use Rattle.std.proofs.Common.{◌≡◌, Bool, true, false, cond, IsTrue, Option, Some, None, List, [], ◌∷◌, ◌++◌, length, length-append, set, refl, sym, subst, ap, ◌∙◌, arith}
use Rattle.property_keys.specs.declared.identifiers.ObjectId.{ObjectId}
use Rattle.property_keys.specs.declared.keys.PropKey.{PropKey}
use Rattle.descriptors.specs.declared.fields.Descriptor.{Descriptor}
use Rattle.descriptors.specs.Completion.{completed}
use Rattle.descriptors.specs.Validation.{verdict_of}
use Rattle.es_tree.specs.Tree.{Tree}
use Rattle.es_model.specs.declared.kinds.ObjectKind.{ObjectKind}
use Rattle.es_model.specs.declared.kinds.ObjectKind.TheVariants as kind_of
use Rattle.es_model.specs.Events.{Origin, Made, MadePrototype}
use Rattle.es_model.specs.Objects.{Object, object_at, add_property, find_property, is_array, is_proxy, new_object_of, no_object, put_object, with_properties}
use Rattle.es_model.specs.World.{Lists, World, kind, new_object}
use Rattle.es_model.specs.Changes.{Defining, Making, added, applied, changed, made, noted, prototype_noted, with_objects}
use Rattle.es_model.specs.Known.{IfThere, IsKnownDescriptor, IsKnownKey, IsObject}
use Rattle.es_model.specs.Sound.{HasLength, IsIntact, IsLengthProperty, IsRightKind, IsSound, length_key}
use Rattle.es_model.proofs.ArrayLengths.{IsNoArray, same_key-itself}
use Rattle.es_model.proofs.Rests.{leaves-changed}
use Rattle.es_model.proofs.SoundNew.{at-end, new-kind, sound-last}
use Rattle.es_model.proofs.SoundProperties.{completed-known}

-- ---- a new object

lists-cond : (b : Bool) (v u : World) (l : Lists) → v.lists ≡ l → u.lists ≡ l → (cond b v u).lists ≡ l
lists-cond true v u l h h' = h
lists-cond false v u l h h' = h'

prototype-lists : (w : World) (p : Option ObjectId) → (prototype_noted w p).lists ≡ w.lists
prototype-lists w None = refl
prototype-lists w (Some p) = lists-cond (is_proxy (kind w.lists p)) w (noted w (MadePrototype p)) w.lists refl refl

abbrev with_new : World → ObjectKind → Option ObjectId → World
with_new w k p = with_objects w (w.lists.objects ++ new_object_of k p ∷ [])

made-lists : (w : World) (k : ObjectKind) (origin : Origin) (p : Option ObjectId) → (changed (Making k origin p) w).lists ≡ (with_new w k p).lists
unfolding changed made
made-lists w k origin p =
    lists-cond (is_proxy k) (with_new w k p) (noted (prototype_noted (with_new w k p) p) (Made (new_object w.lists) origin p)) (with_new w k p).lists refl (prototype-lists (with_new w k p) p)

made-kind : (w : World) (k : ObjectKind) (origin : Origin) (p : Option ObjectId) → kind (changed (Making k origin p) w).lists (new_object w.lists) ≡ k
made-kind w k origin p =
    ap (λ l. kind l (new_object w.lists)) (made-lists w k origin p) ∙ ap (λ (x : Object). x.kind) (at-end w.lists.objects (new_object_of k p) no_object) ∙ new-kind k p (is_proxy k)

-- a new object that is no Array
pub made-no_array : (w : World) (k : ObjectKind) (origin : Origin) (p : Option ObjectId) → is_array k ≡ false → IsNoArray (changed (Making k origin p) w).lists (new_object w.lists)
made-no_array w k origin p other = record {
  there = subst (λ (l : Lists). IsObject l (new_object w.lists)) (sym (made-lists w k origin p)) (let n = length-append w.lists.objects (new_object_of k p ∷ []) in omega arith);
  other = ap is_array (made-kind w k origin p) ∙ other;
}

-- ---- a new Array object (10.4.2.2)

sound-same : (w v : World) → IsSound w → v.lists ≡ w.lists → v.script ≡ w.script → IsSound v
sound-same w v s e e' = record {
  intact = subst IsIntact (sym e) s.intact;
  kinds = subst (λ l. (o : ObjectId) → IsObject l o → IsRightKind v.script l o (kind l o)) (sym e)
      (subst (λ (script : Tree). (o : ObjectId) → IsObject w.lists o → IsRightKind script w.lists o (kind w.lists o)) (sym e') s.kinds);
  arrays = subst (λ l. (o : ObjectId) → IsObject l o → IsTrue (is_array (kind l o)) → HasLength l o) (sym e) s.arrays;
}

set-end : (xs : List Object) (y z : Object) → set (xs ++ y ∷ []) (length xs) z ≡ xs ++ z ∷ []
set-end [] y z = refl
set-end (x ∷ xs) y z = ap (λ rest. x ∷ rest) (set-end xs y z)

-- an Array object with one property
abbrev with_length : Option ObjectId → PropKey → Descriptor → Object
with_length p k d = with_properties (new_object_of kind_of.Array p) (add_property [] k (completed d))

defined-lists : (m : World) (o : ObjectId) (p : Option ObjectId) (k : PropKey) (d : Descriptor) → object_at m.lists.objects o ≡ new_object_of kind_of.Array p →
    (changed (Defining o k d) m).lists ≡ record m.lists { objects = put_object m.lists.objects o (with_length p k d) }
unfolding changed added
defined-lists m o p k d here =
    ap (λ (x : Object). (applied m o k (find_property x.properties k) (verdict_of x.extensible d (find_property x.properties k))).lists) here
    ∙ ap (λ (x : Object). record m.lists { objects = put_object m.lists.objects o (with_properties x (add_property x.properties k (completed d))) }) here

-- the world after an Array object is made and given its length
abbrev pub array_made : World → Origin → Option ObjectId → Descriptor → World
array_made w origin p d = changed (Defining (new_object w.lists) (length_key w.lists) d) (changed (Making kind_of.Array origin p) w)

array-lists : (w : World) (origin : Origin) (p : Option ObjectId) (d : Descriptor) → (array_made w origin p d).lists ≡ (with_objects w (w.lists.objects ++ with_length p (length_key w.lists) d ∷ [])).lists
array-lists w origin p d =
    let o : ObjectId = new_object w.lists in
    let k : PropKey = length_key w.lists in
    let x : Object = with_length p k d in
    let made : (changed (Making kind_of.Array origin p) w).lists ≡ (with_new w kind_of.Array p).lists = made-lists w kind_of.Array origin p in
    defined-lists (changed (Making kind_of.Array origin p) w) o p k d (ap (λ (l : Lists). object_at l.objects o) made ∙ at-end w.lists.objects (new_object_of kind_of.Array p) no_object)
    ∙ ap (λ (l : Lists). record l { objects = put_object l.objects o x }) made
    ∙ ap (λ (xs : List Object). (with_objects w xs).lists) (set-end w.lists.objects (new_object_of kind_of.Array p) x)

pub sound-making_array : (w : World) (origin : Origin) (p : Option ObjectId) (d : Descriptor) → IsSound w → IfThere (IsObject w.lists) p → IsKnownKey w.lists (length_key w.lists) → IsKnownDescriptor w.lists d →
    IsLengthProperty (Some (completed d)) → IsSound (array_made w origin p d)
sound-making_array w origin p d s there key known fits =
    let x : Object = with_length p (length_key w.lists) d in
    sound-same (with_objects w (w.lists.objects ++ x ∷ [])) (array_made w origin p d)
    (sound-last w x s (record { slots = tt; proto = there; properties = ((key, completed-known w.lists d known), tt); distinct = (tt, tt) }) tt
    (λ array. subst (λ b. IsLengthProperty (cond b (Some (completed d)) None)) (sym (same_key-itself (length_key w.lists))) fits))
    (array-lists w origin p d)
    ((leaves-changed (Defining (new_object w.lists) (length_key w.lists) d) (changed (Making kind_of.Array origin p) w)).script ∙ (leaves-changed (Making kind_of.Array origin p) w).script)
