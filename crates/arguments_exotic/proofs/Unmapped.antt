-- An index of an arguments object is unmapped: worlds stay sound.
use Rattle.std.proofs.Common.{◌≡◌, ℕ, cond, None, IsTrue, refl, ap, subst}
use Rattle.property_keys.specs.declared.identifiers.ObjectId.{ObjectId}
use Rattle.es_tree.specs.Tree.{Tree}
use Rattle.es_model.specs.declared.kinds.ObjectKind.{ObjectKind}
use Rattle.es_model.specs.declared.kinds.ObjectKind.TheVariants as kind_of
use Rattle.es_model.specs.Changes.{Unmapping, changed, with_kind}
use Rattle.es_model.specs.Known.{IfThere, IsCell}
use Rattle.es_model.specs.Objects.{Object, is_array, is_proxy, object_at, unmapped_kind}
use Rattle.es_model.specs.Sound.{IsKnownKind, IsRightKind, IsSound}
use Rattle.es_model.specs.World.{Lists, World}
use Rattle.es_model.proofs.Growing.{grows-changed}
use Rattle.es_model.proofs.SoundProperties.{all-set}
use Rattle.es_model.proofs.SoundPut.{chains-put, sound-put}

slots-unmapped : (l : Lists) (k : ObjectKind) (i : ℕ) → IsKnownKind l k → IsKnownKind l (unmapped_kind k i)
slots-unmapped l kind_of.Ordinary i h = h
slots-unmapped l (kind_of.Function function constructor strict) i h = h
slots-unmapped l (kind_of.Builtin row constructor proxy) i h = h
slots-unmapped l kind_of.Array i h = h
slots-unmapped l (kind_of.Text t) i h = h
slots-unmapped l (kind_of.Wrapper v) i h = h
slots-unmapped l (kind_of.Arguments cells) i h = all-set (IfThere (IsCell l)) cells i None tt h
slots-unmapped l kind_of.Error i h = h
slots-unmapped l (kind_of.Proxy target handler callable constructor) i h = h

right-unmapped : (script : Tree) (l : Lists) (o : ObjectId) (k : ObjectKind) (i : ℕ) → IsRightKind script l o k → IsRightKind script l o (unmapped_kind k i)
right-unmapped script l o kind_of.Ordinary i h = h
right-unmapped script l o (kind_of.Function function constructor strict) i h = h
right-unmapped script l o (kind_of.Builtin row constructor proxy) i h = h
right-unmapped script l o kind_of.Array i h = h
right-unmapped script l o (kind_of.Text t) i h = h
right-unmapped script l o (kind_of.Wrapper v) i h = h
right-unmapped script l o (kind_of.Arguments cells) i h = h
right-unmapped script l o kind_of.Error i h = h
right-unmapped script l o (kind_of.Proxy target handler callable constructor) i h = h

proxy-unmapped : (k : ObjectKind) (i : ℕ) → is_proxy (unmapped_kind k i) ≡ is_proxy k
proxy-unmapped kind_of.Ordinary i = refl
proxy-unmapped (kind_of.Function function constructor strict) i = refl
proxy-unmapped (kind_of.Builtin row constructor proxy) i = refl
proxy-unmapped kind_of.Array i = refl
proxy-unmapped (kind_of.Text t) i = refl
proxy-unmapped (kind_of.Wrapper v) i = refl
proxy-unmapped (kind_of.Arguments cells) i = refl
proxy-unmapped kind_of.Error i = refl
proxy-unmapped (kind_of.Proxy target handler callable constructor) i = refl

array-unmapped : (k : ObjectKind) (i : ℕ) → is_array (unmapped_kind k i) ≡ is_array k
array-unmapped kind_of.Ordinary i = refl
array-unmapped (kind_of.Function function constructor strict) i = refl
array-unmapped (kind_of.Builtin row constructor proxy) i = refl
array-unmapped kind_of.Array i = refl
array-unmapped (kind_of.Text t) i = refl
array-unmapped (kind_of.Wrapper v) i = refl
array-unmapped (kind_of.Arguments cells) i = refl
array-unmapped kind_of.Error i = refl
array-unmapped (kind_of.Proxy target handler callable constructor) i = refl

pub sound-unmapping : (w : World) (o : ObjectId) (i : ℕ) → IsSound w → IsSound (changed (Unmapping o i) w)
unfolding changed with_kind
sound-unmapping w o i s =
    let x : Object = object_at w.lists.objects o in
    let x' : Object = record x { kind = unmapped_kind x.kind i } in
    sound-put w o x' s (grows-changed (Unmapping o i) w) (chains-put w o x' (ap (λ b. cond b None x.proto) (proxy-unmapped x.kind i)) s.intact.chains)
    (λ there. let old = s.intact.objects o there in (
      record { slots = slots-unmapped w.lists x.kind i old.slots; proto = old.proto; properties = old.properties; distinct = old.distinct },
      right-unmapped w.script w.lists o x.kind i (s.kinds o there),
      λ array. s.arrays o there (subst IsTrue (array-unmapped x.kind i) array),
    ))
