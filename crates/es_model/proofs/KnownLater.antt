-- What is known stays known while lists grow.
use Rattle.std.proofs.Common.{◌≡◌, ◌<◌, ℕ, Bool, true, false, refl, sym, Option, Some, None, List, [], ◌∷◌, length, get_or, slice_get, ap, ◌∙◌, arith}
use Rattle.std.specs.List.{AllByRecursion}
use Rattle.std.proofs.lemmas.Option.{slice_get_within, slice_get-get_or, get_or_from_slice_get}
use Rattle.property_keys.specs.declared.identifiers.ObjectId.{ObjectId}
use Rattle.property_keys.specs.declared.identifiers.TextId.{TextId}
use Rattle.property_keys.specs.declared.keys.PropKey.{PropKey}
use Rattle.property_keys.specs.declared.keys.PropKey.TheVariants.{Index, Name, Sym}
use Rattle.property_keys.specs.declared.values.Value.{Value}
use Rattle.property_keys.specs.declared.values.Value.TheVariants as value
use Rattle.property_keys.specs.Keys.{array_index_of}
use Rattle.property_keys.specs.Texts.{text_at}
use Rattle.descriptors.specs.declared.fields.Descriptor.{Descriptor}
use Rattle.descriptors.specs.declared.property.Complete.{Complete}
use Rattle.descriptors.specs.declared.property.Complete.TheVariants as complete
use Rattle.es_model.specs.declared.kinds.CellNo.{CellNo}
use Rattle.es_model.specs.declared.kinds.ObjectKind.{ObjectKind}
use Rattle.es_model.specs.declared.kinds.ObjectKind.TheVariants as kind_of
use Rattle.es_model.specs.declared.owned.OwnProperty.{OwnProperty}
use Rattle.es_model.specs.declared.intrinsics.Intrinsic.{Intrinsic}
use Rattle.es_model.specs.StartObjects.{object_of}
use Rattle.es_model.specs.StartTable.{start_kind}
use Rattle.es_tree.specs.Tree.{Tree}
use Rattle.es_model.specs.Builtins.{BuiltinFacts, builtin_facts}
use Rattle.es_model.specs.Objects.{Object, is_proxy}
use Rattle.es_model.specs.World.{Lists, kind}
use Rattle.es_model.specs.Grows.{Grows, fixed_kind}
use Rattle.es_model.specs.Known.{IsObject, IsText, IsCell, IfThere, IsKnown, IsKnownKey, IsKnownComplete, IsKnownProperty, IsKnownDescriptor}
use Rattle.es_model.specs.Sound.{IsKnownKind, IsIntactObject, HasItsProxy, HasRow, IsRightKind}

pub all-map : {X : Type 0} (P Q : X → Type 0) → ((x : X) → P x → Q x) → (xs : List X) → AllByRecursion P xs → AllByRecursion Q xs
all-map P Q f [] h = tt
all-map P Q f (x ∷ xs) h = (f x h.0, all-map P Q f xs h.1)

pub there-map : {X : Type 0} (P Q : X → Type 0) → ((x : X) → P x → Q x) → (x : Option X) → IfThere P x → IfThere Q x
there-map P Q f None h = tt
there-map P Q f (Some x) h = f x h

text-got : (l l' : Lists) → Grows l l' → (i : ℕ) → i < length l.texts → slice_get l'.texts i ≡ Some (get_or l.texts i [])
text-got l l' g i b = g.texts i (get_or l.texts i []) (slice_get-get_or l.texts i [] b)

pub text-later : (l l' : Lists) → Grows l l' → (t : TextId) → IsText l t → IsText l' t
text-later l l' g t b = slice_get_within l'.texts t.0 (get_or l.texts t.0 []) (text-got l l' g t.0 b)

pub units-later : (l l' : Lists) → Grows l l' → (i : ℕ) → i < length l.texts → text_at l'.texts i ≡ text_at l.texts i
units-later l l' g i b = get_or_from_slice_get l'.texts i (get_or l.texts i []) [] (text-got l l' g i b)

pub object-later : (l l' : Lists) → Grows l l' → (o : ObjectId) → IsObject l o → IsObject l' o
object-later l l' g o b = let x = g.objects in omega arith

pub cell-later : (l l' : Lists) → Grows l l' → (c : CellNo) → IsCell l c → IsCell l' c
cell-later l l' g c b = let x = g.cells in omega arith

pub known-later : (l l' : Lists) → Grows l l' → (v : Value) → IsKnown l v → IsKnown l' v
known-later l l' g value.Undefined h = tt
known-later l l' g value.Null h = tt
known-later l l' g (value.Bool b) h = tt
known-later l l' g (value.Whole n) h = h
known-later l l' g (value.Text t) h = text-later l l' g t h
known-later l l' g (value.Symbol s) h = let x = g.symbols in omega arith
known-later l l' g (value.Object o) h = object-later l l' g o h

pub key-later : (l l' : Lists) → Grows l l' → (k : PropKey) → IsKnownKey l k → IsKnownKey l' k
key-later l l' g (Index i) h = h
key-later l l' g (Name t) h = ((text-later l l' g t h.0.0, ap array_index_of (units-later l l' g t.0 h.0.0) ∙ h.0.1), tt)
key-later l l' g (Sym s) h = (tt, (let x = g.symbols in let y = h.1 in omega arith))

pub complete-later : (l l' : Lists) → Grows l l' → (c : Complete) → IsKnownComplete l c → IsKnownComplete l' c
complete-later l l' g (complete.Stored v flags) h = known-later l l' g v h
complete-later l l' g (complete.Accessor get set e c) h =
    (there-map (IsObject l) (IsObject l') (object-later l l' g) get h.0, there-map (IsObject l) (IsObject l') (object-later l l' g) set h.1)

pub property-later : (l l' : Lists) → Grows l l' → (p : OwnProperty) → IsKnownProperty l p → IsKnownProperty l' p
property-later l l' g p h = (key-later l l' g p.key h.0, complete-later l l' g p.complete h.1)

pub descriptor-later : (l l' : Lists) → Grows l l' → (d : Descriptor) → IsKnownDescriptor l d → IsKnownDescriptor l' d
descriptor-later l l' g d h = record {
  value = there-map (IsKnown l) (IsKnown l') (known-later l l' g) d.value h.value;
  get = there-map (IsKnown l) (IsKnown l') (known-later l l' g) d.get h.get;
  set = there-map (IsKnown l) (IsKnown l') (known-later l l' g) d.set h.set;
  sound = h.sound;
}

pub kind-later : (l l' : Lists) → Grows l l' → (k : ObjectKind) → IsKnownKind l k → IsKnownKind l' k
kind-later l l' g kind_of.Ordinary h = tt
kind-later l l' g (kind_of.Function function constructor strict) h = tt
kind-later l l' g (kind_of.Builtin row constructor proxy) h = there-map (IsObject l) (IsObject l') (object-later l l' g) proxy h
kind-later l l' g kind_of.Array h = tt
kind-later l l' g (kind_of.Text t) h = text-later l l' g t h
kind-later l l' g (kind_of.Wrapper v) h = known-later l l' g v h
kind-later l l' g (kind_of.Arguments cells) h =
    all-map (IfThere (IsCell l)) (IfThere (IsCell l')) (there-map (IsCell l) (IsCell l') (cell-later l l' g)) cells h
kind-later l l' g kind_of.Error h = tt
kind-later l l' g (kind_of.Proxy target handler callable constructor) h =
    (there-map (IsObject l) (IsObject l') (object-later l l' g) target h.0, there-map (IsObject l) (IsObject l') (object-later l l' g) handler h.1)

pub intact_object-later : (l l' : Lists) → Grows l l' → (x : Object) → IsIntactObject l x → IsIntactObject l' x
intact_object-later l l' g x h = record {
  slots = kind-later l l' g x.kind h.slots;
  proto = there-map (IsObject l) (IsObject l') (object-later l l' g) x.proto h.proto;
  properties = all-map (IsKnownProperty l) (IsKnownProperty l') (property-later l l' g) x.properties h.properties;
  distinct = h.distinct;
}

proxy-fixed : (k : ObjectKind) → is_proxy (fixed_kind k) ≡ is_proxy k
proxy-fixed kind_of.Ordinary = refl
proxy-fixed (kind_of.Function function constructor strict) = refl
proxy-fixed (kind_of.Builtin row constructor proxy) = refl
proxy-fixed kind_of.Array = refl
proxy-fixed (kind_of.Text t) = refl
proxy-fixed (kind_of.Wrapper v) = refl
proxy-fixed (kind_of.Arguments cells) = refl
proxy-fixed kind_of.Error = refl
proxy-fixed (kind_of.Proxy target handler callable constructor) = refl

its_proxy-later : (l l' : Lists) → Grows l l' → (revokes : Bool) (proxy : Option ObjectId) → HasItsProxy l revokes proxy → HasItsProxy l' revokes proxy
its_proxy-later l l' g true None h = h
its_proxy-later l l' g true (Some p) h =
    (object-later l l' g p h.0, sym (proxy-fixed (kind l' p)) ∙ ap is_proxy (g.kinds p h.0) ∙ proxy-fixed (kind l p) ∙ h.1)
its_proxy-later l l' g false None h = h
its_proxy-later l l' g false (Some p) h = h

row-later : (l l' : Lists) → Grows l l' → (facts : Option BuiltinFacts) (constructor : Bool) (proxy : Option ObjectId) → HasRow l facts constructor proxy → HasRow l' facts constructor proxy
row-later l l' g None constructor proxy h = h
row-later l l' g (Some facts) constructor proxy h = (h.0, its_proxy-later l l' g facts.revokes proxy h.1)

pub right-later : (script : Tree) (l l' : Lists) → Grows l l' → (o : ObjectId) (k : ObjectKind) → IsRightKind script l o k → IsRightKind script l' o k
right-later script l l' g o kind_of.Ordinary h = tt
right-later script l l' g o (kind_of.Function function constructor strict) h = (h.0, (let x = g.cells in let y = h.1 in omega arith))
right-later script l l' g o (kind_of.Builtin row constructor proxy) h = row-later l l' g (builtin_facts row) constructor proxy h
right-later script l l' g o kind_of.Array h = tt
right-later script l l' g o (kind_of.Text t) h = tt
right-later script l l' g o (kind_of.Wrapper v) h = tt
right-later script l l' g o (kind_of.Arguments cells) h = tt
right-later script l l' g o kind_of.Error h = tt
right-later script l l' g o (kind_of.Proxy target handler callable constructor) h = h

-- a start object stays one, with its kind
pub start-later : (l l' : Lists) → Grows l l' → (i : Intrinsic) → IsObject l (object_of i) × (fixed_kind (kind l (object_of i)) ≡ start_kind i) → IsObject l' (object_of i) × (fixed_kind (kind l' (object_of i)) ≡ start_kind i)
start-later l l' g i h = (object-later l l' g (object_of i) h.0, g.kinds (object_of i) h.0 ∙ h.1)
