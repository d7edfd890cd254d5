-- What a call makes is there in each world that a later heap stands for, over plain variables.
use Rattle.std.proofs.Common.{◌≡◌, ◌≤◌, ◌<◌, ℕ, zero, suc, Option, Some, None, List, [], ◌∷◌, ◌++◌, length, slice_get, refl, sym, ◌∙◌, ap, subst, arith}
use Rattle.std.proofs.lemmas.List.{length-append}
use Rattle.property_keys.specs.declared.identifiers.ObjectId.{ObjectId}
use Rattle.property_keys.specs.declared.identifiers.TextId.{TextId}
use Rattle.es_model.specs.declared.kinds.ObjectKind.TheVariants as kind_of
use Rattle.es_model.specs.Changes.{Interning, Making, changed, made, with_objects}
use Rattle.es_model.specs.Events.{Origin}
use Rattle.es_model.specs.Grows.{Grows, fixed_kind}
use Rattle.es_model.specs.Known.{IsObject, IsText}
use Rattle.es_model.specs.Objects.{new_object_of}
use Rattle.es_model.specs.World.{World, new_object, number_of}
use Rattle.es_model.proofs.KnownLater.{object-later, text-later}
use Rattle.es_model.proofs.SoundErrors.{interned-known, noted-objects}
use Rattle.object_heap.specs.Retains.{KeepsAll, Retains}
use Rattle.object_heap.specs.Stands.{HeapView, Goes, StandsFor}
use Rattle.object_heap.proofs.Standing.{cells-stand, count-stands, kind-stands, symbols-stand, texts-stand}

-- a list that has at each place what another one has there is no shorter
no-shorter : {X : Type 0} (xs ys : List X) → ((i : ℕ) (x : X) → slice_get xs i ≡ Some x → slice_get ys i ≡ Some x) → length xs ≤ length ys
no-shorter [] ys f = omega arith
no-shorter (x ∷ xs) [] f = absurd (let n : None ≡ Some x = f zero x refl in cc)
no-shorter (x ∷ xs) (y ∷ ys) f = let rest = no-shorter xs ys (λ i z e. f (suc i) z e) in omega arith

-- what one heap stands for is there in what a later one stands for
pub heap_later : (a b : HeapView) (w v : World) → Retains a b → StandsFor a w → StandsFor b v → Grows w.lists v.lists
unfolding KeepsAll
heap_later a b w v r h k = let all = r.all in record {
  objects = (let n = count-stands a w h in let m = count-stands b v k in let x = all.objects in omega arith);
  kinds = λ o there.
      let within : o.0 < length a.objects = (let n = count-stands a w h in omega arith) in
      ap fixed_kind (sym (kind-stands b v o k)) ∙ all.kinds o within ∙ ap fixed_kind (kind-stands a w o h);
  texts = λ i x e.
      subst (λ (ts : List (List ℕ)). slice_get ts i ≡ Some x) (texts-stand b v k)
      (all.texts i x (subst (λ (ts : List (List ℕ)). slice_get ts i ≡ Some x) (sym (texts-stand a w h)) e));
  symbols = (let n = ap length (symbols-stand a w h) in let m = ap length (symbols-stand b v k) in let x = no-shorter a.symbols b.symbols all.symbols in omega arith);
  cells = (let n = ap length (cells-stand a w h) in let m = ap length (cells-stand b v k) in let x = all.cells in omega arith);
}

-- a text
pub text_there : (units : List ℕ) (a b c : HeapView) (w v : World) (id : TextId) → id ≡ number_of w.lists units → Goes a b w (changed (Interning units) w) → Retains b c → StandsFor c v → IsText v.lists id
text_there units a b c w v id number goes r h =
    let u : World = changed (Interning units) w in
    subst (λ (t : TextId). IsText v.lists t) (sym number) (text-later u.lists v.lists (heap_later b c u v r goes.stands h) (number_of w.lists units) (interned-known w units))

-- an error
pub made-there : (w : World) (origin : Origin) (p : Option ObjectId) → IsObject (changed (Making kind_of.Error origin p) w).lists (new_object w.lists)
unfolding changed made
made-there w origin p =
    let n = length-append w.lists.objects (new_object_of kind_of.Error p ∷ []) in
    let same = noted-objects (with_objects w (w.lists.objects ++ new_object_of kind_of.Error p ∷ [])) p in omega arith

pub error_there : (b c : HeapView) (w v : World) (origin : Origin) (p : Option ObjectId) (o : ObjectId) → o ≡ new_object w.lists → StandsFor b (changed (Making kind_of.Error origin p) w) → Retains b c → StandsFor c v → IsObject v.lists o
error_there b c w v origin p o is h r hv =
    let u : World = changed (Making kind_of.Error origin p) w in
    subst (λ (x : ObjectId). IsObject v.lists x) (sym is) (object-later u.lists v.lists (heap_later b c u v r h hv) (new_object w.lists) (made-there w origin p))
