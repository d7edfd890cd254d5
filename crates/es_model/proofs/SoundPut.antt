-- An object replaced by another, and other lists than the objects: what stays sound.
use Rattle.std.proofs.Common.{◌≡◌, ◌<◌, ℕ, zero, suc, cond, IsTrue, Option, Some, None, List, [], ◌∷◌, length, get_or, refl, sym, subst, ap, ◌∙◌, arith}
use Rattle.std.specs.Prelude.{option_and_then}
use Rattle.std.proofs.Math.ListN.{set}
use Rattle.std.proofs.lemmas.List.{length-set}
use Rattle.std.specs.List.{AllByRecursion}
use Rattle.property_keys.specs.declared.identifiers.ObjectId.{ObjectId}
use Rattle.property_keys.specs.Texts.{HasOneEach}
use Rattle.es_model.specs.Objects.{Object, object_at, no_object, is_array, is_proxy}
use Rattle.es_model.specs.World.{Lists, World, kind}
use Rattle.es_model.specs.Changes.{with_object}
use Rattle.es_model.specs.Grows.{Grows}
use Rattle.es_model.specs.Known.{IsObject, IsText, IfThere, IsKnown}
use Rattle.es_model.specs.Sound.{IsIntactObject, IsRightKind, IsShort, IsIntact, IsSound, length_key, link, up, NeverReturns}
use Rattle.es_model.proofs.ArrayLengths.{LengthIn, key-same, length-later}
use Rattle.es_model.proofs.KnownLater.{all-map, there-map, known-later, text-later, intact_object-later, right-later, start-later}

pub at-put : (P : ℕ → Object → Type 0) (os : List Object) (i j : ℕ) (x : Object) → (i < length os → P i x) → P j (get_or os j no_object) → P j (get_or (set os i x) j no_object)
at-put P [] i j x h h' = h'
at-put P (y ∷ os) zero zero x h h' = h (omega arith)
at-put P (y ∷ os) zero (suc j) x h h' = h'
at-put P (y ∷ os) (suc i) zero x h h' = h'
at-put P (y ∷ os) (suc i) (suc j) x h h' = at-put (λ n. P (suc n)) os i j x (λ b. h (omega arith)) h'

-- the link of an object
abbrev pub link_of : Object → Option ObjectId
link_of x = cond (is_proxy x.kind) None x.proto

link-put : (os : List Object) (i j : ℕ) (x : Object) → link_of x ≡ link_of (get_or os i no_object) → link_of (get_or (set os i x) j no_object) ≡ link_of (get_or os j no_object)
link-put [] i j x e = refl
link-put (y ∷ os) zero zero x e = e
link-put (y ∷ os) zero (suc j) x e = refl
link-put (y ∷ os) (suc i) zero x e = refl
link-put (y ∷ os) (suc i) (suc j) x e = link-put os i j x e

and_then-same : (f g : ObjectId → Option ObjectId) → ((o : ObjectId) → f o ≡ g o) → (x : Option ObjectId) → option_and_then f x ≡ option_and_then g x
and_then-same f g e None = refl
and_then-same f g e (Some o) = e o

up-same : (l l' : Lists) → ((o : ObjectId) → link l' o ≡ link l o) → (n : ℕ) (o : ObjectId) → up l' n o ≡ up l n o
up-same l l' e zero o = refl
up-same l l' e (suc n) o = ap (option_and_then (up l' n)) (e o) ∙ and_then-same (up l' n) (up l n) (up-same l l' e n) (link l o)

pub chains-same : (l l' : Lists) → length l'.objects ≡ length l.objects → ((o : ObjectId) → link l' o ≡ link l o) → NeverReturns l → NeverReturns l'
chains-same l l' k e h o n there back = h o n (omega arith) (sym (up-same l l' e (suc n) o) ∙ back)

-- an object is replaced by one with its link
pub chains-put : (w : World) (o : ObjectId) (x : Object) → link_of x ≡ link_of (object_at w.lists.objects o) → NeverReturns w.lists → NeverReturns (with_object w o x).lists
chains-put w o x e h = chains-same w.lists (with_object w o x).lists (length-set w.lists.objects o.0 x) (λ p. link-put w.lists.objects o.0 p.0 x e) h

-- an object is replaced by one that fits in its place
pub sound-put : (w : World) (o : ObjectId) (x : Object) → IsSound w → Grows w.lists (with_object w o x).lists → NeverReturns (with_object w o x).lists →
    (IsObject w.lists o → IsIntactObject w.lists x × IsRightKind w.script w.lists o x.kind × (IsTrue (is_array x.kind) → LengthIn (length_key w.lists) x.properties)) → IsSound (with_object w o x)
sound-put w o x s g chains fits =
    let l : Lists = w.lists in
    let l' : Lists = (with_object w o x).lists in
    let same : length l'.objects ≡ length l.objects = length-set l.objects o.0 x in
    let i : IsIntact l = s.intact in
    record {
      intact = record {
        objects = λ p there. intact_object-later l l' g (object_at l'.objects p) (at-put (λ n y. IsIntactObject l y) l.objects o.0 p.0 x (λ b. (fits b).0) (i.objects p (omega arith)));
        cells = all-map (IfThere (IsKnown l)) (IfThere (IsKnown l')) (there-map (IsKnown l) (IsKnown l') (known-later l l' g)) l.cells i.cells;
        descriptions = all-map (IfThere (IsText l)) (IfThere (IsText l')) (there-map (IsText l) (IsText l') (text-later l l' g)) l.symbols i.descriptions;
        texts = i.texts;
        lengths = i.lengths;
        symbols = i.symbols;
        start = λ k. start-later l l' g k (i.start k);
        chains = chains;
      };
      kinds = λ p there. right-later w.script l l' g p (kind l' p) (at-put (λ n y. IsRightKind w.script l (record { 0 = n }) y.kind) l.objects o.0 p.0 x (λ b. (fits b).1) (s.kinds p (omega arith)));
      arrays = λ p there array. subst (λ key. LengthIn key (object_at l'.objects p).properties) (sym (key-same l l' refl))
          (at-put (λ n y. IsTrue (is_array y.kind) → LengthIn (length_key l) y.properties) l.objects o.0 p.0 x (λ b. (fits b).2) (s.arrays p (omega arith)) array);
    }

-- ---- lists other than the objects

pub sound-others : (w v : World) → IsSound w → Grows w.lists v.lists → v.script ≡ w.script → v.lists.objects ≡ w.lists.objects →
    AllByRecursion (IfThere (IsKnown v.lists)) v.lists.cells → AllByRecursion (IfThere (IsText v.lists)) v.lists.symbols → HasOneEach v.lists.texts → AllByRecursion IsShort v.lists.texts → IsSound v
sound-others w v s g e os cells descriptions texts lengths =
    let there-before : (p : ObjectId) → IsObject v.lists p → IsObject w.lists p = λ p there. subst (λ (xs : List Object). p.0 < length xs) os there in
    let i : IsIntact w.lists = s.intact in
    record {
      intact = record {
        objects = λ p there. subst (λ (xs : List Object). IsIntactObject v.lists (object_at xs p)) (sym os)
            (intact_object-later w.lists v.lists g (object_at w.lists.objects p) (i.objects p (there-before p there)));
        cells = cells;
        descriptions = descriptions;
        texts = texts;
        lengths = lengths;
        symbols = let a = g.symbols in let b = i.symbols in omega arith;
        start = λ k. start-later w.lists v.lists g k (i.start k);
        chains = chains-same w.lists v.lists (ap length os) (λ o. ap (λ (xs : List Object). link_of (object_at xs o)) os) i.chains;
      };
      kinds = λ p there. subst (λ script. IsRightKind script v.lists p (kind v.lists p)) (sym e)
          (subst (λ (xs : List Object). IsRightKind w.script v.lists p (object_at xs p).kind) (sym os)
          (right-later w.script w.lists v.lists g p (kind w.lists p) (s.kinds p (there-before p there))));
      arrays = λ p there. subst (λ (xs : List Object). IsTrue (is_array (object_at xs p).kind) → LengthIn (length_key v.lists) (object_at xs p).properties) (sym os)
          (λ array. length-later w.lists v.lists g texts (object_at w.lists.objects p).properties (i.objects p (there-before p there)).properties (s.arrays p (there-before p there) array));
    }
