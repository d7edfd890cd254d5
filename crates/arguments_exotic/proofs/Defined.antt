-- The properties of the arguments are defined one after the other.
use Rattle.std.proofs.Common.{◌≡◌, ◌≤◌, ℕ, zero, suc, Some, None, List, [], ◌∷◌, length, drop, slice_get, refl, sym, ap, subst, ◌∙◌, arith}
use Rattle.property_keys.specs.declared.identifiers.ObjectId.{ObjectId}
use Rattle.property_keys.specs.declared.values.Value.{Value}
use Rattle.es_model.specs.World.{World}
use Rattle.object_heap.specs.Stands.{HeapView, StandsFor, Goes, goes_none, goes_then}
use Rattle.arguments_exotic.specs.Creating.{argument_defined, arguments_defined}

-- the first of those that are left
drop-one : (vs : List Value) (i : ℕ) (x : Value) → slice_get vs i ≡ Some x → drop i vs ≡ x ∷ drop (suc i) vs
drop-one [] i x e = absurd (let n : None ≡ Some x = e in cc)
drop-one (v ∷ vs) zero x e = λ t. (let same : v ≡ x = cc in same) t ∷ vs
drop-one (v ∷ vs) (suc i) x e = drop-one vs i x e

drop-past : (vs : List Value) (i : ℕ) → length vs ≤ i → drop i vs ≡ []
drop-past [] zero h = refl
drop-past [] (suc i) h = refl
drop-past (v ∷ vs) zero h = absurd (omega (arith, h))
drop-past (v ∷ vs) (suc i) h = drop-past vs i (omega (arith, h))

-- the arguments behind a number are left
abbrev pub Defined : HeapView → HeapView → World → ObjectId → List Value → ℕ → Type 0
Defined a b w o vs i = (v : World) × Goes a b w v × (arguments_defined o 0 vs w ≡ arguments_defined o i (drop i vs) v)

pub defined_none : (a : HeapView) (w : World) (o : ObjectId) (vs : List Value) → StandsFor a w → Defined a a w o vs 0
defined_none a w o vs h = (w, goes_none a w h, refl)

pub defined_one : (a b c : HeapView) (w : World) (o : ObjectId) (vs : List Value) (i j : ℕ) (x : Value) → j ≡ suc i → slice_get vs i ≡ Some x → Defined a b w o vs i →
    ((v : World) → StandsFor b v → Goes b c v (argument_defined o i x v)) → Defined a c w o vs j
defined_one a b c w o vs i j x more found (v, g, e) goes =
    let u : World = argument_defined o i x v in
    (u, goes_then a b c w v u g (goes v g.stands), e ∙ ap (λ l. arguments_defined o i l v) (drop-one vs i x found) ∙ ap (λ n. arguments_defined o n (drop n vs) u) (sym more))

pub defined_all : (a b : HeapView) (w : World) (o : ObjectId) (vs : List Value) (i : ℕ) → length vs ≤ i → Defined a b w o vs i → Goes a b w (arguments_defined o 0 vs w)
defined_all a b w o vs i past (v, g, e) = subst (Goes a b w) (sym (e ∙ ap (λ l. arguments_defined o i l v) (drop-past vs i past))) g
