-- No change of a heap takes anything away.
use Rattle.std.proofs.Common.{◌≡◌, ℕ, zero, suc, ◌≤◌, Bool, true, false, Option, Some, List, [], ◌∷◌, ◌++◌, length, get_or, slice_get, cond, refl, ap, sym, ◌∙◌, subst, arith}
use Rattle.std.specs.List.{list_any}
use Rattle.std.specs.Str.{bytes_eq}
use Rattle.std.proofs.Math.ListN.{set, get_or-append}
use Rattle.std.proofs.lemmas.List.{length-set, length-append}
use Rattle.std.proofs.lemmas.Option.{slice_get_within, slice_get-get_or, get_or_from_slice_get}
use Rattle.property_keys.specs.declared.identifiers.ObjectId.{ObjectId}
use Rattle.property_keys.specs.declared.identifiers.TextId.{TextId}
use Rattle.property_keys.specs.declared.values.Value.{Value}
use Rattle.property_keys.specs.Texts.{interned}
use Rattle.slack_tracking.specs.declared.OriginKind.{OriginKind}
use Rattle.es_model.specs.Grows.{fixed_kind}
use Rattle.property_keys.specs.declared.keys.PropKey.{PropKey}
use Rattle.property_keys.specs.declared.keys.PropKey.TheVariants.{Index, Name, Sym}
use Rattle.descriptors.specs.declared.property.Complete.{Complete}
use Rattle.object_heap.specs.Seen.{Seen, seen_at, put_seen, no_seen, seen_added, seen_replaced, seen_removed}
use Rattle.object_heap.specs.Stands.{HeapView}
use Rattle.object_heap.specs.Origins.{with_origin}
use Rattle.slack_tracking.specs.Slack.{same_origin}
use Rattle.object_heap.specs.Retains.{HasAllOf, KeepsAll, Retains}

retained : (old new : HeapView) → HasAllOf old new → Retains old new
unfolding KeepsAll
retained old new h = record { all = h }

pub retains_none : (heap : HeapView) → Retains heap heap
retains_none heap = retained heap heap (record { objects = omega arith; kinds = λ o b. refl; texts = λ i x h. h; symbols = λ i x h. h; cells = omega arith; origins = λ i x h. h })

pub retains_then : (a b c : HeapView) → Retains a b → Retains b c → Retains a c
unfolding KeepsAll
retains_then a b c r s = let p = r.all in let q = s.all in record {
  all = record {
    objects = let x = p.objects in let y = q.objects in omega arith;
    kinds = λ o h. q.kinds o (let x = p.objects in omega arith) ∙ p.kinds o h;
    texts = λ i x h. q.texts i x (p.texts i x h);
    symbols = λ i x h. q.symbols i x (p.symbols i x h);
    cells = let x = p.cells in let y = q.cells in omega arith;
    origins = λ i x h. q.origins i x (p.origins i x h);
  };
}

pub retains-same : (old new : HeapView) → new ≡ old → Retains old new
retains-same old new e = subst (λ h. Retains old h) (sym e) (retains_none old)

kinds-set : (ss : List Seen) (i j : ℕ) (s : Seen) → fixed_kind s.kind ≡ fixed_kind (get_or ss i no_seen).kind → fixed_kind (get_or (set ss i s) j no_seen).kind ≡ fixed_kind (get_or ss j no_seen).kind
kinds-set [] i j s e = refl
kinds-set (y ∷ ss) zero zero s e = e
kinds-set (y ∷ ss) zero (suc j) s e = refl
kinds-set (y ∷ ss) (suc i) zero s e = refl
kinds-set (y ∷ ss) (suc i) (suc j) s e = kinds-set ss i j s e

-- an object changes, and not in kind
pub retains-put : (old new : HeapView) (object : ObjectId) (s : Seen) → fixed_kind s.kind ≡ fixed_kind (seen_at old.objects object).kind →
    new ≡ record old { objects = put_seen old.objects object s } → Retains old new
retains-put old new object s k e = subst (λ h. Retains old h) (sym e) (retained old (record old { objects = put_seen old.objects object s }) (record {
  objects = let n = length-set old.objects object.0 s in omega arith;
  kinds = λ o b. kinds-set old.objects object.0 o.0 s k;
  texts = λ i x h. h;
  symbols = λ i x h. h;
  cells = omega arith;
  origins = λ i x h. h;
}))

stays-append : {A : Type 0} (xs ys : List A) (i : ℕ) (x : A) → slice_get xs i ≡ Some x → slice_get (xs ++ ys) i ≡ Some x
stays-append xs ys i x h =
    let b = slice_get_within xs i x h in
    let n = length-append xs ys in
    slice_get-get_or (xs ++ ys) i x (omega arith) ∙ ap (λ t. Some t) (get_or-append xs ys x i b ∙ get_or_from_slice_get xs i x x h)

pub retains-made : (old new : HeapView) (s : Seen) → new ≡ record old { objects = old.objects ++ s ∷ [] } → Retains old new
retains-made old new s e = subst (λ h. Retains old h) (sym e) (retained old (record old { objects = old.objects ++ s ∷ [] }) (record {
  objects = let n = length-append old.objects (s ∷ []) in omega arith;
  kinds = λ o b. ap (λ (x : Seen). fixed_kind x.kind) (get_or-append old.objects (s ∷ []) no_seen o.0 b);
  texts = λ i x h. h;
  symbols = λ i x h. h;
  cells = omega arith;
  origins = λ i x h. h;
}))

stays-interned : (known : Bool) (ts : List (List ℕ)) (units : List ℕ) (i : ℕ) (x : List ℕ) → slice_get ts i ≡ Some x → slice_get (cond known ts (ts ++ units ∷ [])) i ≡ Some x
stays-interned false ts units i x h = stays-append ts (units ∷ []) i x h
stays-interned true ts units i x h = h

pub retains-interned : (old new : HeapView) (units : List ℕ) → new ≡ record old { texts = interned old.texts units } → Retains old new
retains-interned old new units e = subst (λ h. Retains old h) (sym e) (retained old (record old { texts = interned old.texts units }) (record {
  objects = omega arith;
  kinds = λ o b. refl;
  texts = λ i x h. stays-interned (list_any (bytes_eq units) old.texts) old.texts units i x h;
  symbols = λ i x h. h;
  cells = omega arith;
  origins = λ i x h. h;
}))

pub retains-symbol : (old new : HeapView) (d : Option TextId) → new ≡ record old { symbols = old.symbols ++ d ∷ [] } → Retains old new
retains-symbol old new d e = subst (λ h. Retains old h) (sym e) (retained old (record old { symbols = old.symbols ++ d ∷ [] }) (record {
  objects = omega arith;
  kinds = λ o b. refl;
  texts = λ i x h. h;
  symbols = λ i x h. stays-append old.symbols (d ∷ []) i x h;
  cells = omega arith;
  origins = λ i x h. h;
}))

-- as many cells or more
pub retains-cells : (old new : HeapView) (cs : List (Option Value)) → length old.cells ≤ length cs → new ≡ record old { cells = cs } → Retains old new
retains-cells old new cs b e = subst (λ h. Retains old h) (sym e) (retained old (record old { cells = cs }) (record {
  objects = omega arith;
  kinds = λ o b. refl;
  texts = λ i x h. h;
  symbols = λ i x h. h;
  cells = b;
  origins = λ i x h. h;
}))

pub retains-turns : (old new : HeapView) (n : ℕ) → new ≡ record old { turns = n } → Retains old new
retains-turns old new n e = subst (λ h. Retains old h) (sym e) (retained old (record old { turns = n }) (record {
  objects = omega arith;
  kinds = λ o b. refl;
  texts = λ i x h. h;
  symbols = λ i x h. h;
  cells = omega arith;
  origins = λ i x h. h;
}))

stays-with_origin : (ks : List OriginKind) (kind : OriginKind) (i : ℕ) (x : OriginKind) → slice_get ks i ≡ Some x → slice_get (with_origin ks kind) i ≡ Some x
stays-with_origin [] kind i x h = absurd (let b = slice_get_within [] i x h in omega arith)
stays-with_origin (k ∷ ks) kind zero x h = elim (same_origin k kind) as (λ b. slice_get (cond b (k ∷ ks) (k ∷ with_origin ks kind)) zero ≡ Some x) [ true ↦ h | false ↦ h ]
stays-with_origin (k ∷ ks) kind (suc i) x h =
    elim (same_origin k kind) as (λ b. slice_get (cond b (k ∷ ks) (k ∷ with_origin ks kind)) (suc i) ≡ Some x) [ true ↦ h | false ↦ stays-with_origin ks kind i x h ]

pub retains-origin : (old new : HeapView) (kind : OriginKind) → new ≡ record old { origins = with_origin old.origins kind } → Retains old new
retains-origin old new kind e = subst (λ h. Retains old h) (sym e) (retained old (record old { origins = with_origin old.origins kind }) (record {
  objects = omega arith;
  kinds = λ o b. refl;
  texts = λ i x h. h;
  symbols = λ i x h. h;
  cells = omega arith;
  origins = λ i x h. stays-with_origin old.origins kind i x h;
}))

-- ---- a property or a slot of an object changes

kind-added : (s : Seen) (key : PropKey) (c : Complete) → (seen_added s key c).kind ≡ s.kind
kind-added s (Index i) c = refl
kind-added s (Name t) c = refl
kind-added s (Sym t) c = refl

pub retains-added : (old new : HeapView) (object : ObjectId) (key : PropKey) (c : Complete) →
    new ≡ record old { objects = put_seen old.objects object (seen_added (seen_at old.objects object) key c) } → Retains old new
retains-added old new object key c e = let s = seen_at old.objects object in retains-put old new object (seen_added s key c) (ap fixed_kind (kind-added s key c)) e

kind-replaced : (s : Seen) (key : PropKey) (c : Complete) → (seen_replaced s key c).kind ≡ s.kind
kind-replaced s (Index i) c = refl
kind-replaced s (Name t) c = refl
kind-replaced s (Sym t) c = refl

pub retains-replaced : (old new : HeapView) (object : ObjectId) (key : PropKey) (c : Complete) →
    new ≡ record old { objects = put_seen old.objects object (seen_replaced (seen_at old.objects object) key c) } → Retains old new
retains-replaced old new object key c e = let s = seen_at old.objects object in retains-put old new object (seen_replaced s key c) (ap fixed_kind (kind-replaced s key c)) e

kind-removed : (s : Seen) (key : PropKey) → (seen_removed s key).kind ≡ s.kind
kind-removed s (Index i) = refl
kind-removed s (Name t) = refl
kind-removed s (Sym t) = refl

pub retains-removed : (old new : HeapView) (object : ObjectId) (key : PropKey) →
    new ≡ record old { objects = put_seen old.objects object (seen_removed (seen_at old.objects object) key) } → Retains old new
retains-removed old new object key e = let s = seen_at old.objects object in retains-put old new object (seen_removed s key) (ap fixed_kind (kind-removed s key)) e
