-- The parts of the list of own keys.
use Rattle.std.proofs.Common.{◌≡◌, ℕ, zero, suc, List, [], ◌∷◌, ◌++◌, length, map, refl, ap, sym, ◌∙◌, arith, ◌+◌}
use Rattle.std.proofs.Math.Numerals.{add-one}
use Rattle.std.specs.Prelude.{filter}
use Rattle.std.specs.Ordering.{nat_cmp}
use Rattle.std.specs.BTreeSet.{insert_key}
use Rattle.std.specs.FinMap as map_of
use Rattle.std.specs.FinMap.{FinMap, put}
use Rattle.std.proofs.lemmas.Cmp.{nat_cmp_total}
use Rattle.std.proofs.lemmas.Bool.Decides.{nat_tests}
use Rattle.property_keys.specs.declared.keys.PropKey.{PropKey}
use Rattle.property_keys.specs.declared.keys.PropKey.TheVariants.{Index, Name, Sym}
use Rattle.descriptors.specs.declared.property.Complete.{Complete}
use Rattle.es_model.specs.declared.owned.OwnProperty.{OwnProperty}
use Rattle.property_keys.specs.declared.identifiers.ObjectId.{ObjectId}
use Rattle.es_model.specs.declared.kinds.ObjectKind.{ObjectKind}
use Rattle.es_model.specs.declared.kinds.ObjectKind.TheVariants as kind_of
use Rattle.es_model.specs.Objects.{Object, object_at}
use Rattle.es_model.specs.World.{Lists, World}
use Rattle.object_heap.specs.Stands.{HeapView, StandsFor}
use Rattle.object_heap.proofs.Standing.{seen-stands, texts-stand}
use Rattle.es_model.specs.OwnKeys.{own_keys, code_units, put_index, put_key, indices_in, with_indices_below, is_name, is_symbol, keys_in}
use Rattle.object_heap.specs.Keys.{listed_keys, seen_keys, units_in}
use Rattle.object_heap.specs.Seen.{Seen, seen, seen_at, named, indexed, with_index}

pub insert_key-is : (is : List ℕ) (i : ℕ) → insert_key nat_cmp is i ≡ put_index i is
insert_key-is [] i = refl
insert_key-is (j ∷ is) i = grind (arith, nat_tests, insert_key-is is i)

-- the order in which indices come is not seen
pub put-swap : (i j : ℕ) (is : List ℕ) → put_index i (put_index j is) ≡ put_index j (put_index i is)
put-swap i j [] = grind (arith, nat_tests)
put-swap i j (k ∷ is) = grind (arith, nat_tests, put-swap i j is)

below-swap : (n m : ℕ) (is : List ℕ) → put_index m (with_indices_below n is) ≡ with_indices_below n (put_index m is)
below-swap zero m is = refl
below-swap (suc n) m is = below-swap n m (put_index n is) ∙ ap (with_indices_below n) (put-swap m n is)

-- one index more from below
pub below-more : (n : ℕ) (is : List ℕ) → put_index n (with_indices_below n is) ≡ with_indices_below (n + 1) is
below-more n is = below-swap n n is ∙ ap (λ m. with_indices_below m is) (sym (add-one n))

key-swap : (j k : PropKey) (is : List ℕ) → put_key j (put_key k is) ≡ put_key k (put_key j is)
key-swap (Index i) (Index j) is = put-swap i j is
key-swap (Index i) (Name t) is = refl
key-swap (Index i) (Sym s) is = refl
key-swap (Name t) k is = refl
key-swap (Sym s) k is = refl

-- one property more
pub indices-more : (ps : List OwnProperty) (p : OwnProperty) → indices_in (ps ++ p ∷ []) ≡ put_key p.key (indices_in ps)
indices-more [] p = refl
indices-more (q ∷ ps) p = ap (put_key q.key) (indices-more ps p) ∙ key-swap q.key p.key (indices_in ps)

-- ---- what is seen has the same keys

put-keys : (k : ℕ) (c : Complete) (es : List (ℕ × Complete)) → map (λ (e : ℕ × Complete). e.0) (put nat_cmp k c es) ≡ put_index k (map (λ (e : ℕ × Complete). e.0) es)
put-keys k c [] = refl
put-keys k c (e ∷ es) = grind (arith, nat_tests, put-keys k c es)

no-entries : {A : Type 0} (es : List A) → length es ≡ 0 → es ≡ []
no-entries [] e = refl
no-entries (x ∷ es) e = absurd (omega arith)

keys-empty : map_of.keys (map_of.empty {X = Complete} {R = nat_cmp}) ≡ []
keys-empty = ap (map (λ (e : ℕ × Complete). e.0)) (no-entries (map_of.entries (map_of.empty {X = Complete} {R = nat_cmp})) (sym (map_of.len-entries (map_of.empty {X = Complete} {R = nat_cmp})) ∙ map_of.len-empty nat_cmp Complete))

keys-with : (k : PropKey) (c : Complete) (m : FinMap nat_cmp Complete) → map_of.keys (with_index k c m) ≡ put_key k (map_of.keys m)
keys-with (Index i) c m = ap (map (λ (e : ℕ × Complete). e.0)) (map_of.entries-insert nat_cmp_total m i c) ∙ put-keys i c (map_of.entries m)
keys-with (Name t) c m = refl
keys-with (Sym s) c m = refl

indices-seen : (ps : List OwnProperty) → indices_in ps ≡ map_of.keys (indexed ps)
indices-seen [] = sym keys-empty
indices-seen (p ∷ ps) = ap (put_key p.key) (indices-seen ps) ∙ sym (keys-with p.key p.complete (indexed ps))

names-seen : (ps : List OwnProperty) → filter is_name (keys_in ps) ≡ filter is_name (keys_in (named ps))
names-seen [] = refl
names-seen (p ∷ ps) = grind (arith, names-seen ps)

symbols-seen : (ps : List OwnProperty) → filter is_symbol (keys_in ps) ≡ filter is_symbol (keys_in (named ps))
symbols-seen [] = refl
symbols-seen (p ∷ ps) = grind (arith, symbols-seen ps)

pub listed-seen : (count : ℕ) (o : Object) → listed_keys count o.properties ≡ seen_keys count (seen o)
listed-seen count o = λ t. map Index (with_indices_below count (indices-seen o.properties t)) ++ names-seen o.properties t ++ symbols-seen o.properties t

-- ---- the world's keys

units-is : (l : Lists) (k : ObjectKind) → units_in l.texts k ≡ code_units l k
units-is l (kind_of.Text t) = refl
units-is l other = refl

pub keys-stand : (heap : HeapView) (w : World) (object : ObjectId) → StandsFor heap w → seen_keys (units_in heap.texts (seen_at heap.objects object).kind) (seen_at heap.objects object) ≡ own_keys w.lists object
unfolding own_keys
keys-stand heap w object h =
    let o = object_at w.lists.objects object in
    ap (λ (s : Seen). seen_keys (units_in heap.texts s.kind) s) (seen-stands heap w object h)
    ∙ ap (λ ts. seen_keys (units_in ts o.kind) (seen o)) (texts-stand heap w h)
    ∙ ap (λ n. seen_keys n (seen o)) (units-is w.lists o.kind)
    ∙ sym (listed-seen (code_units w.lists o.kind) o)
