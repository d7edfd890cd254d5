-- Lists that are made one place after the other.
use Rattle.std.proofs.Common.{◌≡◌, ◌<◌, ◌≤◌, ℕ, zero, suc, Some, None, List, [], ◌∷◌, ◌++◌, length, take, drop, map, slice_get, get_or, refl, ap, sym, ◌∙◌, arith, unwrap_or, option_map}
use Rattle.std.proofs.Math.Seq.{drop-cons}
use Rattle.std.proofs.lemmas.List.{length-map}
use Rattle.std.proofs.lemmas.Option.{slice_get_past, slice_get_within, get_or_from_slice_get}
use Rattle.property_keys.specs.Texts.{HasOneEach, interned}
use Rattle.es_model.specs.declared.start_texts.StartText.{StartText}
use Rattle.es_model.specs.declared.intrinsics.Intrinsic.{Intrinsic}
use Rattle.es_model.specs.StartWorld.{all_intrinsics, start_lists, start_object}
use Rattle.object_heap.specs.Seen.{seen}
use Rattle.es_model.specs.StartTexts.{all_start_texts, start_texts, units_of_start}
use Rattle.object_heap.specs.Tables.{IsTable}
use Rattle.object_heap.proofs.TextNumbers.{one_each-interned}

-- all these texts have numbers
abbrev pub interned_all : List (List ℕ) → List (List ℕ) → List (List ℕ)
interned_all table [] = table
interned_all table (t ∷ ts) = interned_all (interned table t) ts

pub slice_get-map : {A B : Type 0} (f : A → B) (xs : List A) (i : ℕ) (x : A) → slice_get xs i ≡ Some x → slice_get (map f xs) i ≡ Some (f x)
slice_get-map f [] i x e = absurd (let n : None ≡ Some x = e in cc)
slice_get-map f (y ∷ xs) zero x e = ap (λ o. option_map f o) e
slice_get-map f (y ∷ xs) (suc i) x e = slice_get-map f xs i x e

-- one place more
pub taken-more : {A : Type 0} (front all : List A) (x : A) → front ≡ take (length front) all → slice_get all (length front) ≡ Some x → front ++ x ∷ [] ≡ take (length (front ++ x ∷ [])) all
taken-more [] [] x e s = absurd (let n : None ≡ Some x = s in cc)
taken-more [] (y ∷ all) x e s = sym (ap (λ o. unwrap_or o x ∷ []) s)
taken-more (f ∷ front) [] x e s = absurd (let n : f ∷ front ≡ [] = e in cc)
taken-more (f ∷ front) (y ∷ all) x e s =
    let h = taken-more front all x (ap (λ xs. drop 1 xs) e) s in
    λ t. get_or (e t) 0 f ∷ h t

-- the last place
pub taken-all : {A : Type 0} (front all : List A) → front ≡ take (length front) all → slice_get all (length front) ≡ None → front ≡ all
taken-all [] [] e s = refl
taken-all [] (y ∷ all) e s = absurd (let n : Some y ≡ None = s in cc)
taken-all (f ∷ front) [] e s = e
taken-all (f ∷ front) (y ∷ all) e s =
    let h = taken-all front all (ap (λ xs. drop 1 xs) e) s in
    λ t. get_or (e t) 0 f ∷ h t

-- the first of what is left
pub dropped-one : {A : Type 0} (xs : List A) (i : ℕ) (x : A) → slice_get xs i ≡ Some x → drop i xs ≡ x ∷ drop (suc i) xs
dropped-one xs i x e = drop-cons xs i x (slice_get_within xs i x e) ∙ ap (λ y. y ∷ drop (suc i) xs) (get_or_from_slice_get xs i x x e)

past : {A : Type 0} (xs : List A) (i : ℕ) → slice_get xs i ≡ None → length xs ≤ i
past [] i e = omega arith
past (x ∷ xs) zero e = absurd (let n : Some x ≡ None = e in cc)
past (x ∷ xs) (suc i) e = let b = past xs i e in omega arith

drop-past : {A : Type 0} (xs : List A) (i : ℕ) → length xs ≤ i → drop i xs ≡ []
drop-past [] zero b = refl
drop-past [] (suc i) b = refl
drop-past (x ∷ xs) zero b = absurd (omega arith)
drop-past (x ∷ xs) (suc i) b = drop-past xs i (omega arith)

-- ---- the start

pub one_each-all : (table ts : List (List ℕ)) → HasOneEach table → HasOneEach (interned_all table ts)
one_each-all table [] one = one
one_each-all table (t ∷ ts) one = one_each-all (interned table t) ts (one_each-interned table t one)

pub start-table : IsTable start_texts
start-table = record {
  one = one_each-all [] start_texts (λ i j a b e. absurd (let n : i < 0 = a in omega arith));
  message = refl;
  empty = refl;
  there = omega arith;
}

pub start-text : (n m : ℕ) → m ≡ suc n → (table new : List (List ℕ)) (t : StartText) → slice_get all_start_texts n ≡ Some t → interned_all table (drop n start_texts) ≡ start_texts → new ≡ interned table (units_of_start t) →
    interned_all new (drop m start_texts) ≡ start_texts
start-text n m k table new t s e is =
    ap (λ i. interned_all new (drop i start_texts)) k ∙ ap (λ ts. interned_all ts (drop (suc n) start_texts)) is
    ∙ sym (ap (λ ts. interned_all table ts) (dropped-one start_texts n (units_of_start t) (slice_get-map units_of_start all_start_texts n t s))) ∙ e

pub nothing-left : (n : ℕ) (table : List (List ℕ)) → slice_get all_start_texts n ≡ None → interned_all table (drop n start_texts) ≡ start_texts → table ≡ start_texts
nothing-left n table s e = ap (λ ts. interned_all table ts) (sym (drop-past start_texts n (omega (arith, past all_start_texts n s, length-map all_start_texts units_of_start)))) ∙ e

pub start-object : (n : ℕ) (i : Intrinsic) → slice_get all_intrinsics n ≡ Some i → slice_get (map seen start_lists.objects) n ≡ Some (seen (start_object i))
start-object n i e = slice_get-map seen start_lists.objects n (start_object i) (slice_get-map start_object all_intrinsics n i e)

pub no-start_object : (n : ℕ) → slice_get all_intrinsics n ≡ None → slice_get (map seen start_lists.objects) n ≡ None
no-start_object n e = slice_get_past (map seen start_lists.objects) n (past all_intrinsics n e)
