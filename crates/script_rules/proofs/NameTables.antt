-- A table of names, and the names that it stands for.
use Rattle.std.proofs.Common.{◌<◌, ◌-◌, subst, zero, drop, slice_get, ◌≡◌, ◌++◌, ◌∙◌, ap, sym, refl, ℕ, suc, ◌+◌, Bool, true, false, cond, inl, inr, List, [], ◌∷◌, length, position, Option, Some, None, is_some, option_map, nat_lt, add-zero, zero-add, true≢false, arith}
use Rattle.std.specs.List.{list_any, position_or_len}
use Rattle.std.specs.Map.{lookup, keys_of}
use Rattle.std.specs.Str.{bytes_eq}
use Rattle.std.proofs.lemmas.Bool.{cases_Bool}
use Rattle.std.proofs.lemmas.List.{drop_more}
use Rattle.std.proofs.lemmas.Option.{slice_get_within, get_or_from_slice_get}
use Rattle.indexmap.specs.IndexMap.{IndexMap, insert_entry}
use Rattle.indexmap.proofs.CallerLemmas.{insert_entry-new}
use Rattle.script_rules.specs.Bounds.{Bound, bound, bounds_of, has_name, place_from, with_name}

pub bounds_of-append : (xs ys : List (List ℕ × Bool)) → bounds_of (xs ++ ys) ≡ bounds_of xs ++ bounds_of ys
bounds_of-append [] ys = refl
bounds_of-append (x ∷ xs) ys = ap (λ bs. bound x.0 x.1 ∷ bs) (bounds_of-append xs ys)

pub length-bounds_of : (xs : List (List ℕ × Bool)) → length (bounds_of xs) ≡ length xs
length-bounds_of [] = refl
length-bounds_of (x ∷ xs) = ap suc (length-bounds_of xs)

pub is_there : (es : List (List ℕ × Bool)) (u : List ℕ) → list_any (has_name u) (bounds_of es) ≡ is_some (lookup (bytes_eq u) es)
is_there [] u = refl
is_there (e ∷ es) u = elim (cases_Bool (bytes_eq u e.0)) [ inl t ↦ rw t refl | inr f ↦ rw f (is_there es u) ]

abbrev at_place : ℕ → Option Bool → Option (ℕ × Bool)
at_place p found = option_map (λ v. (p, v)) found

one_more : (p n : ℕ) → suc p + n ≡ p + (1 + n)
one_more p n = omega arith

here : (p : ℕ) (v : Bool) → Some (p, v) ≡ at_place (p + 0) (Some v)
here p v = ap (λ q. Some (q, v)) (sym (add-zero p))

-- the place of a name is that of its key
pub place_is : (es : List (List ℕ × Bool)) (u : List ℕ) (p : ℕ)
    → place_from p (bounds_of es) u ≡ at_place (p + position_or_len (bytes_eq u) (keys_of es)) (lookup (bytes_eq u) es)
place_is [] u p = refl
place_is (e ∷ es) u p =
    elim (cases_Bool (bytes_eq u e.0)) [
      | inl t ↦ rw t (here p e.1)
      | inr f ↦ rw f (place_is es u (suc p) ∙ ap (λ q. at_place q (lookup (bytes_eq u) es)) (one_more p (position_or_len (bytes_eq u) (keys_of es))))
    ]

or_len_by : (b : Bool) (n i : ℕ) → cond b (Some n) None ≡ Some i → n ≡ i
or_len_by true n i e = cc
or_len_by false n i e = cc

or_len : (test : List ℕ → Bool) (ks : List (List ℕ)) (i : ℕ) → position test ks ≡ Some i → position_or_len test ks ≡ i
or_len test ks i e = or_len_by (nat_lt (position_or_len test ks) (length ks)) _ _ e

pub found_place : (es : List (List ℕ × Bool)) (u : List ℕ) (i : ℕ) (v : Bool) → Some i ≡ position (bytes_eq u) (keys_of es) → Some v ≡ lookup (bytes_eq u) es
    → Some (i, v) ≡ place_from 0 (bounds_of es) u
found_place es u i v p l =
    sym (place_is es u 0 ∙ rw (← l) (ap (λ q. Some (q, v)) (zero-add (position_or_len (bytes_eq u) (keys_of es)) ∙ or_len (bytes_eq u) (keys_of es) i (sym p))))

pub no_place : (es : List (List ℕ × Bool)) (u : List ℕ) → None ≡ lookup (bytes_eq u) es → None ≡ place_from 0 (bounds_of es) u
no_place es u l = sym (place_is es u 0 ∙ ap (at_place (0 + position_or_len (bytes_eq u) (keys_of es))) (sym l))

pub stays : (es : List (List ℕ × Bool)) (u : List ℕ) (b : Bool) → is_some (lookup (bytes_eq u) es) ≡ true → bounds_of es ≡ with_name (bounds_of es) (bound u b)
stays es u b there = rw (is_there es u ∙ there) refl

pub added : (es : List (List ℕ × Bool)) (u : List ℕ) (b : Bool) → is_some (lookup (bytes_eq u) es) ≡ false
    → bounds_of (es ++ (u, b) ∷ []) ≡ with_name (bounds_of es) (bound u b)
added es u b absent = rw (is_there es u ∙ absent) (bounds_of-append es ((u, b) ∷ []))

none_by : (o : Option Bool) → is_some o ≡ false → o ≡ None
none_by None e = refl
none_by (Some v) e = absurd (true≢false e)

pub inserted : {S : Type 0} (m : IndexMap (List ℕ) Bool S) (u : List ℕ) (b : Bool) (entries : List (List ℕ × Bool)) → is_some (lookup (bytes_eq u) m.entries) ≡ false
    → entries ≡ insert_entry bytes_eq m.entries u b → bounds_of entries ≡ with_name (bounds_of m.entries) (bound u b)
inserted m u b entries absent e = ap bounds_of (e ∙ insert_entry-new bytes_eq m u b (none_by _ absent)) ∙ added m.entries u b absent

-- ---- the names are gone over from the first on

abbrev pub LooksOn : List Bound → List ℕ → ℕ → Type 0
LooksOn bs u i = place_from i (drop i bs) u ≡ place_from 0 bs u

bound_at : (es : List (List ℕ × Bool)) (i : ℕ) (k : List ℕ) (v : Bool) → slice_get es i ≡ Some (k, v) → slice_get (bounds_of es) i ≡ Some (bound k v)
bound_at [] i k v at = absurd (cc at)
bound_at (e ∷ es) zero k v at = ap (λ o. option_map (λ (p : List ℕ × Bool). bound p.0 p.1) o) at
bound_at (e ∷ es) (suc i) k v at = bound_at es i k v at

module _ (es : List (List ℕ × Bool)) (bs : List Bound) (u : List ℕ) (i : ℕ) (k : List ℕ) (v : Bool) (is : bounds_of es ≡ bs) (at : slice_get es i ≡ Some (k, v)) where
  here_is : slice_get bs i ≡ Some (bound k v)
  here_is = subst (λ (xs : List Bound). slice_get xs i ≡ Some (bound k v)) is (bound_at es i k v at)

  pub within : i < length bs
  within = slice_get_within bs i (bound k v) here_is

  opened : drop i bs ≡ bound k v ∷ drop (i + 1) bs
  opened = drop_more bs i (bound k v) within ∙ ap (λ e. e ∷ drop (i + 1) bs) (get_or_from_slice_get bs i (bound k v) (bound k v) here_is)

  pub looks_here : bytes_eq u k ≡ true → LooksOn bs u i → Some (i, v) ≡ place_from 0 bs u
  looks_here t l = sym (sym l ∙ ap (λ xs. place_from i xs u) opened ∙ rw t refl)

  pub looks_past : bytes_eq u k ≡ false → LooksOn bs u i → LooksOn bs u (i + 1)
  looks_past f l = sym (sym l ∙ ap (λ xs. place_from i xs u) opened ∙ rw f (ap (λ n. place_from n (drop (i + 1) bs) u) (after i)))
    where
      after : (n : ℕ) → suc n ≡ n + 1
      after n = omega arith

past : (es : List (List ℕ × Bool)) (i : ℕ) → slice_get es i ≡ None → drop i (bounds_of es) ≡ []
past [] zero e = refl
past [] (suc i) e = refl
past (x ∷ es) zero e = absurd (cc e)
past (x ∷ es) (suc i) e = past es i e

pub none_at : {A B : Type 0} (f : A → B) (o : Option A) (x : Option B) → option_map f o ≡ x → o ≡ None → x ≡ None
none_at f o x p q = sym p ∙ ap (option_map f) q

pub looks_nowhere : (es : List (List ℕ × Bool)) (bs : List Bound) (u : List ℕ) (i : ℕ) → bounds_of es ≡ bs → slice_get es i ≡ None → LooksOn bs u i → None ≡ place_from 0 bs u
looks_nowhere es bs u i is e l = sym (sym l ∙ ap (λ xs. place_from i xs u) (subst (λ (xs : List Bound). drop i xs ≡ []) is (past es i e)))

pub nearer : (n p : ℕ) → p < n → n - (p + 1) < n - p
nearer n p lt = omega (arith, lt)
