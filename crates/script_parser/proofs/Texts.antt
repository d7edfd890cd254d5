-- A text against code units from a place on, and a table from a row on.
use Rattle.std.proofs.Common.{◌≡◌, ◌+◌, ◌<◌, ℕ, suc, zero, Bool, true, false, ◌&&◌, List, [], ◌∷◌, Some, length, drop, map, slice_get, get_or, bytes_eq, nat_eq, refl, ap, arith, add-one, sym, cond}
use Rattle.std.proofs.lemmas.Bool.Decides.{nat_tests}
use Rattle.script_grammar.specs.declared.kinds.Kind.{Kind}
use Rattle.script_grammar.specs.Kinds.{kind_in}

equal : (x y : ℕ) → x ≡ y → nat_eq x y ≡ true
equal x y e = grind (arith, nat_tests)

unequal : (x y : ℕ) → (x ≡ y → ⊥) → nat_eq x y ≡ false
unequal x y e = grind (arith, nat_tests)

-- two units that are equal decide nothing
on : (xs ys : List ℕ) (i u : ℕ) → i < length xs → slice_get ys i ≡ Some u → get_or xs i 0 ≡ u → bytes_eq (drop (suc i) xs) (drop (suc i) ys) ≡ bytes_eq (drop i xs) (drop i ys)
on [] ys i u l g e = absurd (omega arith)
on (x ∷ xs) [] i u l g e = absurd (cc (g))
on (x ∷ xs) (y ∷ ys) zero u l g e = let same : x ≡ y = cc (g, e) in sym (ap (λ (b : Bool). b && bytes_eq xs ys) (equal x y same))
on (x ∷ xs) (y ∷ ys) (suc i) u l g e = on xs ys i u (omega arith) g e

pub same_on : (xs ys : List ℕ) (i u : ℕ) → i < length xs → slice_get ys i ≡ Some u → get_or xs i 0 ≡ u → bytes_eq (drop (i + 1) xs) (drop (i + 1) ys) ≡ bytes_eq (drop i xs) (drop i ys)
same_on xs ys i u l g e = rw add-one (on xs ys i u l g e)

-- two that differ decide
pub differ_at : (xs ys : List ℕ) (i u : ℕ) → i < length xs → slice_get ys i ≡ Some u → (get_or xs i 0 ≡ u → ⊥) → bytes_eq (drop i xs) (drop i ys) ≡ false
differ_at [] ys i u l g e = absurd (omega arith)
differ_at (x ∷ xs) [] i u l g e = absurd (cc (g))
differ_at (x ∷ xs) (y ∷ ys) zero u l g e = ap (λ (b : Bool). b && bytes_eq xs ys) (unequal x y (λ same. e (cc (g, same))))
differ_at (x ∷ xs) (y ∷ ys) (suc i) u l g e = differ_at xs ys i u (omega arith) g e

-- lists of two lengths differ
pub lengths_differ : (xs ys : List ℕ) → (length xs ≡ length ys → ⊥) → bytes_eq xs ys ≡ false
lengths_differ [] [] e = absurd (e refl)
lengths_differ [] (y ∷ ys) e = refl
lengths_differ (x ∷ xs) [] e = refl
lengths_differ (x ∷ xs) (y ∷ ys) e = off (nat_eq x y) (bytes_eq xs ys) (lengths_differ xs ys (λ same. e (ap suc same)))
  where
    off : (b c : Bool) → c ≡ false → b && c ≡ false
    off true c e = e
    off false c e = refl

-- a row that has another text is passed by
row_on : {X : Type 0} (f : X → List ℕ × Kind) (table : List X) (text : List ℕ) (i : ℕ) (d : X) → i < length table → bytes_eq (f (get_or table i d)).0 text ≡ false
    → kind_in (drop (suc i) (map f table)) text ≡ kind_in (drop i (map f table)) text
row_on f [] text i d l e = absurd (omega arith)
row_on f (x ∷ xs) text zero d l e = sym (ap (λ (b : Bool). cond b (Some (f x).1) (kind_in (map f xs) text)) e)
row_on f (x ∷ xs) text (suc i) d l e = row_on f xs text i d (omega arith) e

pub passed_by : {X : Type 0} (f : X → List ℕ × Kind) (table : List X) (text : List ℕ) (i : ℕ) (d : X) → i < length table → bytes_eq (f (get_or table i d)).0 text ≡ false
    → kind_in (drop (i + 1) (map f table)) text ≡ kind_in (drop i (map f table)) text
passed_by f table text i d l e = rw add-one (row_on f table text i d l e)

-- a row that has the text is the answer
pub found_at : {X : Type 0} (f : X → List ℕ × Kind) (table : List X) (text : List ℕ) (i : ℕ) (d : X) → i < length table → bytes_eq (f (get_or table i d)).0 text ≡ true
    → kind_in (drop i (map f table)) text ≡ Some (f (get_or table i d)).1
found_at f [] text i d l e = absurd (omega arith)
found_at f (x ∷ xs) text zero d l e = ap (λ (b : Bool). cond b (Some (f x).1) (kind_in (map f xs) text)) e
found_at f (x ∷ xs) text (suc i) d l e = found_at f xs text i d (omega arith) e
