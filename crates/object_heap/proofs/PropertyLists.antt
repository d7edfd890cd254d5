-- What a list of properties has at a key, after a change.
use Rattle.std.proofs.Common.{◌≡◌, true, false, Option, Some, None, List, [], ◌∷◌, cond, refl, ap, ◌∙◌, arith}
use Rattle.std.specs.Prelude.{not, IsSome}
use Rattle.std.proofs.lemmas.Bool.{eqb-true}
use Rattle.std.proofs.lemmas.Bool.Decides.{nat_tests}
use Rattle.property_keys.specs.declared.keys.PropKey.{PropKey}
use Rattle.property_keys.specs.declared.keys.PropKey.TheVariants.{Index, Name, Sym}
use Rattle.es_model.specs.Objects.{same_key}
use Rattle.descriptors.specs.declared.property.Complete.{Complete}
use Rattle.es_model.specs.declared.owned.OwnProperty.{OwnProperty}
use Rattle.es_model.specs.Objects.{find_property, replace_property, remove_property, add_property}

pub same_key-refl : (k : PropKey) → same_key k k ≡ true
same_key-refl (Index i) = grind (arith, nat_tests)
same_key-refl (Name t) = grind (arith, nat_tests)
same_key-refl (Sym t) = grind (arith, nat_tests)

pub same_key-eq : (a b : PropKey) → same_key a b ≡ true → a ≡ b
same_key-eq (Index i) (Index j) h = ap Index (eqb-true i j h)
same_key-eq (Name s) (Name t) h = ap (λ n. Name (record { 0 = n })) (eqb-true s.0 t.0 h)
same_key-eq (Sym s) (Sym t) h = ap (λ n. Sym (record { 0 = n })) (eqb-true s.0 t.0 h)
same_key-eq (Index i) (Name t) h = cc
same_key-eq (Index i) (Sym t) h = cc
same_key-eq (Name s) (Index j) h = cc
same_key-eq (Name s) (Sym t) h = cc
same_key-eq (Sym s) (Index j) h = cc
same_key-eq (Sym s) (Name t) h = cc

pub same_key-sym : (a b : PropKey) → same_key a b ≡ same_key b a
same_key-sym (Index i) (Index j) = grind (arith, nat_tests)
same_key-sym (Name s) (Name t) = grind (arith, nat_tests)
same_key-sym (Sym s) (Sym t) = grind (arith, nat_tests)
same_key-sym (Index i) (Name t) = refl
same_key-sym (Index i) (Sym t) = refl
same_key-sym (Name s) (Index j) = refl
same_key-sym (Name s) (Sym t) = refl
same_key-sym (Sym s) (Index j) = refl
same_key-sym (Sym s) (Name t) = refl

-- a property more
pub find-add : (ps : List OwnProperty) (key : PropKey) (c : Complete) (q : PropKey) → find_property ps key ≡ None → find_property (add_property ps key c) q ≡ cond (same_key key q) (Some c) (find_property ps q)
find-add [] key c q h = refl
find-add (p ∷ ps) key c q h =
    elim (same_key p.key key) as (λ b. same_key p.key key ≡ b → cond b (Some p.complete) (find_property ps key) ≡ None → find_property (add_property (p ∷ ps) key c) q ≡ cond (same_key key q) (Some c) (find_property (p ∷ ps) q)) [
      | true ↦ λ e n. absurd (cc)
      | false ↦ λ e n. grind (arith, find-add ps key c q n, same_key-eq p.key q, same_key-sym p.key key, same_key-eq key q)
    ] refl h

-- a property replaced
pub find-replace : (ps : List OwnProperty) (key : PropKey) (c : Complete) (q : PropKey) → IsSome (find_property ps key) → find_property (replace_property ps key c) q ≡ cond (same_key key q) (Some c) (find_property ps q)
find-replace [] key c q h = absurd (cc)
find-replace (p ∷ ps) key c q h =
    elim (same_key p.key key) as (λ b. same_key p.key key ≡ b → IsSome (cond b (Some p.complete) (find_property ps key)) → find_property (cond b (record { key = p.key; complete = c } ∷ ps) (p ∷ replace_property ps key c)) q ≡ cond (same_key key q) (Some c) (find_property (p ∷ ps) q)) [
      | true ↦ λ e n. rw (same_key-eq p.key key e) (elim (same_key key q) as (λ b. cond b (Some c) (find_property ps q) ≡ cond b (Some c) (cond b (Some p.complete) (find_property ps q))) [ true ↦ refl | false ↦ refl ])
      | false ↦ λ e n. grind (arith, find-replace ps key c q n, same_key-eq p.key q, same_key-sym p.key key, same_key-eq key q)
    ] refl h

-- a property taken out
pub find-remove : (ps : List OwnProperty) (key q : PropKey) → find_property (remove_property ps key) q ≡ cond (same_key key q) None (find_property ps q)
find-remove [] key q = let none : Option Complete = None in elim (same_key key q) as (λ b. none ≡ cond b none none) [ true ↦ refl | false ↦ refl ]
find-remove (p ∷ ps) key q =
    elim (same_key p.key key) as (λ b. same_key p.key key ≡ b → find_property (cond (not b) (p ∷ remove_property ps key) (remove_property ps key)) q ≡ cond (same_key key q) None (find_property (p ∷ ps) q)) [
      | true ↦ λ e. rw (same_key-eq p.key key e) (find-remove ps key q ∙ elim (same_key key q) as (λ b. cond b None (find_property ps q) ≡ cond b None (cond b (Some p.complete) (find_property ps q))) [ true ↦ refl | false ↦ refl ])
      | false ↦ λ e. grind (arith, find-remove ps key q, same_key-eq p.key q, same_key-sym p.key key, same_key-eq key q)
    ] refl
