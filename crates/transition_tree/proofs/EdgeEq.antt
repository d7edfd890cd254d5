-- The derived `==` of edges tells whether they are equal.
use Rattle.std.proofs.Common.{◌≡◌, ℕ, Bool, true, ◌&&◌, refl, ap, sym, ◌∙◌, rules, arith, eq-eqb}
use Rattle.std.proofs.lemmas.Bool.{eqb-true}
use Rattle.std.specs.Bool.{Decides}
use Rattle.std.specs.Prelude.{nat_eq}
use Rattle.property_keys.specs.declared.keys.PropKey.{PropKey}
use Rattle.property_keys.specs.declared.keys.PropKey.TheVariants.{Index, Name, Sym}
use Rattle.property_keys.specs.contracts.keys.PropKeyPartialEq.TheImpl as key
use Rattle.transition_tree.specs.contracts.edges.EdgePartialEq.TheImpl as edge_eq
use Rattle.transition_tree.specs.contracts.edges.FlagsPartialEq.TheImpl as flags_eq
use Rattle.transition_tree.specs.declared.edges.Edge.{Edge}
use Rattle.transition_tree.specs.declared.edges.Edge.TheVariants as edge
use Rattle.transition_tree.specs.declared.edges.Flags.{Flags}

key-eq : (a b : PropKey) → key.eq-value.it a b ≡ true → a ≡ b
key-eq (Index i) (Index j) e = ap Index (eqb-true i j e)
key-eq (Name i) (Name j) e = λ t. Name (record { 0 = eqb-true i.0 j.0 e t })
key-eq (Sym i) (Sym j) e = λ t. Sym (record { 0 = eqb-true i.0 j.0 e t })
key-eq a b e = cc

flags-eq : (a b : Flags) → flags_eq.eq-value.it a b ≡ true → a ≡ b
flags-eq a b e = search rules

both : (x y : Bool) → (x && y) ≡ true → (x ≡ true) × (y ≡ true)
both true true h = (refl, refl)
both x y h = cc

-- a place, a key and flags
abbrev same_parts : ℕ → ℕ → PropKey → PropKey → Flags → Flags → Bool
same_parts n m k l f g = nat_eq n m && (key.eq-value.it k l && flags_eq.eq-value.it f g)

parts-eq : (n m : ℕ) (k l : PropKey) (f g : Flags) → same_parts n m k l f g ≡ true → (n ≡ m) × (k ≡ l) × (f ≡ g)
parts-eq n m k l f g e =
    let h = both (nat_eq n m) (key.eq-value.it k l && flags_eq.eq-value.it f g) e in
    let t = both (key.eq-value.it k l) (flags_eq.eq-value.it f g) h.1 in
    (eqb-true n m h.0, key-eq k l t.0, flags-eq f g t.1)

pub edges-eq : (a b : Edge) → edge_eq.eq-value.it a b ≡ true → a ≡ b
edges-eq (edge.Root n) (edge.Root m) e = ap edge.Root (eqb-true n m e)
edges-eq (edge.RootOn n p) (edge.RootOn m q) e =
    let h = both (nat_eq n m) (nat_eq p.0 q.0) e in
    let left = eqb-true n m h.0 in
    let right = eqb-true p.0 q.0 h.1 in
    λ t. edge.RootOn (left t) (record { 0 = right t })
edges-eq (edge.Add n k f) (edge.Add m l g) e = let h = parts-eq n m k l f g e in λ t. edge.Add (h.0 t) (h.1 t) (h.2 t)
edges-eq (edge.Redefine n k f) (edge.Redefine m l g) e = let h = parts-eq n m k l f g e in λ t. edge.Redefine (h.0 t) (h.1 t) (h.2 t)
edges-eq (edge.Close n) (edge.Close m) e = ap edge.Close (eqb-true n m e)
edges-eq a b e = cc

key-refl : (k : PropKey) → key.eq-value.it k k ≡ true
key-refl (Index i) = eq-eqb i i refl
key-refl (Name i) = eq-eqb i.0 i.0 refl
key-refl (Sym i) = eq-eqb i.0 i.0 refl

flags-refl : (f : Flags) → flags_eq.eq-value.it f f ≡ true
flags-refl f = grind arith

parts-refl : (n : ℕ) (k : PropKey) (f : Flags) → same_parts n n k k f f ≡ true
parts-refl n k f = λ t. (eq-eqb n n refl) t && ((key-refl k) t && (flags-refl f) t)

edges-refl : (a : Edge) → edge_eq.eq-value.it a a ≡ true
edges-refl (edge.Root n) = eq-eqb n n refl
edges-refl (edge.RootOn n p) = λ t. (eq-eqb n n refl) t && (eq-eqb p.0 p.0 refl) t
edges-refl (edge.Add n k f) = parts-refl n k f
edges-refl (edge.Redefine n k f) = parts-refl n k f
edges-refl (edge.Close n) = eq-eqb n n refl

pub edges-same : (a b : Edge) → a ≡ b → edge_eq.eq-value.it a b ≡ true
edges-same a b e = ap (λ (x : Edge). edge_eq.eq-value.it a x) (sym e) ∙ edges-refl a

pub edges_decide : (a b : Edge) → Decides (edge_eq.eq-value.it a b) (a ≡ b)
edges_decide a b = (edges-eq a b, edges-same a b)
