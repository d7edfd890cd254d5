-- The test of rows tells whether they are equal.
use Rattle.std.proofs.Common.{◌≡◌, ◌≢◌, Bool, true, false, ◌&&◌, Option, Some, None, List, [], ◌∷◌, refl, ap, sym, ◌∙◌, eq-eqb}
use Rattle.std.proofs.lemmas.Bool.{and_from, and_parts, eqb-true, false_from_ne_true}
use Rattle.std.specs.Prelude.{nat_eq}
use Rattle.property_keys.specs.declared.identifiers.ObjectId.{ObjectId}
use Rattle.property_keys.specs.declared.keys.Attributes.{Attributes}
use Rattle.property_keys.specs.declared.keys.PropKey.{PropKey}
use Rattle.property_keys.specs.declared.keys.PropKey.TheVariants.{Index, Name, Sym}
use Rattle.map_store.specs.declared.entries.Kind.{Kind}
use Rattle.map_store.specs.declared.entries.Kind.TheVariants as kind
use Rattle.transition_tree.specs.declared.paths.Step.{Step}
use Rattle.transition_tree.specs.declared.paths.Step.TheVariants as step
use Rattle.transition_tree.specs.Paths.{same_key}
use Rattle.transition_tree.specs.Rows.{Row, same_attributes, same_flag, same_kind, same_path, same_proto, same_row, same_step}

pub same_key-eq : (a b : PropKey) → same_key a b ≡ true → a ≡ b
same_key-eq (Index i) (Index j) e = ap Index (eqb-true i j e)
same_key-eq (Name i) (Name j) e = λ t. Name (record { 0 = eqb-true i.0 j.0 e t })
same_key-eq (Sym i) (Sym j) e = λ t. Sym (record { 0 = eqb-true i.0 j.0 e t })
same_key-eq a b e = cc

same_flag-eq : (a b : Bool) → same_flag a b ≡ true → a ≡ b
same_flag-eq true true e = refl
same_flag-eq false false e = refl
same_flag-eq a b e = cc

same_attributes-eq : (a b : Attributes) → same_attributes a b ≡ true → a ≡ b
same_attributes-eq a b e =
    let h = and_parts (same_flag a.writable b.writable) (same_flag a.enumerable b.enumerable && same_flag a.configurable b.configurable) e in
    let t = and_parts (same_flag a.enumerable b.enumerable) (same_flag a.configurable b.configurable) h.1 in
    let first = same_flag-eq a.writable b.writable h.0 in
    let second = same_flag-eq a.enumerable b.enumerable t.0 in
    let third = same_flag-eq a.configurable b.configurable t.1 in
    λ x. record { writable = first x; enumerable = second x; configurable = third x }

same_kind-eq : (a b : Kind) → same_kind a b ≡ true → a ≡ b
same_kind-eq kind.Stored kind.Stored e = refl
same_kind-eq kind.Accessor kind.Accessor e = refl
same_kind-eq a b e = cc

parts-eq : (k l : PropKey) (m n : Kind) (a b : Attributes) → (same_key k l && (same_kind m n && same_attributes a b)) ≡ true → (k ≡ l) × (m ≡ n) × (a ≡ b)
parts-eq k l m n a b e =
    let h = and_parts (same_key k l) (same_kind m n && same_attributes a b) e in
    let t = and_parts (same_kind m n) (same_attributes a b) h.1 in
    (same_key-eq k l h.0, same_kind-eq m n t.0, same_attributes-eq a b t.1)

same_step-eq : (s t : Step) → same_step s t ≡ true → s ≡ t
same_step-eq (step.Add k m a) (step.Add l n b) e = let h = parts-eq k l m n a b e in λ x. step.Add (h.0 x) (h.1 x) (h.2 x)
same_step-eq (step.Redefine k m a) (step.Redefine l n b) e = let h = parts-eq k l m n a b e in λ x. step.Redefine (h.0 x) (h.1 x) (h.2 x)
same_step-eq step.Close step.Close e = refl
same_step-eq s t e = cc

same_path-eq : (a b : List Step) → same_path a b ≡ true → a ≡ b
same_path-eq [] [] e = refl
same_path-eq (s ∷ a) (t ∷ b) e =
    let h = and_parts (same_step s t) (same_path a b) e in
    let first = same_step-eq s t h.0 in
    let rest = same_path-eq a b h.1 in
    λ x. first x ∷ rest x
same_path-eq a b e = cc

same_proto-eq : (a b : Option ObjectId) → same_proto a b ≡ true → a ≡ b
same_proto-eq None None e = refl
same_proto-eq (Some a) (Some b) e = λ x. Some (record { 0 = eqb-true a.0 b.0 e x })
same_proto-eq a b e = cc

pub same_row-eq : (a b : Row) → same_row a b ≡ true → a ≡ b
same_row-eq a b e =
    let h = and_parts (nat_eq a.origin.0 b.origin.0) (same_proto a.proto b.proto && same_path a.path b.path) e in
    let t = and_parts (same_proto a.proto b.proto) (same_path a.path b.path) h.1 in
    let origin = eqb-true a.origin.0 b.origin.0 h.0 in
    let proto = same_proto-eq a.proto b.proto t.0 in
    let path = same_path-eq a.path b.path t.1 in
    λ x. record { origin = record { 0 = origin x }; proto = proto x; path = path x }

-- ---- and each is equal to itself

pub same_key-itself : (k : PropKey) → same_key k k ≡ true
same_key-itself (Index i) = eq-eqb i i refl
same_key-itself (Name i) = eq-eqb i.0 i.0 refl
same_key-itself (Sym i) = eq-eqb i.0 i.0 refl

same_flag-itself : (a : Bool) → same_flag a a ≡ true
same_flag-itself true = refl
same_flag-itself false = refl

same_attributes-itself : (a : Attributes) → same_attributes a a ≡ true
same_attributes-itself a =
    and_from (same_flag a.writable a.writable) (same_flag a.enumerable a.enumerable && same_flag a.configurable a.configurable) (same_flag-itself a.writable)
    (and_from (same_flag a.enumerable a.enumerable) (same_flag a.configurable a.configurable) (same_flag-itself a.enumerable) (same_flag-itself a.configurable))

same_kind-itself : (a : Kind) → same_kind a a ≡ true
same_kind-itself kind.Stored = refl
same_kind-itself kind.Accessor = refl

parts-itself : (k : PropKey) (m : Kind) (a : Attributes) → (same_key k k && (same_kind m m && same_attributes a a)) ≡ true
parts-itself k m a = and_from (same_key k k) (same_kind m m && same_attributes a a) (same_key-itself k) (and_from (same_kind m m) (same_attributes a a) (same_kind-itself m) (same_attributes-itself a))

same_step-itself : (s : Step) → same_step s s ≡ true
same_step-itself (step.Add k m a) = parts-itself k m a
same_step-itself (step.Redefine k m a) = parts-itself k m a
same_step-itself step.Close = refl

same_path-itself : (a : List Step) → same_path a a ≡ true
same_path-itself [] = refl
same_path-itself (s ∷ a) = and_from (same_step s s) (same_path a a) (same_step-itself s) (same_path-itself a)

same_proto-itself : (a : Option ObjectId) → same_proto a a ≡ true
same_proto-itself None = refl
same_proto-itself (Some a) = eq-eqb a.0 a.0 refl

same_row-itself : (a : Row) → same_row a a ≡ true
same_row-itself a =
    and_from (nat_eq a.origin.0 a.origin.0) (same_proto a.proto a.proto && same_path a.path a.path) (eq-eqb a.origin.0 a.origin.0 refl)
    (and_from (same_proto a.proto a.proto) (same_path a.path a.path) (same_proto-itself a.proto) (same_path-itself a.path))

pub same_row-true : (a b : Row) → a ≡ b → same_row a b ≡ true
same_row-true a b e = ap (λ (x : Row). same_row a x) (sym e) ∙ same_row-itself a

pub same_row-false : (a b : Row) → a ≢ b → same_row a b ≡ false
same_row-false a b ne = false_from_ne_true (same_row a b) (λ t. ne (same_row-eq a b t))

pub same_key-false : (a b : PropKey) → a ≢ b → same_key a b ≡ false
same_key-false a b ne = false_from_ne_true (same_key a b) (λ t. ne (same_key-eq a b t))
