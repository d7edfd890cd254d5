-- The numbers of origins: each kind has one, and the kind stands at it.
use Rattle.std.proofs.Common.{◌≡◌, ◌<◌, ◌≤◌, ℕ, suc, Bool, true, false, cond, Some, None, List, [], ◌∷◌, ◌++◌, length, get_or, position, refl, sym, ap, ◌∙◌, arith, true≢false, ◌&&◌, ◌||◌}
use Rattle.std.specs.List.{list_any, position_or_len}
use Rattle.std.specs.Prelude.{nat_eq, nat_lt}
use Rattle.std.proofs.lemmas.Bool.{eqb-true}
use Rattle.std.proofs.lemmas.Bool.Decides.{nat_tests}
use Rattle.std.proofs.lemmas.List.Recursion.{is_position_or_len}
use Rattle.indexmap.specs.IndexSet.{insert_key}
use Rattle.es_source.specs.contracts.place.PlacePartialEq.TheImpl as place_test
use Rattle.slack_tracking.specs.contracts.OriginKindPartialEq.TheImpl as kind_test
use Rattle.map_store.specs.declared.OriginId.{OriginId}
use Rattle.es_source.specs.declared.place.Place.{Place}
use Rattle.slack_tracking.specs.declared.OriginKind.{OriginKind}
use Rattle.slack_tracking.specs.declared.OriginKind.TheVariants as origin
use Rattle.es_source.specs.Places.{same_place}
use Rattle.object_heap.specs.Origins.{origin_place, origin_number, with_origin}
use Rattle.slack_tracking.specs.Slack.{same_origin}
use Rattle.object_heap.specs.Stands.{HeapView}

pub number-is : (heap : HeapView) (kind : OriginKind) (id : OriginId) → id ≡ record { 0 = origin_place heap.origins kind } → id ≡ origin_number heap kind
unfolding origin_number
number-is heap kind id e = e

-- the kinds after one got a number, by its place
pub with_origin-there : (ks : List OriginKind) (kind : OriginKind) → origin_place ks kind < length ks → with_origin ks kind ≡ ks
with_origin-there [] kind b = absurd (omega arith)
with_origin-there (k ∷ ks) kind b =
    elim (same_origin k kind) as (λ t. cond t 0 (suc (origin_place ks kind)) < length (k ∷ ks) → cond t (k ∷ ks) (k ∷ with_origin ks kind) ≡ k ∷ ks) [
      | true ↦ λ b. refl
      | false ↦ λ b. ap (λ xs. k ∷ xs) (with_origin-there ks kind (omega arith))
    ] b

pub with_origin-new : (ks : List OriginKind) (kind : OriginKind) → length ks ≤ origin_place ks kind → with_origin ks kind ≡ ks ++ kind ∷ []
with_origin-new [] kind b = refl
with_origin-new (k ∷ ks) kind b =
    elim (same_origin k kind) as (λ t. length (k ∷ ks) ≤ cond t 0 (suc (origin_place ks kind)) → cond t (k ∷ ks) (k ∷ with_origin ks kind) ≡ k ∷ (ks ++ kind ∷ [])) [
      | true ↦ λ b. absurd (omega arith)
      | false ↦ λ b. ap (λ xs. k ∷ xs) (with_origin-new ks kind (omega arith))
    ] b

pub place-within : (ks : List OriginKind) (kind : OriginKind) → origin_place ks kind ≤ length ks
place-within [] kind = omega arith
place-within (k ∷ ks) kind =
    elim (same_origin k kind) as (λ t. cond t 0 (suc (origin_place ks kind)) ≤ length (k ∷ ks)) [ true ↦ omega arith | false ↦ let b = place-within ks kind in omega arith ]

both : (x y : Bool) → (x && y) ≡ true → (x ≡ true) × (y ≡ true)
both true true h = (refl, refl)
both x y h = cc

place-eq : (a b : Place) → same_place a b ≡ true → a ≡ b
place-eq a b e =
    let h = both (nat_eq a.line b.line) (nat_eq a.column b.column) e in
    let l = eqb-true a.line b.line h.0 in
    let k = eqb-true a.column b.column h.1 in
    λ t. record { line = l t; column = k t }

same-eq : (a b : OriginKind) → same_origin a b ≡ true → a ≡ b
same-eq origin.Plain origin.Plain e = refl
same-eq origin.Function origin.Function e = refl
same-eq origin.Array origin.Array e = refl
same-eq origin.Arguments origin.Arguments e = refl
same-eq origin.Wrapper origin.Wrapper e = refl
same-eq origin.Error origin.Error e = refl
same-eq (origin.Literal a) (origin.Literal b) e = ap origin.Literal (place-eq a b e)
same-eq (origin.Constructor a) (origin.Constructor b) e = ap origin.Constructor (place-eq a b e)
same-eq a b e = cc

-- the kind stands at its number
kind-at : (ks : List OriginKind) (kind : OriginKind) → get_or (with_origin ks kind) (origin_place ks kind) origin.Plain ≡ kind
kind-at [] kind = refl
kind-at (k ∷ ks) kind =
    elim (same_origin k kind) as (λ t. same_origin k kind ≡ t → get_or (cond t (k ∷ ks) (k ∷ with_origin ks kind)) (cond t 0 (suc (origin_place ks kind))) origin.Plain ≡ kind) [
      | true ↦ λ e. same-eq k kind e
      | false ↦ λ e. kind-at ks kind
    ] refl

pub origin-there : (old new : List OriginKind) (kind : OriginKind) (id : OriginId) → id ≡ record { 0 = origin_place old kind } → new ≡ with_origin old kind → get_or new id.0 origin.Plain ≡ kind
origin-there old new kind id n e = (λ t. get_or (e t) (n t).0 origin.Plain) ∙ kind-at old kind

-- ---- the table finds a kind by its derived `==`

turned : (n m : ℕ) → nat_eq n m ≡ nat_eq m n
turned n m = grind (arith, nat_tests)

place-test : (a b : Place) → place_test.eq-value.it a b ≡ same_place b a
place-test a b = λ t. (turned a.line b.line) t && (turned a.column b.column) t

abbrev same : OriginKind → OriginKind → Bool
same = kind_test.eq-value.it

kind-test : (a b : OriginKind) → same a b ≡ same_origin b a
kind-test (origin.Literal a) (origin.Literal b) = place-test a b
kind-test (origin.Constructor a) (origin.Constructor b) = place-test a b
kind-test origin.Plain origin.Plain = refl
kind-test origin.Function origin.Function = refl
kind-test origin.Array origin.Array = refl
kind-test origin.Arguments origin.Arguments = refl
kind-test origin.Wrapper origin.Wrapper = refl
kind-test origin.Error origin.Error = refl
kind-test a b = refl

first-is : (ks : List OriginKind) (kind : OriginKind) → origin_place ks kind ≡ position_or_len (same kind) ks
first-is ks kind =
    is_position_or_len (λ xs. origin_place xs kind) (same kind) refl (λ x xs. ap (λ t. cond t 0 (suc (origin_place xs kind))) (sym (kind-test kind x)) ∙ ap (cond (same kind x) 0) (omega arith)) ks

some-is : (n i : ℕ) (b : Bool) → cond b (Some n) None ≡ Some i → i ≡ n
some-is n i true e = cc
some-is n i false e = cc

-- the place at which the table finds a kind
pub found-place : (ks : List OriginKind) (kind : OriginKind) (i : ℕ) → position (same kind) ks ≡ Some i → i ≡ origin_place ks kind
found-place ks kind i e = some-is (position_or_len (same kind) ks) i (nat_lt (position_or_len (same kind) ks) (length ks)) e ∙ sym (first-is ks kind)

neither : (a b : Bool) → (a || b) ≡ false → (a ≡ false) × (b ≡ false)
neither false b e = (refl, e)
neither true b e = cc

-- a kind that the table does not find
pub none-found : (ks : List OriginKind) (kind : OriginKind) → list_any (same kind) ks ≡ false → length ks ≡ origin_place ks kind
none-found [] kind none = refl
none-found (k ∷ ks) kind none =
    let parts = neither (same kind k) (list_any (same kind) ks) none in
    let rest = none-found ks kind parts.1 in
    elim (same_origin k kind) as (λ t. same kind k ≡ t → length (k ∷ ks) ≡ cond t 0 (suc (origin_place ks kind))) [
      | true ↦ λ e. absurd (true≢false (sym e ∙ parts.0))
      | false ↦ λ e. omega arith
    ] (kind-test kind k)

absent : (ks : List OriginKind) (kind : OriginKind) → length ks ≤ origin_place ks kind → list_any (same kind) ks ≡ false
absent [] kind b = refl
absent (k ∷ ks) kind b =
    elim (same_origin k kind) as (λ t. same kind k ≡ t → length (k ∷ ks) ≤ cond t 0 (suc (origin_place ks kind)) → list_any (same kind) (k ∷ ks) ≡ false) [
      | true ↦ λ e b. absurd (omega arith)
      | false ↦ λ e b. rw e (absent ks kind (omega arith))
    ] (kind-test kind k) b

-- the kinds once the table took a new one
pub kinds-after : (old new : List OriginKind) (kind : OriginKind) → length old ≤ origin_place old kind → new ≡ insert_key same old kind → new ≡ with_origin old kind
kinds-after old new kind b e = e ∙ ap (λ t. cond t old (old ++ kind ∷ [])) (absent old kind b) ∙ sym (with_origin-new old kind b)
