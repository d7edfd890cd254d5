-- Faults that are found one after another, and names that clash with those before them.
use Rattle.std.proofs.Common.{◌≡◌, ◌<◌, ◌∙◌, ap, sym, refl, ℕ, ◌+◌, Bool, true, false, ◌||◌, cond, List, [], ◌∷◌, ◌++◌, length, drop, take, flat_map, get_or, Option, Some, None}
use Rattle.std.specs.List.{list_any}
use Rattle.std.specs.Map.{lookup}
use Rattle.std.specs.Str.{bytes_eq}
use Rattle.std.proofs.lemmas.List.{at_drop_more, take_more}
use Rattle.std.proofs.lemmas.Slice.Eq.{bytes_eq-Decides}
use Rattle.es_source.specs.declared.faults.SourceFault.{SourceFault}
use Rattle.script_grammar.specs.declared.leaf.Leaf.{Leaf}
use Rattle.script_rules.specs.declared.manner.Declared.{Declared}
use Rattle.script_rules.specs.declared.manner.Manner.{Manner}
use Rattle.script_rules.specs.declared.manner.Manner.TheVariants as manner
use Rattle.script_rules.specs.Names.{units_at}
use Rattle.script_rules.specs.Faults.{clash, clashes, duplicates_after, fault_where, least}
use Rattle.es_source.specs.declared.faults.FaultCode.TheVariants as code
use Rattle.script_rules.specs.Order.{earlier}
use Rattle.script_rules.specs.Seen.{clash_with, stronger, stronger_of, Tells, GoesOver}
use Rattle.script_rules.proofs.Earliest.{associates, least-append}

pub more_found : (found f new : Option SourceFault) (xs ys : List SourceFault) → f ≡ least xs → new ≡ earlier found f → earlier new (least ys) ≡ earlier found (least (xs ++ ys))
more_found found f new xs ys is e = rw (e, is) (associates found (least xs) (least ys) ∙ ap (earlier found) (sym (least-append xs ys)))

pub next_found : {A : Type 0} (g : A → List SourceFault) (all : List A) (i : ℕ) (x z : A) (found f new : Option SourceFault) → i < length all → x ≡ get_or all i z
    → f ≡ least (g x) → new ≡ earlier found f → earlier found (least (flat_map g (drop i all))) ≡ least (flat_map g all) → earlier new (least (flat_map g (drop (i + 1) all))) ≡ least (flat_map g all)
next_found {A} g all i x z found f new lt at is e before =
    more_found found f new (g x) (flat_map g (drop (i + 1) all)) is e
    ∙ sym (at_drop_more (λ xs. earlier found (least (flat_map g xs))) all i z lt ∙ ap (λ y. earlier found (least (g y ++ flat_map g (drop (i + 1) all)))) (sym at))
    ∙ before

-- ---- the stronger of two manners clashes where one of them does

tells_more : (s e m : Manner) → clashes (stronger_of s e) m ≡ (clashes s m || clashes e m)
tells_more manner.Let e m = refl
tells_more manner.Const e m = refl
tells_more manner.Catch e m = refl
tells_more manner.Function manner.Let manner.Let = refl
tells_more manner.Function manner.Let manner.Const = refl
tells_more manner.Function manner.Let manner.Function = refl
tells_more manner.Function manner.Let manner.Parameter = refl
tells_more manner.Function manner.Let manner.Catch = refl
tells_more manner.Function manner.Const manner.Let = refl
tells_more manner.Function manner.Const manner.Const = refl
tells_more manner.Function manner.Const manner.Function = refl
tells_more manner.Function manner.Const manner.Parameter = refl
tells_more manner.Function manner.Const manner.Catch = refl
tells_more manner.Function manner.Function manner.Let = refl
tells_more manner.Function manner.Function manner.Const = refl
tells_more manner.Function manner.Function manner.Function = refl
tells_more manner.Function manner.Function manner.Parameter = refl
tells_more manner.Function manner.Function manner.Catch = refl
tells_more manner.Function manner.Parameter manner.Let = refl
tells_more manner.Function manner.Parameter manner.Const = refl
tells_more manner.Function manner.Parameter manner.Function = refl
tells_more manner.Function manner.Parameter manner.Parameter = refl
tells_more manner.Function manner.Parameter manner.Catch = refl
tells_more manner.Function manner.Catch manner.Let = refl
tells_more manner.Function manner.Catch manner.Const = refl
tells_more manner.Function manner.Catch manner.Function = refl
tells_more manner.Function manner.Catch manner.Parameter = refl
tells_more manner.Function manner.Catch manner.Catch = refl
tells_more manner.Parameter manner.Let manner.Let = refl
tells_more manner.Parameter manner.Let manner.Const = refl
tells_more manner.Parameter manner.Let manner.Function = refl
tells_more manner.Parameter manner.Let manner.Parameter = refl
tells_more manner.Parameter manner.Let manner.Catch = refl
tells_more manner.Parameter manner.Const manner.Let = refl
tells_more manner.Parameter manner.Const manner.Const = refl
tells_more manner.Parameter manner.Const manner.Function = refl
tells_more manner.Parameter manner.Const manner.Parameter = refl
tells_more manner.Parameter manner.Const manner.Catch = refl
tells_more manner.Parameter manner.Function manner.Let = refl
tells_more manner.Parameter manner.Function manner.Const = refl
tells_more manner.Parameter manner.Function manner.Function = refl
tells_more manner.Parameter manner.Function manner.Parameter = refl
tells_more manner.Parameter manner.Function manner.Catch = refl
tells_more manner.Parameter manner.Parameter manner.Let = refl
tells_more manner.Parameter manner.Parameter manner.Const = refl
tells_more manner.Parameter manner.Parameter manner.Function = refl
tells_more manner.Parameter manner.Parameter manner.Parameter = refl
tells_more manner.Parameter manner.Parameter manner.Catch = refl
tells_more manner.Parameter manner.Catch manner.Let = refl
tells_more manner.Parameter manner.Catch manner.Const = refl
tells_more manner.Parameter manner.Catch manner.Function = refl
tells_more manner.Parameter manner.Catch manner.Parameter = refl
tells_more manner.Parameter manner.Catch manner.Catch = refl

tells_both : (o : Option Manner) (e m : Manner) → clash_with (Some (stronger o e)) m ≡ (clash_with o m || clashes e m)
tells_both None e m = refl
tells_both (Some s) e m = tells_more s e m

or_false : (b : Bool) → b ≡ (b || false)
or_false true = refl
or_false false = refl

any_last : (test : Declared → Bool) (xs : List Declared) (x : Declared) → list_any test (xs ++ x ∷ []) ≡ (list_any test xs || test x)
any_last test [] x = sym (or_false (test x))
any_last test (y ∷ xs) x = ap (λ b. test y || b) (any_last test xs x) ∙ either (test y)
  where
    either : (b : Bool) → (b || (list_any test xs || test x)) ≡ ((b || list_any test xs) || test x)
    either true = refl
    either false = refl

-- a name more, with the table that then has the stronger manner of its kind
pub tells_next : (leaves : List Leaf) (seen seen' : List (List ℕ × Manner)) (before : List Declared) (x : Declared) → Tells leaves seen before
    → ((q : List ℕ) → lookup (bytes_eq q) seen' ≡ cond (bytes_eq (units_at leaves x.name) q) (Some (stronger (lookup (bytes_eq (units_at leaves x.name)) seen) x.manner)) (lookup (bytes_eq q) seen))
    → Tells leaves seen' (before ++ x ∷ [])
tells_next leaves seen seen' before x t updates = λ d.
    rw (updates (units_at leaves d.name)) (by d (bytes_eq (units_at leaves x.name) (units_at leaves d.name)) refl ∙ sym (any_last (clash leaves d) before x))
  where
    by : (d : Declared) (b : Bool) → bytes_eq (units_at leaves x.name) (units_at leaves d.name) ≡ b
        → clash_with (cond b (Some (stronger (lookup (bytes_eq (units_at leaves x.name)) seen) x.manner)) (lookup (bytes_eq (units_at leaves d.name)) seen)) d.manner
        ≡ (list_any (clash leaves d) before || clash leaves d x)
    by d true e =
        let same = (bytes_eq-Decides (units_at leaves x.name) (units_at leaves d.name)).0 e in
        rw e (tells_both (lookup (bytes_eq (units_at leaves x.name)) seen) x.manner d.manner
        ∙ ap (λ u. clash_with (lookup (bytes_eq u) seen) d.manner || clashes x.manner d.manner) same ∙ ap (λ b. b || clashes x.manner d.manner) (t d))
    by d false e = rw e (t d ∙ or_false (list_any (clash leaves d) before))

pub goes_over : (leaves : List Leaf) (all : List Declared) (i : ℕ) (d z : Declared) (seen seen' : List (List ℕ × Manner)) (found f new : Option SourceFault) (b : Bool) (u : List ℕ) (o p : Option Manner) (st : Manner)
    → GoesOver leaves all (take i all) (drop i all) seen found → i < length all → d ≡ get_or all i z → u ≡ units_at leaves d.name → p ≡ o → o ≡ lookup (bytes_eq u) seen
    → b ≡ clash_with p d.manner → st ≡ stronger p d.manner → f ≡ least (fault_where b leaves code.Duplicate d.name) → new ≡ earlier found f
    → ((q : List ℕ) → lookup (bytes_eq q) seen' ≡ cond (bytes_eq u q) (Some st) (lookup (bytes_eq q) seen))
    → GoesOver leaves all (take (i + 1) all) (drop (i + 1) all) seen' new
goes_over leaves all i d z seen seen' found f new b u o p st g lt at units copied got test strong is e updates =
    let one_more : take (i + 1) all ≡ take i all ++ d ∷ [] = take_more all i z lt ∙ ap (λ y. take i all ++ y ∷ []) (sym at) in
    let rest : least (duplicates_after leaves (take i all) (drop i all)) ≡ least (duplicates_after leaves (take i all) (d ∷ drop (i + 1) all)) =
    at_drop_more (λ xs. least (duplicates_after leaves (take i all) xs)) all i z lt ∙ ap (λ y. least (duplicates_after leaves (take i all) (y ∷ drop (i + 1) all))) (sym at) in
    let before : p ≡ lookup (bytes_eq (units_at leaves d.name)) seen = copied ∙ got ∙ ap (λ v. lookup (bytes_eq v) seen) units in
    let known : (q : List ℕ) → lookup (bytes_eq q) seen' ≡ cond (bytes_eq (units_at leaves d.name) q) (Some (stronger (lookup (bytes_eq (units_at leaves d.name)) seen) d.manner)) (lookup (bytes_eq q) seen) =
    λ q. updates q ∙ ap (λ v. cond (bytes_eq v q) (Some st) (lookup (bytes_eq q) seen)) units
    ∙ ap (λ t. cond (bytes_eq (units_at leaves d.name) q) (Some t) (lookup (bytes_eq q) seen)) (strong ∙ ap (λ v. stronger v d.manner) before) in
    record {
      tells = rw one_more (tells_next leaves seen seen' (take i all) d g.tells known);
      least_is = rw one_more (
          more_found found f new (fault_where b leaves code.Duplicate d.name) (duplicates_after leaves (take i all ++ d ∷ []) (drop (i + 1) all)) is e
          ∙ ap (λ t. earlier found (least (fault_where t leaves code.Duplicate d.name ++ duplicates_after leaves (take i all ++ d ∷ []) (drop (i + 1) all)))) (test ∙ ap (λ v. clash_with v d.manner) before ∙ g.tells d)
          ∙ ap (earlier found) (sym rest) ∙ g.least_is);
    }
