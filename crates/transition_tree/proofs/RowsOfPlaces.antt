-- The rows of a table of places: each is its edge's, and no two are equal.
use Rattle.std.proofs.Common.{◌≡◌, ◌≢◌, ◌⊎◌, inl, inr, ℕ, zero, suc, ◌+◌, ◌<◌, ◌≤◌, Bool, true, false, cond, Option, Some, None, List, [], ◌∷◌, ◌++◌, length, refl, ap, sym, subst, ◌∙◌, arith, length-append}
use Rattle.std.proofs.lemmas.Bool.{cases_lt}
use Rattle.std.proofs.lemmas.List.{get_or_append_left, get_or_push, same_from_push}
use Rattle.std.proofs.lemmas.Option.{some_pair_parts}
use Rattle.property_keys.specs.declared.identifiers.ObjectId.{ObjectId}
use Rattle.map_store.specs.declared.OriginId.{OriginId}
use Rattle.map_store.specs.declared.entries.Kind.{Kind}
use Rattle.map_store.specs.declared.entries.Kind.TheVariants as kind
use Rattle.transition_tree.specs.declared.edges.Edge.{Edge}
use Rattle.transition_tree.specs.declared.edges.Edge.TheVariants as edge
use Rattle.transition_tree.specs.declared.edges.Flags.{Flags}
use Rattle.transition_tree.specs.declared.paths.Step.{Step}
use Rattle.transition_tree.specs.declared.paths.Step.TheVariants as step
use Rattle.transition_tree.specs.Paths.{is_accessor, is_accessor_step}
use Rattle.transition_tree.specs.Edges.{HasNoPlace, HasOneEach, IsPlaceOf, attributes_in, by_accessor, edge_at, edge_of, flags_of, kind_in, no_edge, root_edge, step_before}
use Rattle.transition_tree.specs.Rows.{Row, after, no_row, root_row}
use Rattle.transition_tree.specs.Tables.{HasRow, LeadsOn, row_at, row_by, rows_of, rows_onto}

-- ---- edges are roots, or steps from places

kind-back : (k : Kind) → cond (is_accessor k) kind.Accessor kind.Stored ≡ k
kind-back kind.Stored = refl
kind-back kind.Accessor = refl

accessor-back : (b : Bool) → b ≡ is_accessor (cond b kind.Accessor kind.Stored)
accessor-back true = refl
accessor-back false = refl

flags-back : (f : Flags) → f ≡ flags_of (kind_in f) (attributes_in f)
flags-back f = λ t. record { accessor = accessor-back f.accessor t; writable = f.writable; enumerable = f.enumerable; configurable = f.configurable }

record RootForm (e : Edge) : Type 0 where
  origin : OriginId
  proto : Option ObjectId
  is : e ≡ root_edge origin proto

record StepForm (e : Edge) : Type 0 where
  place : ℕ
  by : Step
  is : e ≡ edge_of place by

edge-form : (e : Edge) → RootForm e ⊎ StepForm e
edge-form (edge.Root o) = inl (record { origin = record { 0 = o }; proto = None; is = refl })
edge-form (edge.RootOn o p) = inl (record { origin = record { 0 = o }; proto = Some p; is = refl })
edge-form (edge.Add n k f) = inr (record { place = n; by = step.Add k (kind_in f) (attributes_in f); is = λ t. edge.Add n k (flags-back f t) })
edge-form (edge.Redefine n k f) = inr (record { place = n; by = step.Redefine k (kind_in f) (attributes_in f); is = λ t. edge.Redefine n k (flags-back f t) })
edge-form (edge.Close n) = inr (record { place = n; by = step.Close; is = refl })

pub row_by-edge : (rows : List Row) (n : ℕ) (s : Step) → row_by rows (edge_of n s) ≡ after (row_at rows n) s
row_by-edge rows n (step.Add key k a) = λ t. after (row_at rows n) (step.Add key (kind-back k t) a)
row_by-edge rows n (step.Redefine key k a) = λ t. after (row_at rows n) (step.Redefine key (kind-back k t) a)
row_by-edge rows n step.Close = refl

pub row_by-root : (rows : List Row) (o : OriginId) (p : Option ObjectId) → row_by rows (root_edge o p) ≡ root_row o p
row_by-root rows o None = refl
row_by-root rows o (Some p) = refl

pub before-edge : (n : ℕ) (s : Step) → step_before (edge_of n s) ≡ Some (n, s)
before-edge n (step.Add key k a) = λ t. Some (n, step.Add key (kind-back k t) a)
before-edge n (step.Redefine key k a) = λ t. Some (n, step.Redefine key (kind-back k t) a)
before-edge n step.Close = refl

pub before-root : (o : OriginId) (p : Option ObjectId) → step_before (root_edge o p) ≡ None
before-root o None = refl
before-root o (Some p) = refl

pub accessor-edge : (n : ℕ) (s : Step) → by_accessor (edge_of n s) ≡ is_accessor_step s
accessor-edge n (step.Add key k a) = refl
accessor-edge n (step.Redefine key k a) = refl
accessor-edge n step.Close = refl

pub accessor-root : (o : OriginId) (p : Option ObjectId) → by_accessor (root_edge o p) ≡ false
accessor-root o None = refl
accessor-root o (Some p) = refl

pub leads-edge : (n : ℕ) (s : Step) (m : ℕ) → n < m → LeadsOn (edge_of n s) m
leads-edge n (step.Add key k a) m b = b
leads-edge n (step.Redefine key k a) m b = b
leads-edge n step.Close m b = b

leads-below : (n : ℕ) (s : Step) (m : ℕ) → LeadsOn (edge_of n s) m → n < m
leads-below n (step.Add key k a) m b = b
leads-below n (step.Redefine key k a) m b = b
leads-below n step.Close m b = b

pub leads-root : (o : OriginId) (p : Option ObjectId) (m : ℕ) → LeadsOn (root_edge o p) m
leads-root o None m = tt
leads-root o (Some p) m = tt

leads-more : (e : Edge) (m n : ℕ) → LeadsOn e m → m ≤ n → LeadsOn e n
leads-more (edge.Root o) m n l b = tt
leads-more (edge.RootOn o p) m n l b = tt
leads-more (edge.Add place k f) m n l b = omega arith
leads-more (edge.Redefine place k f) m n l b = omega arith
leads-more (edge.Close place) m n l b = omega arith

before-parts : (rows : List Row) (m n : ℕ) (s t : Step) → ◌≡◌ {A = Option (ℕ × Step)} (Some (m, s)) (Some (n, t)) → after (row_at rows m) s ≡ after (row_at rows n) t
before-parts rows m n s t e = let parts = some_pair_parts m n s t e in λ x. after (row_at rows (parts.0 x)) (parts.1 x)

-- the row by a step that stands before an edge
pub row_by-before : (rows : List Row) (e : Edge) (n : ℕ) (s : Step) → step_before e ≡ Some (n, s) → row_by rows e ≡ after (row_at rows n) s
row_by-before rows (edge.Root o) n s h = cc
row_by-before rows (edge.RootOn o p) n s h = cc
row_by-before rows (edge.Add place k f) n s h = before-parts rows place n (step.Add k (kind_in f) (attributes_in f)) s h
row_by-before rows (edge.Redefine place k f) n s h = before-parts rows place n (step.Redefine k (kind_in f) (attributes_in f)) s h
row_by-before rows (edge.Close place) n s h = before-parts rows place n step.Close s h

pub path-without : (rows : List Row) (e : Edge) → step_before e ≡ None → (row_by rows e).path ≡ []
path-without rows (edge.Root o) h = refl
path-without rows (edge.RootOn o p) h = refl
path-without rows (edge.Add place k f) h = cc
path-without rows (edge.Redefine place k f) h = cc
path-without rows (edge.Close place) h = cc

-- ---- rows of a table with an edge more

rows_onto-push : (rows : List Row) (es : List Edge) (e : Edge) → rows_onto rows (es ++ e ∷ []) ≡ rows_onto rows es ++ row_by (rows_onto rows es) e ∷ []
rows_onto-push rows [] e = refl
rows_onto-push rows (x ∷ es) e = rows_onto-push (rows ++ row_by rows x ∷ []) es e

pub rows_of-push : (es : List Edge) (e : Edge) → rows_of (es ++ e ∷ []) ≡ rows_of es ++ row_by (rows_of es) e ∷ []
rows_of-push es e = rows_onto-push [] es e

rows_onto-length : (rows : List Row) (es : List Edge) → length (rows_onto rows es) ≡ length rows + length es
rows_onto-length rows [] = omega arith
rows_onto-length rows (x ∷ es) = omega (arith, rows_onto-length (rows ++ row_by rows x ∷ []) es, length-append rows (row_by rows x ∷ []))

pub length-rows_of : (es : List Edge) → length (rows_of es) ≡ length es
length-rows_of es = omega (arith, rows_onto-length [] es)

row_by-grown : (rows : List Row) (r : Row) (e : Edge) (n : ℕ) → LeadsOn e n → n ≤ length rows → row_by (rows ++ r ∷ []) e ≡ row_by rows e
row_by-grown rows r (edge.Root o) n l b = refl
row_by-grown rows r (edge.RootOn o p) n l b = refl
row_by-grown rows r (edge.Add place k f) n l b = ap (λ (x : Row). after x (step.Add k (kind_in f) (attributes_in f))) (get_or_append_left rows (r ∷ []) no_row place (omega arith))
row_by-grown rows r (edge.Redefine place k f) n l b = ap (λ (x : Row). after x (step.Redefine k (kind_in f) (attributes_in f))) (get_or_append_left rows (r ∷ []) no_row place (omega arith))
row_by-grown rows r (edge.Close place) n l b = ap (λ (x : Row). after x step.Close) (get_or_append_left rows (r ∷ []) no_row place (omega arith))

module _ (rows : List Row) (es : List Edge) (e : Edge) (same : length rows ≡ length es) where
  abbrev longer : List Row
  longer = rows ++ row_by rows e ∷ []

  old-row : (n : ℕ) → n < length es → HasRow rows es n → HasRow longer (es ++ e ∷ []) n
  old-row n b h =
      let edge_is : edge_at (es ++ e ∷ []) n ≡ edge_at es n = get_or_append_left es (e ∷ []) no_edge n b in
      record {
        leads = subst (λ (x : Edge). LeadsOn x n) (sym edge_is) h.leads;
        row = get_or_append_left rows (row_by rows e ∷ []) no_row n (omega arith) ∙ h.row ∙ sym (row_by-grown rows (row_by rows e) (edge_at es n) n h.leads (omega arith)) ∙ ap (λ (x : Edge). row_by longer x) (sym edge_is);
      }

  new-row : LeadsOn e (length es) → HasRow longer (es ++ e ∷ []) (length es)
  new-row l =
      let edge_is : edge_at (es ++ e ∷ []) (length es) ≡ e = get_or_push es e no_edge (length es) refl in
      record {
        leads = subst (λ (x : Edge). LeadsOn x (length es)) (sym edge_is) l;
        row = get_or_push rows (row_by rows e) no_row (length es) same ∙ sym (row_by-grown rows (row_by rows e) e (length es) l (omega arith)) ∙ ap (λ (x : Edge). row_by longer x) (sym edge_is);
      }

  all-rows : ((n : ℕ) → n < length es → HasRow rows es n) → LeadsOn e (length es) → (n : ℕ) → n < length (es ++ e ∷ []) → HasRow longer (es ++ e ∷ []) n
  all-rows h l n b =
      elim (cases_lt n (length es)) [
        | inl lt ↦ old-row n lt (h n lt)
        | inr ge ↦ let last : length es ≡ n = omega (arith, length-append es (e ∷ [])) in subst (λ (k : ℕ). HasRow longer (es ++ e ∷ []) k) last (new-row l)
      ]

pub rows-pushed : (es : List Edge) (e : Edge) → ((n : ℕ) → n < length es → HasRow (rows_of es) es n) → LeadsOn e (length es)
    → (n : ℕ) → n < length (es ++ e ∷ []) → HasRow (rows_of (es ++ e ∷ [])) (es ++ e ∷ []) n
rows-pushed es e h l n b = subst (λ (rows : List Row). HasRow rows (es ++ e ∷ []) n) (sym (rows_of-push es e)) (all-rows (rows_of es) es e (length-rows_of es) h l n b)

-- ---- rows differ

not-empty : (path : List Step) (s : Step) → [] ≡ path ++ s ∷ [] → ⊥
not-empty path s e = omega (arith, ap (λ (p : List Step). length p) e, length-append path (s ∷ []))

pub not-after : (row : Row) (s : Step) → [] ≡ (after row s).path → ⊥
not-after row s e = not-empty row.path s e

pub after-inverse : (a b : Row) (s t : Step) → after a s ≡ after b t → (a ≡ b) × (s ≡ t)
after-inverse a b s t e =
    let path = same_from_push a.path b.path s t (ap (λ (r : Row). r.path) e) in
    (λ x. record { origin = (e x).origin; proto = (e x).proto; path = path.0 x }, path.1)

-- edges from earlier places, whose rows differ, that lead to one row
module _ (rows : List Row) (i j : ℕ) (one : (m n : ℕ) → m < i → n < j → row_at rows m ≡ row_at rows n → m ≡ n) where
  by-steps : (m n : ℕ) (s t : Step) → m < i → n < j → after (row_at rows m) s ≡ after (row_at rows n) t → edge_of m s ≡ edge_of n t
  by-steps m n s t b c e =
      let parts = after-inverse (row_at rows m) (row_at rows n) s t e in
      let places : m ≡ n = one m n b c parts.0 in
      λ x. edge_of (places x) (parts.1 x)

  same-edge : (a b : Edge) → LeadsOn a i → LeadsOn b j → row_by rows a ≡ row_by rows b → a ≡ b
  same-edge a b la lb e =
      elim (edge-form a) [
        | inl r ↦ elim (edge-form b) [
          | inl q ↦ from-roots r q
          | inr q ↦ absurd (root-step r q)
        ]
        | inr r ↦ elim (edge-form b) [
          | inl q ↦ absurd (step-root r q)
          | inr q ↦ from-steps r q
        ]
      ]
    where
      rows-are : (r : RootForm a) (q : RootForm b) → root_row r.origin r.proto ≡ root_row q.origin q.proto
      rows-are r q = sym (ap (row_by rows) r.is ∙ row_by-root rows r.origin r.proto) ∙ e ∙ ap (row_by rows) q.is ∙ row_by-root rows q.origin q.proto

      from-roots : RootForm a → RootForm b → a ≡ b
      from-roots r q = let same = rows-are r q in r.is ∙ (λ x. root_edge ((same x).origin) ((same x).proto)) ∙ sym q.is

      from-steps : StepForm a → StepForm b → a ≡ b
      from-steps r q =
          let same : after (row_at rows r.place) r.by ≡ after (row_at rows q.place) q.by = sym (ap (row_by rows) r.is ∙ row_by-edge rows r.place r.by) ∙ e ∙ ap (row_by rows) q.is ∙ row_by-edge rows q.place q.by in
          r.is ∙ by-steps r.place q.place r.by q.by (leads-below r.place r.by i (subst (λ (x : Edge). LeadsOn x i) r.is la)) (leads-below q.place q.by j (subst (λ (x : Edge). LeadsOn x j) q.is lb)) same ∙ sym q.is

      root-step : RootForm a → StepForm b → ⊥
      root-step r q =
          let same : root_row r.origin r.proto ≡ after (row_at rows q.place) q.by = sym (ap (row_by rows) r.is ∙ row_by-root rows r.origin r.proto) ∙ e ∙ ap (row_by rows) q.is ∙ row_by-edge rows q.place q.by in
          not-empty (row_at rows q.place).path q.by (ap (λ (x : Row). x.path) same)

      step-root : StepForm a → RootForm b → ⊥
      step-root r q =
          let same : after (row_at rows r.place) r.by ≡ root_row q.origin q.proto = sym (ap (row_by rows) r.is ∙ row_by-edge rows r.place r.by) ∙ e ∙ ap (row_by rows) q.is ∙ row_by-root rows q.origin q.proto in
          not-empty (row_at rows r.place).path r.by (sym (ap (λ (x : Row). x.path) same))

module _ (rows : List Row) (es : List Edge) (has : (n : ℕ) → n < length es → HasRow rows es n) (one : HasOneEach es) where
  differ-below : (bound i j : ℕ) → i < bound → i < length es → j < length es → row_at rows i ≡ row_at rows j → i ≡ j
  differ-below zero i j a b c e = absurd (omega arith)
  differ-below (suc bound) i j a b c e =
      let before = has i b in
      let other = has j c in
      one i j b c (same-edge rows i j (λ m n lt gt same. differ-below bound m n (omega arith) (omega arith) (omega arith) same) (edge_at es i) (edge_at es j) before.leads other.leads (sym before.row ∙ e ∙ other.row))

  pub rows-differ : (i j : ℕ) → i < length es → j < length es → row_at rows i ≡ row_at rows j → i ≡ j
  rows-differ i j b c e = differ-below (suc i) i j (omega arith) b c e

  pub row-found : (e : Edge) (n : ℕ) → IsPlaceOf es e n → row_at rows n ≡ row_by rows e
  row-found e n at = (has n at.known).row ∙ ap (row_by rows) at.here

  -- an edge that has no place leads to no row that is there
  pub row-absent : (e : Edge) → LeadsOn e (length es) → HasNoPlace es e → (n : ℕ) → n < length es → row_at rows n ≢ row_by rows e
  row-absent e l none n b same =
      let here = has n b in
      none n b (same-edge rows (length es) (length es) rows-differ (edge_at es n) e (leads-more (edge_at es n) n (length es) here.leads (omega arith)) l (sym here.row ∙ same))
