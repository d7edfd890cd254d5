-- What the methods of a tree read of its table, as callers see it.
use Rattle.std.proofs.Common.{◌≡◌, ℕ, ◌+◌, ◌<◌, ◌^◌, true, false, Option, Some, None, List, [], ◌∷◌, ◌++◌, length, get_or, map, ap, sym, subst, ◌∙◌, arith}
use Rattle.std.proofs.Math.ListN.{set}
use Rattle.std.proofs.lemmas.List.{get_or_read, map_push}
use Rattle.property_keys.specs.declared.identifiers.ObjectId.{ObjectId}
use Rattle.map_store.specs.declared.MapId.{MapId}
use Rattle.map_store.specs.declared.OriginId.{OriginId}
use Rattle.map_store.specs.declared.entries.Representation.{Representation}
use Rattle.map_store.specs.declared.entries.Representation.TheVariants as representation
use Rattle.transition_tree.specs.declared.edges.Edge.{Edge}
use Rattle.transition_tree.specs.declared.paths.Step.{Step}
use Rattle.transition_tree.specs.declared.table.Made.{Made}
use Rattle.transition_tree.specs.declared.table.Slot.{Slot}
use Rattle.transition_tree.specs.Edges.{HasNoPlace, by_accessor, edge_at, edge_of, root_edge, step_before}
use Rattle.transition_tree.specs.Paths.{HasPairWhereDue, is_accessor_step}
use Rattle.transition_tree.specs.Rows.{HadMap, IsAsBefore, IsIn, KeepsAt, KeepsKept, Row, Standing, TreeView, after, kept_at, root_row, row_of}
use Rattle.transition_tree.specs.Tables.{GetsPlace, IsSlotOf, IsSoundTable, LeadsOn, kept_list, made_at, no_made, no_slot, row_at, row_by, rows_of, slot_at, standing_of, tree_view}
use Rattle.transition_tree.specs.Together.{HasLast, LacksMap}
use Rattle.transition_tree.proofs.RowsOfPlaces.{accessor-edge, accessor-root, before-edge, before-root, leads-edge, leads-root, row-found, row_by-edge, row_by-root}
use Rattle.transition_tree.proofs.SoundTables.{sound-entered, sound-kept}
use Rattle.transition_tree.proofs.TreeViews.{IsReady, keeps-at, keeps-same, kept-by, kept-none, last-at, last-by, last-none, length-standings, pair-due, pair-only, ready, row-is}

module _ (es : List Edge) (slots : List Slot) (made : List Made) (sound : IsSoundTable es slots made) (t : TreeView) (is : tree_view es slots made ≡ t) where
  abbrev rows : List Row
  rows = rows_of es

  -- ---- roots

  pub root-last : (o : OriginId) (p : Option ObjectId) (e : Edge) (s : Slot) → e ≡ root_edge o p → IsSlotOf es slots e s → HasLast t (root_row o p) s.latest
  root-last o p e s h at =
      subst (λ (v : TreeView). HasLast v (root_row o p) s.latest) is
      (last-by es slots made sound e s (root_row o p) (ap (row_by rows) h ∙ row_by-root rows o p) at)

  pub root-none : (o : OriginId) (p : Option ObjectId) (e : Edge) → e ≡ root_edge o p → HasNoPlace es e → LacksMap t (root_row o p)
  root-none o p e h none =
      subst (λ (v : TreeView). LacksMap v (root_row o p)) is
      (last-none es slots made sound e (root_row o p) (ap (row_by rows) h ∙ row_by-root rows o p) (subst (λ (x : Edge). LeadsOn x (length es)) (sym h) (leads-root o p (length es))) none)

  -- ---- steps from a map, which is read as x

  module _ (m : MapId) (known : IsIn t m) (x : Made) (read : x ≡ get_or made m.0 x) where
    pub inside : m.0 < length made
    inside = omega (arith, ap (λ (v : TreeView). length v.maps) is, length-standings (rows_of es) made)

    made-is : x ≡ made_at made m.0
    made-is = get_or_read made m.0 x inside read no_made

    pub place-is : x.place < length es
    place-is = subst (λ (y : Made). y.place < length es) (sym made-is) (sound.maps m.0 inside).known

    pub row-here : row_at rows x.place ≡ row_of t m
    row-here = ap (λ (y : Made). row_at rows y.place) made-is ∙ sym (row-is es slots made sound m inside) ∙ ap (λ (v : TreeView). row_of v m) is

    pub place-last : (s : Slot) → s ≡ get_or slots x.place s → HasLast t (row_of t m) s.latest
    place-last s at =
        let slot_is : s ≡ slot_at slots x.place = get_or_read slots x.place s (omega (arith, place-is, sound.paired)) at no_slot in
        subst (λ (v : TreeView). HasLast v (row_of t m) s.latest) is
        (subst (λ (y : Slot). HasLast (tree_view es slots made) (row_of t m) y.latest) (sym slot_is) (last-at es slots made sound x.place place-is (row_of t m) row-here))

    module _ (by : Step) (e : Edge) (h : e ≡ edge_of x.place by) where
      pub step-row : row_by rows e ≡ after (row_of t m) by
      step-row = ap (row_by rows) h ∙ row_by-edge rows x.place by ∙ ap (λ (r : Row). after r by) row-here

      pub step-leads : LeadsOn e (length es)
      step-leads = subst (λ (y : Edge). LeadsOn y (length es)) (sym h) (leads-edge x.place by (length es) place-is)

      pub step-last : (s : Slot) → IsSlotOf es slots e s → HasLast t (after (row_of t m) by) s.latest
      step-last s at = subst (λ (v : TreeView). HasLast v (after (row_of t m) by) s.latest) is (last-by es slots made sound e s (after (row_of t m) by) step-row at)

      pub step-none : HasNoPlace es e → LacksMap t (after (row_of t m) by)
      step-none none = subst (λ (v : TreeView). LacksMap v (after (row_of t m) by)) is (last-none es slots made sound e (after (row_of t m) by) step-row step-leads none)

      pub step-kept : (s : Slot) → IsSlotOf es slots e s → s.kept ≡ kept_at t.kept (after (row_of t m) by)
      step-kept s at = kept-by es slots made sound e s (after (row_of t m) by) step-row at ∙ ap (λ (v : TreeView). kept_at v.kept (after (row_of t m) by)) is

      pub step-unkept : HasNoPlace es e → representation.None ≡ kept_at t.kept (after (row_of t m) by)
      step-unkept none = kept-none es slots made sound e (after (row_of t m) by) step-row step-leads none ∙ ap (λ (v : TreeView). kept_at v.kept (after (row_of t m) by)) is

      pub step-pair : (s : Slot) → IsSlotOf es slots e s → s.kept ≡ representation.Pair → is_accessor_step by ≡ true
      step-pair s at pair = pair-only es slots made sound x.place by s (subst (λ (y : Edge). IsSlotOf es slots y s) h at) pair

      pub step-due : (s : Slot) → IsSlotOf es slots e s → HadMap t (after (row_of t m) by) → HasPairWhereDue by s.kept
      step-due s at had = (
        step-pair s at,
        pair-due es slots made sound x.place by s (after (row_of t m) by) (ap (row_by rows) (sym h) ∙ step-row) (subst (λ (y : Edge). IsSlotOf es slots y s) h at) (subst (λ (v : TreeView). HadMap v (after (row_of t m) by)) (sym is) had),
      )

      pub step-not-had : HasNoPlace es e → HadMap t (after (row_of t m) by) → ⊥
      step-not-had none had = step-none none had.0 had.1 had.2

      pub step-ready : (es' : List Edge) (slots' : List Slot) (n : ℕ) → GetsPlace es slots es' slots' e n → IsReady es slots made es' slots' e n
      step-ready es' slots' n gets = ready es slots made e n sound step-leads es' slots' gets

      pub step-accessor : by_accessor e ≡ is_accessor_step by
      step-accessor = ap by_accessor h ∙ accessor-edge x.place by

      pub step-before : step_before e ≡ Some (x.place, by)
      step-before = ap step_before h ∙ before-edge x.place by

  pub root-ready : (o : OriginId) (p : Option ObjectId) (e : Edge) → e ≡ root_edge o p → (es' : List Edge) (slots' : List Slot) (n : ℕ) → GetsPlace es slots es' slots' e n → IsReady es slots made es' slots' e n
  root-ready o p e h es' slots' n gets = ready es slots made e n sound (subst (λ (x : Edge). LeadsOn x (length es)) (sym h) (leads-root o p (length es))) es' slots' gets

-- ---- what a ready table becomes, as callers see it

module _ (es : List Edge) (slots : List Slot) (made : List Made) (e : Edge) (n : ℕ) (t : TreeView) (es' : List Edge) (slots' : List Slot) (is : tree_view es slots made ≡ t) (r : IsReady es slots made es' slots' e n) where
  pub ready-maps : map (standing_of (rows_of es')) made ≡ t.maps
  ready-maps = r.same.maps ∙ ap (λ (v : TreeView). v.maps) is

  pub ready-before : IsAsBefore t (tree_view es' slots' made)
  ready-before = record { maps = ready-maps; kept = λ row. r.same.kept row ∙ ap (λ (v : TreeView). kept_at v.kept row) is }

  abbrev now : TreeView
  now = record { maps = t.maps; kept = kept_list (rows_of es') slots' }

  now-is : tree_view es' slots' made ≡ now
  now-is = λ x. record { maps = ready-maps x; kept = kept_list (rows_of es') slots' }

  place-row : (row : Row) → row_by (rows_of es') e ≡ row → row_at (rows_of es') n ≡ row
  place-row row h = row-found (rows_of es') es' r.sound.rows r.sound.one e n r.found ∙ h

  -- the edge leads to the same row
  pub keeps-ready : (s : Slot) (row : Row) → row_by (rows_of es') e ≡ row → (maps : List Standing) → KeepsAt t (record { maps = maps; kept = kept_list (rows_of es') (set slots' n s) }) row s.kept
  keeps-ready s row h maps =
      let k = keeps-at es' slots' made r.sound n r.found.known s row (place-row row h) maps in
      record { here = k.here; others = λ other ne. k.others other ne ∙ r.same.kept other ∙ ap (λ (v : TreeView). kept_at v.kept other) is }

  pub keeps-ready-same : (s : Slot) → s.kept ≡ (slot_at slots' n).kept → (maps : List Standing) → KeepsKept t (record { maps = maps; kept = kept_list (rows_of es') (set slots' n s) })
  keeps-ready-same s same maps row = keeps-same es' slots' made r.sound n s same maps row ∙ r.same.kept row ∙ ap (λ (v : TreeView). kept_at v.kept row) is

  -- a map more at the place
  pub maps-more : (parent : Option MapId) (row : Row) → row_by (rows_of es') e ≡ row → map (standing_of (rows_of es')) (made ++ record { place = n; parent = parent } ∷ []) ≡ t.maps ++ record { row = row; parent = parent } ∷ []
  maps-more parent row h =
      map_push (standing_of (rows_of es')) made (record { place = n; parent = parent })
      ∙ (λ x. ready-maps x ++ record { row = place-row row h x; parent = parent } ∷ [])

  -- ---- by a step from a map

  module _ (m : MapId) (known : IsIn t m) (x : Made) (read : x ≡ get_or made m.0 x) (by : Step) (h : e ≡ edge_of x.place by) where
    pub row-by-step : row_by (rows_of es') e ≡ after (row_of t m) by
    row-by-step = step-row es' slots' made r.sound now now-is m known x read by e h

    pair-only-here : (rep : Representation) → HasPairWhereDue by rep → rep ≡ representation.Pair → by_accessor (edge_at es' n) ≡ true
    pair-only-here rep pair p = ap by_accessor r.found.here ∙ ap by_accessor h ∙ accessor-edge x.place by ∙ pair.0 p

    due-here : (rep : Representation) → HasPairWhereDue by rep → by_accessor (edge_at es' n) ≡ true → rep ≡ representation.Pair
    due-here rep pair a = pair.1 (sym (accessor-edge x.place by) ∙ ap by_accessor (sym h) ∙ ap by_accessor (sym r.found.here) ∙ a)

    pub sound-keep : (s : Slot) → s.latest ≡ (slot_at slots' n).latest → HasPairWhereDue by s.kept → IsSoundTable es' (set slots' n s) made
    sound-keep s latest pair = sound-kept es' slots' made n s r.sound r.found.known latest (pair-only-here s.kept pair) (due-here s.kept pair)

    pub sound-child : (s : Slot) (child : MapId) → s.latest ≡ Some child → child.0 ≡ length made → HasPairWhereDue by s.kept → length made + 1 < 2 ^ 32
        → IsSoundTable es' (set slots' n s) (made ++ record { place = n; parent = Some m } ∷ [])
    sound-child s child latest number pair few =
        sound-entered es' slots' made (record { place = n; parent = Some m }) s child r.sound r.found.known number
        (record {
          earlier = inside es' slots' made r.sound now now-is m known x read;
          by = by;
          before = ap step_before r.found.here ∙ ap step_before h ∙ before-edge x.place by ∙ (λ y. Some ((made-place y).place, by));
        }) latest (pair-only-here s.kept pair) (due-here s.kept pair) few
      where
        made-place : x ≡ made_at made m.0
        made-place = get_or_read made m.0 x (inside es' slots' made r.sound now now-is m known x read) read no_made

  -- ---- at a root

  module _ (o : OriginId) (p : Option ObjectId) (h : e ≡ root_edge o p) where
    pub row-by-root : row_by (rows_of es') e ≡ root_row o p
    row-by-root = ap (row_by (rows_of es')) h ∙ row_by-root (rows_of es') o p

    no-accessor : by_accessor (edge_at es' n) ≡ true → ⊥
    no-accessor a =
        let wrong : false ≡ true = sym (accessor-root o p) ∙ ap by_accessor (sym h) ∙ ap by_accessor (sym r.found.here) ∙ a in cc

    pub sound-root : (s : Slot) (child : MapId) → s.latest ≡ Some child → child.0 ≡ length made → s.kept ≡ (slot_at slots' n).kept → length made + 1 < 2 ^ 32
        → IsSoundTable es' (set slots' n s) (made ++ record { place = n; parent = None } ∷ [])
    sound-root s child latest number kept few =
        sound-entered es' slots' made (record { place = n; parent = None }) s child r.sound r.found.known number
        (ap step_before r.found.here ∙ ap step_before h ∙ before-root o p)
        latest (λ pair. r.sound.pairs n r.found.known (sym kept ∙ pair)) (λ a. absurd (no-accessor a)) few
