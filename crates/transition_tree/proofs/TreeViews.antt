-- What callers see of a table.
use Rattle.std.proofs.Common.{◌≡◌, ◌≢◌, ◌↔◌, inl, inr, ℕ, zero, suc, ◌<◌, ◌≤◌, true, Option, Some, None, List, [], ◌∷◌, ◌++◌, length, map, MatchOption, IsNone, refl, ap, sym, subst, ◌∙◌, arith, length-append}
use Rattle.std.proofs.Math.ListN.{set}
use Rattle.std.proofs.lemmas.List.{get_or_append_left, get_or_push, get_or-map, length-map}
use Rattle.std.proofs.lemmas.Option.{some_pair_parts}
use Rattle.map_store.specs.declared.MapId.{MapId}
use Rattle.map_store.specs.declared.entries.Representation.TheVariants as representation
use Rattle.transition_tree.specs.declared.edges.Edge.{Edge}
use Rattle.transition_tree.specs.declared.paths.Step.{Step}
use Rattle.transition_tree.specs.declared.table.Made.{Made}
use Rattle.transition_tree.specs.declared.table.Slot.{Slot}
use Rattle.transition_tree.specs.Edges.{HasNoPlace, IsPlaceOf, by_accessor, edge_at, edge_of, no_edge, step_before}
use Rattle.transition_tree.specs.Paths.{is_accessor_step}
use Rattle.transition_tree.specs.Rows.{HadMap, IsAsBefore, IsIn, KeepsAt, KeepsKept, Kept, Row, Standing, TreeView, after, kept_at, no_row, no_standing, parent_of, row_of, standing_at}
use Rattle.transition_tree.specs.Tables.{FindsPlace, GetsPlace, IsFree, IsLatest, IsSlotOf, IsSoundTable, LeadsFrom, LeadsOn, MakesPlace, kept_list, made_at, no_made, no_slot, row_at, row_by, rows_of, slot_at, standing_of, tree_view}
use Rattle.transition_tree.specs.Together.{CameBy, HasLast, IsRoot, LacksMap}
use Rattle.transition_tree.proofs.KeptRows.{kept-absent, kept-found, kept-other, kept-pushed, kept-set}
use Rattle.transition_tree.proofs.RowsOfPlaces.{accessor-edge, length-rows_of, not-after, path-without, row-absent, row-found, row_by-before, rows-differ, rows_of-push}
use Rattle.transition_tree.proofs.SoundTables.{sound-placed}

standing-is : (rows : List Row) (made : List Made) (n : ℕ) → n < length made → standing_at (map (standing_of rows) made) n ≡ standing_of rows (made_at made n)
standing-is rows made n b = get_or-map (standing_of rows) made n no_made no_standing b

pub length-standings : (rows : List Row) (made : List Made) → length (map (standing_of rows) made) ≡ length made
length-standings rows made = length-map made (standing_of rows)

standings-grown : (rows : List Row) (r : Row) (made : List Made) → ((n : ℕ) → n < length made → (made_at made n).place < length rows) → map (standing_of (rows ++ r ∷ [])) made ≡ map (standing_of rows) made
standings-grown rows r [] known = refl
standings-grown rows r (m ∷ made) known =
    let row = get_or_append_left rows (r ∷ []) no_row m.place (known 0 (omega arith)) in
    let rest = standings-grown rows r made (λ n b. known (suc n) (omega arith)) in
    λ t. record { row = row t; parent = m.parent } ∷ rest t

kept_list-same : (rows : List Row) (slots : List Slot) (n : ℕ) (s : Slot) → s.kept ≡ (slot_at slots n).kept → kept_list rows (set slots n s) ≡ kept_list rows slots
kept_list-same [] slots n s e = refl
kept_list-same (x ∷ rows) [] n s e = refl
kept_list-same (x ∷ rows) (old ∷ slots) zero s e = λ t. record { row = x; representation = e t } ∷ kept_list rows slots
kept_list-same (x ∷ rows) (old ∷ slots) (suc n) s e = ap (λ (k : List Kept). record { row = x; representation = old.kept } ∷ k) (kept_list-same rows slots n s e)

-- ---- the place of an edge, found or made

pub record IsReady (es : List Edge) (slots : List Slot) (made : List Made) (es' : List Edge) (slots' : List Slot) (e : Edge) (n : ℕ) : Type 0 where
  pub sound : IsSoundTable es' slots' made
  pub found : IsPlaceOf es' e n
  pub same : IsAsBefore (tree_view es slots made) (tree_view es' slots' made)
  pub places : (k : ℕ) → k < length es → edge_at es' k ≡ edge_at es k
  pub more : length es ≤ length es'

same_view : (t : TreeView) → IsAsBefore t t
same_view t = record { maps = refl; kept = λ row. refl }

module _ (es : List Edge) (slots : List Slot) (made : List Made) (e : Edge) (n : ℕ) (sound : IsSoundTable es slots made) (leads : LeadsOn e (length es)) where
  ready-found : (es' : List Edge) (slots' : List Slot) → FindsPlace es slots es' slots' e n → IsReady es slots made es' slots' e n
  ready-found es' slots' f =
      subst (λ (x : List Edge). IsReady es slots made x slots' e n) (sym f.edges_are)
      (subst (λ (x : List Slot). IsReady es slots made es x e n) (sym f.slots_are)
      (record { sound = sound; found = f.found; same = same_view (tree_view es slots made); places = λ k b. refl; more = omega arith }))

  ready-made : (es' : List Edge) (slots' : List Slot) → MakesPlace es slots es' slots' e n → IsReady es slots made es' slots' e n
  ready-made es' slots' m =
      subst (λ (x : List Edge). IsReady es slots made x slots' e n) (sym m.edges_are)
      (subst (λ (x : List Slot). IsReady es slots made (es ++ e ∷ []) x e n) (sym m.slots_are)
      (record {
        sound = sound-placed es slots made e sound m.none leads;
        found = record { known = omega (arith, m.number, length-append es (e ∷ [])); here = get_or_push es e no_edge n (sym m.number) };
        same = record {
          maps = ap (λ (rows : List Row). map (standing_of rows) made) (rows_of-push es e)
              ∙ standings-grown (rows_of es) (row_by (rows_of es) e) made (λ k b. omega (arith, (sound.maps k b).known, length-rows_of es));
          kept = λ row. ap (λ (rows : List Row). kept_at (kept_list rows (slots ++ no_slot ∷ [])) row) (rows_of-push es e)
              ∙ kept-pushed (rows_of es) slots (row_by (rows_of es) e) row (omega (arith, sound.paired, length-rows_of es));
        };
        places = λ k b. get_or_append_left es (e ∷ []) no_edge k b;
        more = omega (arith, length-append es (e ∷ []));
      }))

  pub ready : (es' : List Edge) (slots' : List Slot) → GetsPlace es slots es' slots' e n → IsReady es slots made es' slots' e n
  ready es' slots' (inl f) = ready-found es' slots' f
  ready es' slots' (inr m) = ready-made es' slots' m

-- ---- of a sound table

module _ (es : List Edge) (slots : List Slot) (made : List Made) (sound : IsSoundTable es slots made) where
  abbrev rows : List Row
  rows = rows_of es

  abbrev view : TreeView
  view = tree_view es slots made

  differ : (i j : ℕ) → i < length es → j < length es → row_at rows i ≡ row_at rows j → i ≡ j
  differ = rows-differ rows es sound.rows sound.one

  pub row-is : (m : MapId) → m.0 < length made → row_of view m ≡ row_at rows (made_at made m.0).place
  row-is m b = ap (λ (s : Standing). s.row) (standing-is rows made m.0 b)

  pub parent-is : (m : MapId) → m.0 < length made → parent_of view m ≡ (made_at made m.0).parent
  parent-is m b = ap (λ (s : Standing). s.parent) (standing-is rows made m.0 b)

  pub in-made : (m : MapId) → IsIn view m → m.0 < length made
  in-made m b = omega (arith, length-standings rows made)

  place-known : (m : MapId) → m.0 < length made → (made_at made m.0).place < length es
  place-known m b = (sound.maps m.0 b).known

  -- what was made last at a place
  last-of : (k : ℕ) → k < length es → (row : Row) → row_at rows k ≡ row → (o : Option MapId) → MatchOption o (IsFree made k) (IsLatest made k) → HasLast view row o
  last-of k b row here None free = λ m known e.
      let inside = in-made m known in
      free m.0 inside (differ (made_at made m.0).place k (place-known m inside) b (sym (row-is m inside) ∙ e ∙ sym here))
  last-of k b row here (Some l) latest = record {
    known = omega (arith, latest.known, length-standings rows made);
    here = row-is l latest.known ∙ ap (row_at rows) latest.here ∙ here;
    last = λ m known e.
        let inside = in-made m known in
        latest.last m.0 inside (differ (made_at made m.0).place k (place-known m inside) b (sym (row-is m inside) ∙ e ∙ sym here));
  }

  pub last-at : (k : ℕ) → k < length es → (row : Row) → row_at rows k ≡ row → HasLast view row (slot_at slots k).latest
  last-at k b row here = last-of k b row here (slot_at slots k).latest (sound.latest k b)

  pub last-by : (e : Edge) (s : Slot) (row : Row) → row_by rows e ≡ row → IsSlotOf es slots e s → HasLast view row s.latest
  last-by e s row is at =
      subst (λ (x : Slot). HasLast view row x.latest) at.here
      (last-at at.place at.found.known row (row-found rows es sound.rows sound.one e at.place at.found ∙ is))

  pub last-none : (e : Edge) (row : Row) → row_by rows e ≡ row → LeadsOn e (length es) → HasNoPlace es e → LacksMap view row
  last-none e row is leads none m known here =
      let inside = in-made m known in
      row-absent rows es sound.rows sound.one e leads none (made_at made m.0).place (place-known m inside) (sym (row-is m inside) ∙ here ∙ sym is)

  -- what is kept
  first : (n : ℕ) (row : Row) → n < length es → row_at rows n ≡ row → (j : ℕ) → j < n → row_at rows j ≢ row
  first n row b here j lt e = let same = differ j n (omega arith) b (e ∙ sym here) in omega arith

  pub kept-by : (e : Edge) (s : Slot) (row : Row) → row_by rows e ≡ row → IsSlotOf es slots e s → s.kept ≡ kept_at view.kept row
  kept-by e s row is at =
      let here = row-found rows es sound.rows sound.one e at.place at.found ∙ is in
      sym (ap (λ (x : Slot). x.kept) at.here) ∙ sym (kept-found rows slots at.place row (omega (arith, at.found.known, length-rows_of es)) (omega (arith, at.found.known, sound.paired)) here (first at.place row at.found.known here))

  pub kept-none : (e : Edge) (row : Row) → row_by rows e ≡ row → LeadsOn e (length es) → HasNoPlace es e → representation.None ≡ kept_at view.kept row
  kept-none e row is leads none = sym (kept-absent rows slots row (λ j b here. row-absent rows es sound.rows sound.one e leads none j (omega (arith, length-rows_of es)) (here ∙ sym is)))

  pub keeps-at : (k : ℕ) → k < length es → (s : Slot) (row : Row) → row_at rows k ≡ row → (maps : List Standing) → KeepsAt view (record { maps = maps; kept = kept_list rows (set slots k s) }) row s.kept
  keeps-at k b s row here maps = record {
    here = kept-set rows slots k s row (omega (arith, length-rows_of es)) (omega (arith, sound.paired)) here (first k row b here);
    others = λ other ne. kept-other rows slots k s other (omega (arith, length-rows_of es)) (λ e. ne (sym e ∙ here));
  }

  pub keeps-same : (k : ℕ) (s : Slot) → s.kept ≡ (slot_at slots k).kept → (maps : List Standing) → KeepsKept view (record { maps = maps; kept = kept_list rows (set slots k s) })
  keeps-same k s e maps row = ap (λ (kept : List Kept). kept_at kept row) (kept_list-same rows slots k s e)

  -- Pair and accessors, at the edge of a step
  pub pair-only : (n : ℕ) (by : Step) (s : Slot) → IsSlotOf es slots (edge_of n by) s → s.kept ≡ representation.Pair → is_accessor_step by ≡ true
  pair-only n by s at pair =
      sym (accessor-edge n by) ∙ ap by_accessor (sym at.found.here) ∙ sound.pairs at.place at.found.known (ap (λ (x : Slot). x.kept) at.here ∙ pair)

  pub pair-due : (n : ℕ) (by : Step) (s : Slot) (row : Row) → row_by rows (edge_of n by) ≡ row → IsSlotOf es slots (edge_of n by) s → HadMap view row → is_accessor_step by ≡ true → s.kept ≡ representation.Pair
  pair-due n by s row is at had accessor =
      let inside = in-made had.0 had.1 in
      let place = (made_at made had.0.0).place in
      let same : place ≡ at.place = differ place at.place (place-known had.0 inside) at.found.known (sym (row-is had.0 inside) ∙ had.2 ∙ sym is ∙ sym (row-found rows es sound.rows sound.one (edge_of n by) at.place at.found)) in
      ap (λ (x : Slot). x.kept) (sym at.here) ∙ ap (λ (k : ℕ). (slot_at slots k).kept) (sym same)
      ∙ sound.paired_maps had.0.0 inside (ap (λ (k : ℕ). by_accessor (edge_at es k)) same ∙ ap by_accessor at.found.here ∙ accessor-edge n by ∙ accessor)

  pub no-pair-due : (n : ℕ) (by : Step) (row : Row) → row_by rows (edge_of n by) ≡ row → LeadsOn (edge_of n by) (length es) → HasNoPlace es (edge_of n by) → HadMap view row → ⊥
  no-pair-due n by row is leads none had = last-none (edge_of n by) row is leads none had.0 had.1 had.2

  -- parents
  pub came-by : (m parent : MapId) (place : ℕ) (by : Step) → m.0 < length made → (made_at made m.0).parent ≡ Some parent → step_before (edge_at es (made_at made m.0).place) ≡ Some (place, by) → CameBy view m parent by
  came-by m parent place by b is before =
      let at = sound.maps m.0 b in
      let from : LeadsFrom (edge_at es (made_at made m.0).place) made m.0 parent = subst (λ (o : Option MapId). MatchOption o (step_before (edge_at es (made_at made m.0).place) ≡ None) (LeadsFrom (edge_at es (made_at made m.0).place) made m.0)) is at.parent in
      let parts = some_pair_parts (made_at made parent.0).place place from.by by (sym from.before ∙ before) in
      let known : parent.0 < length made = omega (arith, from.earlier) in
      record {
        parent_is = parent-is m b ∙ is;
        row = row-is m b ∙ (sound.rows (made_at made m.0).place at.known).row ∙ row_by-before rows (edge_at es (made_at made m.0).place) (made_at made parent.0).place from.by from.before
            ∙ (λ t. after (sym (row-is parent known) t) (parts.1 t));
        earlier = from.earlier;
      }

  pub is-root : (m : MapId) → m.0 < length made → (made_at made m.0).parent ≡ None → IsRoot view m
  is-root m b is =
      let at = sound.maps m.0 b in
      let none : step_before (edge_at es (made_at made m.0).place) ≡ None = subst (λ (o : Option MapId). MatchOption o (step_before (edge_at es (made_at made m.0).place) ≡ None) (LeadsFrom (edge_at es (made_at made m.0).place) made m.0)) is at.parent in
      (ap (λ (r : Row). r.path) (row-is m b ∙ (sound.rows (made_at made m.0).place at.known).row) ∙ path-without rows (edge_at es (made_at made m.0).place) none, parent-is m b ∙ is)

  -- a step stands before the edge of a map with a parent
  pub has-before : (m parent : MapId) → m.0 < length made → (made_at made m.0).parent ≡ Some parent → step_before (edge_at es (made_at made m.0).place) ≡ None → ⊥
  has-before m parent b is none =
      let from : LeadsFrom (edge_at es (made_at made m.0).place) made m.0 parent = subst (λ (o : Option MapId). MatchOption o (step_before (edge_at es (made_at made m.0).place) ≡ None) (LeadsFrom (edge_at es (made_at made m.0).place) made m.0)) is (sound.maps m.0 b).parent in
      let wrong : ◌≡◌ {A = Option (ℕ × Step)} None (Some ((made_at made parent.0).place, from.by)) = sym none ∙ from.before in
      cc

  root-cases : (m : MapId) → m.0 < length made → (o : Option MapId) → (made_at made m.0).parent ≡ o → IsNone o ↔ ((row_of view m).path ≡ [])
  root-cases m b None is = (λ e. (is-root m b is).0, λ e. refl)
  root-cases m b (Some p) is =
      let from : LeadsFrom (edge_at es (made_at made m.0).place) made m.0 p = subst (λ (o : Option MapId). MatchOption o (step_before (edge_at es (made_at made m.0).place) ≡ None) (LeadsFrom (edge_at es (made_at made m.0).place) made m.0)) is (sound.maps m.0 b).parent in
      let came : CameBy view m p from.by = came-by m p (made_at made p.0).place from.by b is from.before in
      (λ e. cc, λ e. absurd (not-after (row_of view p) from.by (sym e ∙ ap (λ (r : Row). r.path) came.row)))

  pub root-iff : (m : MapId) → m.0 < length made → IsNone (made_at made m.0).parent ↔ ((row_of view m).path ≡ [])
  root-iff m b = root-cases m b (made_at made m.0).parent refl
