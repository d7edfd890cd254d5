-- A map is entered into the table of a tree: after room was made, at a place that was found or made.
use Rattle.std.proofs.Common.{◌≡◌, ℕ, ◌+◌, ◌<◌, ◌^◌, Option, Some, None, List, [], ◌∷◌, ◌++◌, length, get_or, ap, sym, subst, ◌∙◌, arith}
use Rattle.std.proofs.Math.ListN.{set}
use Rattle.std.specs.Global.{Vec}
use Rattle.property_keys.specs.declared.identifiers.ObjectId.{ObjectId}
use Rattle.map_store.specs.declared.MapId.{MapId}
use Rattle.map_store.specs.declared.OriginId.{OriginId}
use Rattle.transition_tree.specs.declared.edges.Edge.{Edge}
use Rattle.transition_tree.specs.declared.paths.Step.{Step}
use Rattle.transition_tree.specs.declared.table.Made.{Made}
use Rattle.transition_tree.specs.declared.table.Slot.{Slot}
use Rattle.transition_tree.specs.declared.table.Table.{Table}
use Rattle.transition_tree.specs.Edges.{edge_of, root_edge}
use Rattle.transition_tree.specs.Paths.{HasPairWhereDue}
use Rattle.transition_tree.specs.Rows.{IsAsBefore, IsIn, KeepsAt, KeepsKept, TreeView, after, kept_at, root_row, row_of}
use Rattle.transition_tree.specs.Tables.{GetsPlace, IsSoundTable, LeadsOn, row_by, rows_of, slot_at, tree_view}
use Rattle.transition_tree.proofs.Methods.{keeps-ready, keeps-ready-same, maps-more, ready-before, row-by-root, row-by-step, sound-child, sound-root}
use Rattle.transition_tree.proofs.TreeViews.{IsReady, length-standings, ready}

record Parts : Type 0 where
  places : List Edge
  slots : List Slot
  made : List Made

abbrev parts : Table → Parts
parts t = record { places = t.places; slots = t.slots.items; made = t.made.items }

abbrev IsSoundParts : Parts → Type 0
IsSoundParts p = IsSoundTable p.places p.slots p.made

abbrev view : Parts → TreeView
view p = tree_view p.places p.slots p.made

module _ (old roomed placed : Table) (t : TreeView) (sound : IsSoundTable old.places old.slots.items old.made.items) (is : tree_view old.places old.slots.items old.made.items ≡ t)
    (same_places : roomed.places ≡ old.places) (same_slots : roomed.slots ≡ old.slots) (same_made : roomed.made.items ≡ old.made.items)
    (e : Edge) (n : ℕ) (leads : LeadsOn e (length old.places)) (gets : GetsPlace roomed.places roomed.slots.items placed.places placed.slots.items e n) (made_stays : placed.made ≡ roomed.made) where
  base : parts roomed ≡ parts old
  base = λ x. record { places = same_places x; slots = (same_slots x).items; made = same_made x }

  pub is-ready : IsReady old.places old.slots.items old.made.items placed.places placed.slots.items e n
  is-ready = ready old.places old.slots.items old.made.items e n sound leads placed.places placed.slots.items (subst (λ (p : Parts). GetsPlace p.places p.slots placed.places placed.slots.items e n) base gets)

  placed-made : placed.made.items ≡ old.made.items
  placed-made = ap (λ (v : Vec Made). v.items) made_stays ∙ same_made

  pub placed-sound : IsSoundTable placed.places placed.slots.items placed.made.items
  placed-sound = subst (λ (m : List Made). IsSoundTable placed.places placed.slots.items m) (sym placed-made) is-ready.sound

  pub placed-before : IsAsBefore t (tree_view placed.places placed.slots.items placed.made.items)
  placed-before =
      subst (λ (m : List Made). IsAsBefore t (tree_view placed.places placed.slots.items m)) (sym placed-made)
      (ready-before old.places old.slots.items old.made.items e n t placed.places placed.slots.items is is-ready)

  pub within : n < length placed.slots.items
  within = let r = is-ready in let known = r.found.known in let paired = r.sound.paired in omega arith

  count : (k : ℕ) → k ≡ length t.maps → k ≡ length old.made.items
  count k h = h ∙ sym (ap (λ (v : TreeView). length v.maps) is) ∙ length-standings (rows_of old.places) old.made.items

  entered-are : (entered : Table) (s : Slot) (m : Made) → entered.places ≡ placed.places → entered.slots.items ≡ set placed.slots.items n s → entered.made.items ≡ placed.made.items ++ m ∷ []
      → parts entered ≡ record { places = placed.places; slots = set placed.slots.items n s; made = old.made.items ++ m ∷ [] }
  entered-are entered s m places_are slots_are made_are =
      let made = made_are ∙ ap (λ (ms : List Made). ms ++ m ∷ []) placed-made in
      λ x. record { places = places_are x; slots = slots_are x; made = made x }

  -- at a root
  module _ (o : OriginId) (p : Option ObjectId) (h : e ≡ root_edge o p) (entered : Table) (s : Slot) (places_are : entered.places ≡ placed.places) (slots_are : entered.slots.items ≡ set placed.slots.items n s)
      (made_are : entered.made.items ≡ placed.made.items ++ record { place = n; parent = None } ∷ []) (kept : s.kept ≡ (slot_at placed.slots.items n).kept) where
    root-parts : parts entered ≡ record { places = placed.places; slots = set placed.slots.items n s; made = old.made.items ++ record { place = n; parent = None } ∷ [] }
    root-parts = entered-are entered s (record { place = n; parent = None }) places_are slots_are made_are

    pub root-sound : (root : MapId) → root.0 ≡ length t.maps → s.latest ≡ Some root → length old.made.items + 1 < 2 ^ 32 → IsSoundTable entered.places entered.slots.items entered.made.items
    root-sound root number latest few =
        subst (λ (q : Parts). IsSoundParts q) (sym root-parts)
        (sound-root old.places old.slots.items old.made.items e n t placed.places placed.slots.items is is-ready o p h s root latest (count root.0 number) kept few)

    pub root-maps : (tree_view entered.places entered.slots.items entered.made.items).maps ≡ t.maps ++ record { row = root_row o p; parent = None } ∷ []
    root-maps =
        ap (λ (q : Parts). (view q).maps) root-parts
        ∙ maps-more old.places old.slots.items old.made.items e n t placed.places placed.slots.items is is-ready None (root_row o p)
        (row-by-root old.places old.slots.items old.made.items e n t placed.places placed.slots.items is is-ready o p h)

    pub root-keeps : KeepsKept t (tree_view entered.places entered.slots.items entered.made.items)
    root-keeps row =
        ap (λ (q : Parts). kept_at (view q).kept row) root-parts
        ∙ keeps-ready-same old.places old.slots.items old.made.items e n t placed.places placed.slots.items is is-ready s kept [] row

  -- by a step from a map
  module _ (m : MapId) (known : IsIn t m) (x : Made) (read : x ≡ get_or old.made.items m.0 x) (by : Step) (h : e ≡ edge_of x.place by) (entered : Table) (s : Slot) (places_are : entered.places ≡ placed.places)
      (slots_are : entered.slots.items ≡ set placed.slots.items n s) (made_are : entered.made.items ≡ placed.made.items ++ record { place = n; parent = Some m } ∷ []) where
    child-parts : parts entered ≡ record { places = placed.places; slots = set placed.slots.items n s; made = old.made.items ++ record { place = n; parent = Some m } ∷ [] }
    child-parts = entered-are entered s (record { place = n; parent = Some m }) places_are slots_are made_are

    pub child-sound : (child : MapId) → child.0 ≡ length t.maps → s.latest ≡ Some child → HasPairWhereDue by s.kept → length old.made.items + 1 < 2 ^ 32 → IsSoundTable entered.places entered.slots.items entered.made.items
    child-sound child number latest pair few =
        subst (λ (q : Parts). IsSoundParts q) (sym child-parts)
        (sound-child old.places old.slots.items old.made.items e n t placed.places placed.slots.items is is-ready m known x read by h s child latest (count child.0 number) pair few)

    by-row : row_by (rows_of placed.places) e ≡ after (row_of t m) by
    by-row = row-by-step old.places old.slots.items old.made.items e n t placed.places placed.slots.items is is-ready m known x read by h

    pub child-maps : (tree_view entered.places entered.slots.items entered.made.items).maps ≡ t.maps ++ record { row = after (row_of t m) by; parent = Some m } ∷ []
    child-maps =
        ap (λ (q : Parts). (view q).maps) child-parts
        ∙ maps-more old.places old.slots.items old.made.items e n t placed.places placed.slots.items is is-ready (Some m) (after (row_of t m) by) by-row

    pub child-keeps : KeepsAt t (tree_view entered.places entered.slots.items entered.made.items) (after (row_of t m) by) s.kept
    child-keeps =
        let k = keeps-ready old.places old.slots.items old.made.items e n t placed.places placed.slots.items is is-ready s (after (row_of t m) by) by-row [] in
        record {
          here = ap (λ (q : Parts). kept_at (view q).kept (after (row_of t m) by)) child-parts ∙ k.here;
          others = λ other ne. ap (λ (q : Parts). kept_at (view q).kept other) child-parts ∙ k.others other ne;
        }
