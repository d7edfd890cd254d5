-- Maps that are made for a row, one after another.
use Rattle.std.proofs.Common.{◌≡◌, inl, inr, ℕ, ◌+◌, ◌<◌, ◌≤◌, Option, Some, None, List, [], ◌∷◌, ◌++◌, Result, Ok, Err, IfOk, OnErr, length, get_or, take, drop, MatchOption, refl, ap, sym, subst, ◌∙◌, arith, length-append, append_assoc}
use Rattle.std.proofs.lemmas.Bool.{cases_Bool, cases_lt, false≢true}
use Rattle.std.proofs.lemmas.List.{take-append-drop, take_all, take_more}
use Rattle.property_keys.specs.declared.faults.NoMemory.{NoMemory}
use Rattle.property_keys.specs.declared.identifiers.ObjectId.{ObjectId}
use Rattle.map_store.specs.declared.MapId.{MapId}
use Rattle.map_store.specs.declared.OriginId.{OriginId}
use Rattle.map_store.specs.declared.entries.Representation.{Representation}
use Rattle.map_store.specs.Views.{IsKnown, KeepsEntries, MapView, MapsView, map_at, root_map}
use Rattle.transition_tree.specs.declared.paths.Step.{Step}
use Rattle.transition_tree.specs.Paths.{Fits, Follows, Form, form_of}
use Rattle.transition_tree.specs.Rows.{HadMap, IsAsBefore, KeepsKept, Row, Standing, TreeView, after, kept_at, onward, parent_of, root_row, row_of, same_row, standing_at}
use Rattle.transition_tree.specs.Together.{AddsChild, BelongTogether, FindsRoot, GetsRoot, IsLiveAt, IsUnder, MakesRoot}
use Rattle.transition_tree.proofs.Belonging.{HasFront, front-of, new-map, new-standing, old-map, old-standing, onward-nil, onward-push}
use Rattle.transition_tree.proofs.Forms.{fits-same}
use Rattle.transition_tree.proofs.RowsOfPlaces.{after-inverse, not-after}
use Rattle.transition_tree.proofs.Same.{same_row-eq, same_row-true}
use Rattle.map_deprecation.specs.Moves.{AreOfOnePath}
use Rattle.map_deprecation.specs.Updating.{Grows, IsMadeFor, IsMadeFrom, root_of}

-- ---- nothing is made

pub grows-none : (old new : TreeView) (before now : MapsView) (row : Row) → IsAsBefore old new → now ≡ before → Grows old new before now row
grows-none old new before now row same is = record {
  more = omega (arith, ap (λ (ms : MapsView). length ms.maps) is);
  maps = λ n k. ap (λ (ms : MapsView). map_at ms n) is;
  tree = λ n k. ap (λ (xs : List Standing). standing_at xs n.0) same.maps;
  kept = same.kept;
  made = λ n more k. absurd (omega (arith, ap (λ (ms : MapsView). length ms.maps) is));
}

pub same-tree : (t : TreeView) → IsAsBefore t t
same-tree t = record { maps = refl; kept = λ row. refl }

-- ---- one after another

module _ (a b c : TreeView) (ms ns os : MapsView) (row : Row) (first : Grows a b ms ns row) (then' : Grows b c ns os row) where
  still-made : (n : MapId) → IsKnown ns n → (o : Option MapId) → MatchOption o ((row_of b n).path ≡ []) (IsMadeFrom b ns n) → MatchOption o ((row_of c n).path ≡ []) (IsMadeFrom c os n)
  still-made n k None h = ap (λ (s : Standing). s.row.path) (then'.tree n k) ∙ h
  still-made n k (Some p) h =
      let known : IsKnown ns p = let earlier = h.earlier in omega arith in
      let kept : kept_at c.kept (row_of c n) ≡ kept_at b.kept (row_of b n) = then'.kept (row_of c n) ∙ ap (λ (s : Standing). kept_at b.kept s.row) (then'.tree n k) in
      record {
        earlier = h.earlier;
        by = h.by;
        row = ap (λ (s : Standing). s.row) (then'.tree n k) ∙ h.row ∙ ap (λ (s : Standing). after s.row h.by) (sym (then'.tree p known));
        follows = subst (λ (v : MapView). Follows v h.by (kept_at c.kept (row_of c n)) (map_at os n)) (sym (then'.maps p known))
            (subst (λ (r : Representation). Follows (map_at ns p) h.by r (map_at os n)) (sym kept)
            (subst (λ (v : MapView). Follows (map_at ns p) h.by (kept_at b.kept (row_of b n)) v) (sym (then'.maps n k)) h.follows));
      }

  still-for : (n : MapId) → IsKnown ns n → IsMadeFor b ns row n → IsMadeFor c os row n
  still-for n k m = record {
    rest = m.rest;
    front = m.front ∙ ap (λ (s : Standing). onward s.row m.rest) (sym (then'.tree n k));
    live = ap (λ (v : MapView). v.live) (then'.maps n k) ∙ m.live;
    made = subst (λ (o : Option MapId). MatchOption o ((row_of c n).path ≡ []) (IsMadeFrom c os n)) (sym (ap (λ (s : Standing). s.parent) (then'.tree n k))) (still-made n k (parent_of b n) m.made);
  }

  pub grows-then : Grows a c ms os row
  grows-then =
      let more = first.more in
      let more' = then'.more in
      record {
        more = omega arith;
        maps = λ n k. then'.maps n (omega arith) ∙ first.maps n k;
        tree = λ n k. then'.tree n (omega arith) ∙ first.tree n k;
        kept = λ r. then'.kept r ∙ first.kept r;
        made = λ n ge k. elim (cases_lt n.0 (length ns.maps)) [
          | inl lt ↦ still-for n lt (first.made n ge lt)
          | inr past ↦ then'.made n past k
        ];
      }

-- made for a front of a row is made for the row
pub grows-wider : (old new : TreeView) (before now : MapsView) (front row : Row) (rest : List Step) → row ≡ onward front rest → Grows old new before now front → Grows old new before now row
grows-wider old new before now front row rest is g = record {
  more = g.more;
  maps = g.maps;
  tree = g.tree;
  kept = g.kept;
  made = λ n ge k.
      let m = g.made n ge k in
      record {
        rest = m.rest ++ rest;
        front = is ∙ ap (λ (r : Row). onward r rest) m.front ∙ (λ t. record (row_of new n) { path = append_assoc (row_of new n).path m.rest rest t });
        live = m.live;
        made = m.made;
      };
}

-- ---- a child

module _ (old new : TreeView) (before now : MapsView) (parent : MapId) (s : Step) (r : Representation) (child : MapId) (b : BelongTogether old before) (known : IsKnown before parent)
    (is_kept : r ≡ kept_at old.kept (after (row_of old parent) s)) (adds : AddsChild old new before now parent s r child) where
  abbrev st : Standing
  st = record { row = after (row_of old parent) s; parent = Some parent }

  abbrev m : MapView
  m = map_at now child

  stays : (n : MapId) → IsKnown before n → standing_at new.maps n.0 ≡ standing_at old.maps n.0
  stays n k = old-standing old new before now st m adds.maps adds.made.maps b n k

  same-map : (n : MapId) → IsKnown before n → map_at now n ≡ map_at before n
  same-map n k = old-map old new before now st m adds.maps adds.made.maps b n k

  stands : standing_at new.maps child.0 ≡ st
  stands = new-standing old new before now st m adds.maps adds.made.maps b child (sym adds.made.number)

  child-kept : KeepsKept old new
  child-kept row =
      elim (cases_Bool (same_row row (after (row_of old parent) s))) [
        | inl t ↦
            let same = same_row-eq row (after (row_of old parent) s) t in
            ap (kept_at new.kept) same ∙ adds.kept.here ∙ is_kept ∙ ap (kept_at old.kept) (sym same)
        | inr f ↦ adds.kept.others row (λ e. false≢true (sym f ∙ same_row-true row (after (row_of old parent) s) e))
      ]

  child-made : IsMadeFor new now (after (row_of old parent) s) child
  child-made = record {
    rest = [];
    front = ap (λ (x : Standing). x.row) (sym stands) ∙ sym (onward-nil (row_of new child));
    live = adds.made.follows.live;
    made = subst (λ (o : Option MapId). MatchOption o ((row_of new child).path ≡ []) (IsMadeFrom new now child)) (ap (λ (x : Standing). x.parent) (sym stands))
        (record {
          earlier = omega (arith, adds.made.number);
          by = s;
          row = ap (λ (x : Standing). x.row) stands ∙ ap (λ (x : Standing). after x.row s) (sym (stays parent known));
          follows = subst (λ (v : MapView). Follows v s (kept_at new.kept (row_of new child)) m) (sym (same-map parent known))
              (subst (λ (x : Representation). Follows (map_at before parent) s x m) (sym (ap (λ (x : Standing). kept_at new.kept x.row) stands ∙ adds.kept.here)) adds.made.follows);
        });
  }

  pub grows-child : Grows old new before now (after (row_of old parent) s)
  grows-child = record {
    more = omega (arith, ap (λ (xs : List MapView). length xs) adds.made.maps, length-append before.maps (m ∷ []));
    maps = same-map;
    tree = stays;
    kept = child-kept;
    made = λ n ge k.
        let last : child.0 ≡ n.0 = omega (arith, adds.made.number, ap (λ (xs : List MapView). length xs) adds.made.maps, length-append before.maps (m ∷ [])) in
        subst (λ (j : ℕ). IsMadeFor new now (after (row_of old parent) s) (record { 0 = j })) last child-made;
  }

  pub child-live : IsLiveAt new now (after (row_of old parent) s) child
  child-live = record {
    known = omega (arith, adds.made.number, ap (λ (xs : List MapView). length xs) adds.made.maps, length-append before.maps (m ∷ []));
    live = adds.made.follows.live;
    here = ap (λ (x : Standing). x.row) stands;
  }

pub child-result : (result : Result MapId NoMemory) (old new : TreeView) (before now : MapsView) (parent : MapId) (s : Step) (r : Representation) → BelongTogether old before → IsKnown before parent
    → r ≡ kept_at old.kept (after (row_of old parent) s) → IfOk result (AddsChild old new before now parent s r) → OnErr result (IsAsBefore old new) → OnErr result (now ≡ before)
    → Grows old new before now (after (row_of old parent) s)
child-result (Ok child) old new before now parent s r b known kept adds same is = grows-child old new before now parent s r child b known kept adds
child-result (Err x) old new before now parent s r b known kept adds same is = grows-none old new before now (after (row_of old parent) s) same is

pub child-lives : (result : Result MapId NoMemory) (old new : TreeView) (before now : MapsView) (parent : MapId) (s : Step) (r : Representation) → BelongTogether old before → IsKnown before parent
    → r ≡ kept_at old.kept (after (row_of old parent) s) → IfOk result (AddsChild old new before now parent s r) → IfOk result (IsLiveAt new now (after (row_of old parent) s))
child-lives (Ok child) old new before now parent s r b known kept adds = child-live old new before now parent s r child b known kept adds
child-lives (Err x) old new before now parent s r b known kept adds = tt

-- ---- a root

module _ (old new : TreeView) (before now : MapsView) (origin : OriginId) (proto : Option ObjectId) (root : MapId) (b : BelongTogether old before) where
  abbrev rst : Standing
  rst = record { row = root_row origin proto; parent = None }

  abbrev rm : MapView
  rm = root_map (length before.lengths) origin proto

  root-made : MakesRoot old new before now origin proto root → Grows old new before now (root_row origin proto)
  root-made makes =
      let maps_are : now.maps ≡ before.maps ++ rm ∷ [] = ap (λ (ms : MapsView). ms.maps) makes.made in
      let stands = new-standing old new before now rst rm makes.maps maps_are b root (sym makes.number) in
      let made : IsMadeFor new now (root_row origin proto) root = record {
        rest = [];
        front = ap (λ (x : Standing). x.row) (sym stands) ∙ sym (onward-nil (row_of new root));
        live = ap (λ (v : MapView). v.live) (new-map old new before now rst rm makes.maps maps_are b root (sym makes.number));
        made = subst (λ (o : Option MapId). MatchOption o ((row_of new root).path ≡ []) (IsMadeFrom new now root)) (ap (λ (x : Standing). x.parent) (sym stands)) (ap (λ (x : Standing). x.row.path) stands);
      } in
      record {
        more = omega (arith, ap (λ (xs : List MapView). length xs) maps_are, length-append before.maps (rm ∷ []));
        maps = old-map old new before now rst rm makes.maps maps_are b;
        tree = old-standing old new before now rst rm makes.maps maps_are b;
        kept = makes.kept;
        made = λ n ge k.
            let last : root.0 ≡ n.0 = omega (arith, makes.number, ap (λ (xs : List MapView). length xs) maps_are, length-append before.maps (rm ∷ [])) in
            subst (λ (j : ℕ). IsMadeFor new now (root_row origin proto) (record { 0 = j })) last made;
      }

  found-tree : FindsRoot old new before now origin proto root → IsAsBefore old new
  found-tree f = record { maps = ap (λ (t : TreeView). t.maps) f.tree; kept = λ row. ap (λ (t : TreeView). kept_at t.kept row) f.tree }

  pub grows-root : GetsRoot old new before now origin proto root → Grows old new before now (root_row origin proto)
  grows-root (inl f) = grows-none old new before now (root_row origin proto) (found-tree f) f.maps
  grows-root (inr makes) = root-made makes

  pub root-live : GetsRoot old new before now origin proto root → IsLiveAt new now (root_row origin proto) root
  root-live (inl f) =
      subst (λ (t : TreeView). IsLiveAt t now (root_row origin proto) root) (sym f.tree) (subst (λ (ms : MapsView). IsLiveAt old ms (root_row origin proto) root) (sym f.maps) f.here)
  root-live (inr makes) =
      let maps_are : now.maps ≡ before.maps ++ rm ∷ [] = ap (λ (ms : MapsView). ms.maps) makes.made in
      record {
        known = omega (arith, makes.number, ap (λ (xs : List MapView). length xs) maps_are, length-append before.maps (rm ∷ []));
        live = ap (λ (v : MapView). v.live) (new-map old new before now rst rm makes.maps maps_are b root (sym makes.number));
        here = ap (λ (x : Standing). x.row) (new-standing old new before now rst rm makes.maps maps_are b root (sym makes.number));
      }

-- ---- along the path of a map

pub grows-entries : (old new : TreeView) (before now : MapsView) (row : Row) → Grows old new before now row → KeepsEntries before now
grows-entries old new before now row g = record { more = g.more; same = λ n k. ap (λ (v : MapView). v.entries) (g.maps n k) }

module _ (tree : TreeView) (ms : MapsView) (b : BelongTogether tree ms) (row : Row) (map : MapId) (known : IsKnown ms map) (stands : row_of tree map ≡ row) (i : ℕ) (s : Step) (lt : i < length row.path) (is : s ≡ get_or row.path i s) where
  abbrev here : Row
  here = onward (root_of row) (take i row.path)

  next-row : onward (root_of row) (take (i + 1) row.path) ≡ after here s
  next-row = ap (onward (root_of row)) (take_more row.path i s lt ∙ ap (λ (x : Step). take i row.path ++ x ∷ []) (sym is)) ∙ onward-push (root_of row) (take i row.path) s

  whole : row ≡ onward (after here s) (drop (i + 1) row.path)
  whole =
      (λ t. record row { path = sym (take-append-drop (i + 1) row.path) t })
      ∙ ap (λ (r : Row). onward r (drop (i + 1) row.path)) next-row

  front : HasFront tree ms (after here s) map
  front = front-of tree ms b (after here s) map known (drop (i + 1) row.path) (stands ∙ whole)

  pub next-had : (at : MapId) → row_of tree at ≡ here → HadMap tree (after (row_of tree at) s)
  next-had at e = (front.at, omega (arith, b.count, front.known), front.here ∙ ap (λ (r : Row). after r s) (sym e))

  fits-from : (at : MapId) → IsKnown ms at → row_of tree at ≡ here → (o : Option MapId) → MatchOption o ((row_of tree front.at).path ≡ []) (IsUnder tree ms front.at) → Fits (map_at ms at) s
  fits-from at k e None h = absurd (not-after here s (sym h ∙ ap (λ (r : Row). r.path) front.here))
  fits-from at k e (Some p) u =
      let parts = after-inverse (row_of tree p) here u.by s (sym u.row ∙ front.here) in
      let there : IsKnown ms p = let earlier = u.earlier in let k = front.known in omega arith in
      let form = (b.stands p there).form ∙ ap (λ (r : Row). form_of r.path) (parts.0 ∙ sym e) ∙ sym (b.stands at k).form in
      fits-same (map_at ms p) (map_at ms at) s form (subst (λ (x : Step). Fits (map_at ms p) x) parts.1 u.fits)

  pub next-fits : (at : MapId) → IsKnown ms at → row_of tree at ≡ here → Fits (map_at ms at) s
  next-fits at k e = fits-from at k e (parent_of tree front.at) (b.under front.at front.known)

  pub next-live : (tree' : TreeView) (ms' : MapsView) (at next : MapId) → row_of tree at ≡ here → IsLiveAt tree' ms' (after (row_of tree at) s) next → IsLiveAt tree' ms' (onward (root_of row) (take (i + 1) row.path)) next
  next-live tree' ms' at next e l = subst (λ (r : Row). IsLiveAt tree' ms' r next) (ap (λ (r : Row). after r s) e ∙ sym next-row) l

  pub next-grows : (tree' : TreeView) (ms' : MapsView) (at : MapId) → row_of tree at ≡ here → Grows tree tree' ms ms' (after (row_of tree at) s) → Grows tree tree' ms ms' row
  next-grows tree' ms' at e g = grows-wider tree tree' ms ms' (after (row_of tree at) s) row (drop (i + 1) row.path) (whole ∙ ap (λ (r : Row). onward (after r s) (drop (i + 1) row.path)) (sym e)) g

pub path-ends : (tree : TreeView) (ms : MapsView) (row : Row) (at : MapId) (n : ℕ) → length row.path ≤ n → IsLiveAt tree ms (onward (root_of row) (take n row.path)) at → IsLiveAt tree ms row at
path-ends tree ms row at n b h = subst (λ (p : List Step). IsLiveAt tree ms (onward (root_of row) p) at) (take_all n row.path b) h

-- maps of one row are of one path
pub one-path : (tree : TreeView) (ms : MapsView) → BelongTogether tree ms → (a c : MapId) → IsKnown ms a → IsKnown ms c → row_of tree a ≡ row_of tree c → AreOfOnePath (map_at ms a).entries (map_at ms c).entries
one-path tree ms b a c x y e = ap (λ (f : Form). f.entries) ((b.stands a x).form ∙ ap (λ (r : Row). form_of r.path) e ∙ sym (b.stands c y).form)

pub updated-path : (old new : TreeView) (before now : MapsView) (map live : MapId) → IsKnown before map → BelongTogether new now → Grows old new before now (row_of old map) → IsLiveAt new now (row_of old map) live
    → AreOfOnePath (map_at now map).entries (map_at now live).entries
updated-path old new before now map live known b g l =
    let more = g.more in
    one-path new now b map live (omega arith) l.known (ap (λ (s : Standing). s.row) (g.tree map known) ∙ sym l.here)
