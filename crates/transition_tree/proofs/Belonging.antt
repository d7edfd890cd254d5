-- A tree and maps that belong together go on doing so.
use Rattle.std.proofs.Common.{◌≡◌, ◌⊎◌, inl, inr, ℕ, zero, suc, ◌<◌, ◌≤◌, Bool, true, false, cond, Option, Some, None, List, [], ◌∷◌, ◌++◌, length, get_or, MatchOption, refl, ap, sym, subst, ◌∙◌, arith, append_assoc, length-append, true≢false}
use Rattle.std.proofs.lemmas.Bool.{cases_lt, cases_order, false_from_ne_true}
use Rattle.std.proofs.lemmas.List.{append-nil, get_or_append_left, get_or_push}
use Rattle.std.proofs.lemmas.Option.{MatchOption-at_some}
use Rattle.property_keys.specs.declared.identifiers.ObjectId.{ObjectId}
use Rattle.map_store.specs.declared.MapId.{MapId}
use Rattle.map_store.specs.declared.OriginId.{OriginId}
use Rattle.map_store.specs.declared.entries.Representation.{Representation}
use Rattle.map_store.specs.Views.{IsKnown, MapView, MapsView, map_at, no_map, root_map, rooted}
use Rattle.transition_tree.specs.declared.paths.Step.{Step}
use Rattle.transition_tree.specs.Paths.{Fits, Form, MakesChild, stepped}
use Rattle.transition_tree.specs.Rows.{Row, Standing, TreeView, after, no_standing, onward, parent_of, root_row, row_of, standing_at}
use Rattle.transition_tree.specs.Together.{BelongTogether, HasLast, HasLive, IsBelow, IsLastAt, IsLiveAt, IsUnder, LacksLive, StandsAt, live_one}
use Rattle.transition_tree.specs.Together.IsBelow.{itself, under}
use Rattle.transition_tree.proofs.Forms.{form-follows, stepped_by-push}
use Rattle.transition_tree.proofs.RowsOfPlaces.{after-inverse, not-after}

-- ---- a map more

-- a new map below one that is there
pub record NewUnder (tree : TreeView) (ms : MapsView) (st : Standing) (m : MapView) (parent : MapId) : Type 0 where
  pub known : IsKnown ms parent
  pub live : m.live ≡ true → (map_at ms parent).live ≡ true
  pub by : Step
  pub row : st.row ≡ after (row_of tree parent) by
  pub fits : Fits (map_at ms parent) by

module _ (tree tree' : TreeView) (ms ms' : MapsView) (st : Standing) (m : MapView) (tree_is : tree'.maps ≡ tree.maps ++ st ∷ []) (maps_are : ms'.maps ≡ ms.maps ++ m ∷ []) (b : BelongTogether tree ms) where
  pub old-standing : (n : MapId) → IsKnown ms n → standing_at tree'.maps n.0 ≡ standing_at tree.maps n.0
  old-standing n k = ap (λ (xs : List Standing). standing_at xs n.0) tree_is ∙ get_or_append_left tree.maps (st ∷ []) no_standing n.0 (omega (arith, b.count))

  pub old-map : (n : MapId) → IsKnown ms n → map_at ms' n ≡ map_at ms n
  old-map n k = ap (λ (xs : List MapView). get_or xs n.0 no_map) maps_are ∙ get_or_append_left ms.maps (m ∷ []) no_map n.0 k

  pub new-standing : (n : MapId) → length ms.maps ≡ n.0 → standing_at tree'.maps n.0 ≡ st
  new-standing n e = ap (λ (xs : List Standing). standing_at xs n.0) tree_is ∙ get_or_push tree.maps st no_standing n.0 (b.count ∙ e)

  pub new-map : (n : MapId) → length ms.maps ≡ n.0 → map_at ms' n ≡ m
  new-map n e = ap (λ (xs : List MapView). get_or xs n.0 no_map) maps_are ∙ get_or_push ms.maps m no_map n.0 e

  old-or-new : (n : MapId) → IsKnown ms' n → IsKnown ms n ⊎ (length ms.maps ≡ n.0)
  old-or-new n k =
      elim (cases_lt n.0 (length ms.maps)) [
        | inl c ↦ inl c
        | inr c ↦ inr (omega (arith, ap (λ (xs : List MapView). length xs) maps_are, length-append ms.maps (m ∷ [])))
      ]

  stands-pushed : StandsAt m st.row → (n : MapId) → IsKnown ms' n → StandsAt (map_at ms' n) (row_of tree' n)
  stands-pushed h n k =
      elim (old-or-new n k) [
        | inl c ↦ subst (λ (v : MapView). StandsAt v (row_of tree' n)) (sym (old-map n c)) (subst (λ (s : Standing). StandsAt (map_at ms n) s.row) (sym (old-standing n c)) (b.stands n c))
        | inr e ↦ subst (λ (v : MapView). StandsAt v (row_of tree' n)) (sym (new-map n e)) (subst (λ (s : Standing). StandsAt m s.row) (sym (new-standing n e)) h)
      ]

  old-under : (n : MapId) → IsKnown ms n → (o : Option MapId) → MatchOption o ((row_of tree n).path ≡ []) (IsUnder tree ms n) → MatchOption o ((row_of tree' n).path ≡ []) (IsUnder tree' ms' n)
  old-under n k None h = ap (λ (s : Standing). s.row.path) (old-standing n k) ∙ h
  old-under n k (Some p) h =
      let known : IsKnown ms p = let earlier = h.earlier in omega arith in
      record {
        earlier = h.earlier;
        live = λ l. ap (λ (v : MapView). v.live) (old-map p known) ∙ h.live (sym (ap (λ (v : MapView). v.live) (old-map n k)) ∙ l);
        by = h.by;
        row = ap (λ (s : Standing). s.row) (old-standing n k) ∙ h.row ∙ ap (λ (s : Standing). after s.row h.by) (sym (old-standing p known));
        fits = subst (λ (v : MapView). Fits v h.by) (sym (old-map p known)) h.fits;
      }

  new-under : (n : MapId) → length ms.maps ≡ n.0 → (o : Option MapId) → MatchOption o (st.row.path ≡ []) (NewUnder tree ms st m) → MatchOption o ((row_of tree' n).path ≡ []) (IsUnder tree' ms' n)
  new-under n e None h = ap (λ (s : Standing). s.row.path) (new-standing n e) ∙ h
  new-under n e (Some p) h = record {
    earlier = let known = h.known in omega arith;
    live = λ l. ap (λ (v : MapView). v.live) (old-map p h.known) ∙ h.live (sym (ap (λ (v : MapView). v.live) (new-map n e)) ∙ l);
    by = h.by;
    row = ap (λ (s : Standing). s.row) (new-standing n e) ∙ h.row ∙ ap (λ (s : Standing). after s.row h.by) (sym (old-standing p h.known));
    fits = subst (λ (v : MapView). Fits v h.by) (sym (old-map p h.known)) h.fits;
  }

  under-pushed : MatchOption st.parent (st.row.path ≡ []) (NewUnder tree ms st m) → (n : MapId) → IsKnown ms' n → MatchOption (parent_of tree' n) ((row_of tree' n).path ≡ []) (IsUnder tree' ms' n)
  under-pushed h n k =
      elim (old-or-new n k) [
        | inl c ↦ subst (λ (o : Option MapId). MatchOption o ((row_of tree' n).path ≡ []) (IsUnder tree' ms' n)) (sym (ap (λ (s : Standing). s.parent) (old-standing n c))) (old-under n c (parent_of tree n) (b.under n c))
        | inr e ↦ subst (λ (o : Option MapId). MatchOption o ((row_of tree' n).path ≡ []) (IsUnder tree' ms' n)) (sym (ap (λ (s : Standing). s.parent) (new-standing n e))) (new-under n e st.parent h)
      ]

  one-pushed : LacksLive tree ms st.row → (early late : MapId) → early.0 < late.0 → IsKnown ms' late → row_of tree' early ≡ row_of tree' late → (map_at ms' early).live ≡ false
  one-pushed lacks early late lt k same =
      elim (old-or-new late k) [
        | inl c ↦
            let known : IsKnown ms early = omega arith in
            ap (λ (v : MapView). v.live) (old-map early known)
            ∙ b.one early late lt c (sym (ap (λ (s : Standing). s.row) (old-standing early known)) ∙ same ∙ ap (λ (s : Standing). s.row) (old-standing late c))
        | inr e ↦
            let known : IsKnown ms early = omega arith in
            ap (λ (v : MapView). v.live) (old-map early known)
            ∙ false_from_ne_true (map_at ms early).live (λ l. lacks early known l (sym (ap (λ (s : Standing). s.row) (old-standing early known)) ∙ same ∙ ap (λ (s : Standing). s.row) (new-standing late e)))
      ]

  pub together-pushed : StandsAt m st.row → MatchOption st.parent (st.row.path ≡ []) (NewUnder tree ms st m) → LacksLive tree ms st.row → BelongTogether tree' ms'
  together-pushed stands parent lacks = record {
    count = omega (arith, b.count, ap (λ (xs : List Standing). length xs) tree_is, ap (λ (xs : List MapView). length xs) maps_are, length-append tree.maps (st ∷ []), length-append ms.maps (m ∷ []));
    stands = stands-pushed stands;
    under = under-pushed parent;
    one = one-pushed lacks;
  }

pub together-same : (tree tree' : TreeView) (ms : MapsView) → tree'.maps ≡ tree.maps → BelongTogether tree ms → BelongTogether tree' ms
together-same tree tree' ms e b = record {
  count = ap (λ (xs : List Standing). length xs) e ∙ b.count;
  stands = λ n k. subst (λ (xs : List Standing). StandsAt (map_at ms n) (standing_at xs n.0).row) (sym e) (b.stands n k);
  under = λ n k. subst (λ (o : Option MapId). MatchOption o ((row_of tree' n).path ≡ []) (IsUnder tree' ms n)) (sym (ap (λ (xs : List Standing). (standing_at xs n.0).parent) e)) (same-under n k (parent_of tree n) (b.under n k));
  one = λ early late lt k same. b.one early late lt k (sym (ap (λ (xs : List Standing). (standing_at xs early.0).row) e) ∙ same ∙ ap (λ (xs : List Standing). (standing_at xs late.0).row) e);
}
  where
    same-under : (n : MapId) → IsKnown ms n → (o : Option MapId) → MatchOption o ((row_of tree n).path ≡ []) (IsUnder tree ms n) → MatchOption o ((row_of tree' n).path ≡ []) (IsUnder tree' ms n)
    same-under n k None h = ap (λ (xs : List Standing). (standing_at xs n.0).row.path) e ∙ h
    same-under n k (Some p) h = record {
      earlier = h.earlier;
      live = h.live;
      by = h.by;
      row = ap (λ (xs : List Standing). (standing_at xs n.0).row) e ∙ h.row ∙ ap (λ (xs : List Standing). after (standing_at xs p.0).row h.by) (sym e);
      fits = h.fits;
    }

pub together-none : BelongTogether (record { maps = []; kept = [] }) (record { maps = []; lengths = [] })
together-none = record { count = refl; stands = λ n k. absurd (omega arith); under = λ n k. absurd (omega arith); one = λ early late lt k same. absurd (omega arith) }

pub root-together : (tree tree' : TreeView) (ms ms' : MapsView) (origin : OriginId) (proto : Option ObjectId) → BelongTogether tree ms → LacksLive tree ms (root_row origin proto)
    → tree'.maps ≡ tree.maps ++ record { row = root_row origin proto; parent = None } ∷ [] → ms' ≡ rooted ms origin proto → BelongTogether tree' ms'
root-together tree tree' ms ms' origin proto b lacks tree_is is =
    together-pushed tree tree' ms ms' (record { row = root_row origin proto; parent = None }) (root_map (length ms.lengths) origin proto) tree_is (ap (λ (x : MapsView). x.maps) is) b
    (record { origin = refl; proto = refl; form = refl }) refl lacks

pub child-together : (tree tree' : TreeView) (ms ms' : MapsView) (parent child : MapId) (s : Step) (r : Representation) → BelongTogether tree ms → IsKnown ms parent → (map_at ms parent).live ≡ true
    → LacksLive tree ms (after (row_of tree parent) s) → Fits (map_at ms parent) s → tree'.maps ≡ tree.maps ++ record { row = after (row_of tree parent) s; parent = Some parent } ∷ []
    → MakesChild ms ms' parent s r child → BelongTogether tree' ms'
child-together tree tree' ms ms' parent child s r b known live lacks fits tree_is made =
    let above = b.stands parent known in
    together-pushed tree tree' ms ms' (record { row = after (row_of tree parent) s; parent = Some parent }) (map_at ms' child) tree_is made.maps b
    (record {
      origin = made.follows.origin ∙ above.origin;
      proto = made.follows.proto ∙ above.proto;
      form = form-follows (map_at ms parent) (map_at ms' child) s r made.follows ∙ ap (λ (f : Form). stepped f s) above.form ∙ sym (stepped_by-push (record { entries = []; extensible = true }) (row_of tree parent).path s);
    })
    (record { known = known; live = λ l. live; by = s; row = refl; fits = fits })
    lacks

-- ---- the live map of a row

last-live : (tree : TreeView) (ms : MapsView) (row : Row) (l : MapId) → BelongTogether tree ms → IsLastAt tree row l → (alive : Bool) → (map_at ms l).live ≡ alive → HasLive tree ms row (cond alive (Some l) None)
last-live tree ms row l b last true e = record { known = omega (arith, b.count, last.known); live = e; here = last.here }
last-live tree ms row l b last false e = λ m known live here.
    let bound : m.0 ≤ l.0 = last.last m (omega (arith, b.count)) here in
    elim (cases_lt m.0 l.0) [
      | inl lt ↦ true≢false (sym live ∙ b.one m l lt (omega (arith, b.count, last.known)) (here ∙ sym last.here))
      | inr ge ↦ let same : m.0 ≡ l.0 = omega arith in true≢false (sym live ∙ ap (λ (k : ℕ). (get_or ms.maps k no_map).live) same ∙ e)
    ]

pub live-one : (tree : TreeView) (ms : MapsView) (row : Row) (o : Option MapId) → BelongTogether tree ms → HasLast tree row o → HasLive tree ms row (live_one ms o)
live-one tree ms row None b lacks = λ m known live. lacks m (omega (arith, b.count))
live-one tree ms row (Some l) b last = last-live tree ms row l b last (map_at ms l).live refl

pub live-same : (tree : TreeView) (ms : MapsView) (row : Row) (a c : MapId) → BelongTogether tree ms → IsLiveAt tree ms row a → IsLiveAt tree ms row c → a ≡ c
live-same tree ms row a c b x y =
    elim (cases_order a.0 c.0) [
      | inl same ↦ λ t. record { 0 = same t }
      | inr other ↦ elim other [
        | inl lt ↦ absurd (true≢false (sym x.live ∙ b.one a c lt y.known (x.here ∙ sym y.here)))
        | inr gt ↦ absurd (true≢false (sym y.live ∙ b.one c a gt x.known (y.here ∙ sym x.here)))
      ]
    ]

-- ---- fronts of a path

record EndsBy (xs : List Step) : Type 0 where
  front : List Step
  last : Step
  is : xs ≡ front ++ last ∷ []

ends : (xs : List Step) → (xs ≡ []) ⊎ EndsBy xs
ends [] = inl refl
ends (x ∷ xs) =
    elim (ends xs) [
      | inl e ↦ inr (record { front = []; last = x; is = ap (λ (ys : List Step). x ∷ ys) e })
      | inr r ↦ inr (record { front = x ∷ r.front; last = r.last; is = ap (λ (ys : List Step). x ∷ ys) r.is })
    ]

pub onward-nil : (row : Row) → onward row [] ≡ row
onward-nil row = λ t. record row { path = append-nil row.path t }

pub onward-push : (row : Row) (path : List Step) (s : Step) → onward row (path ++ s ∷ []) ≡ after (onward row path) s
onward-push row path s = λ t. record row { path = sym (append_assoc row.path path (s ∷ [])) t }

pub after-onward : (row : Row) (s : Step) (path : List Step) → onward (after row s) path ≡ onward row (s ∷ path)
after-onward row s path = λ t. record row { path = append_assoc row.path (s ∷ []) path t }

-- the map at a front of a map's path, above it
pub record HasFront (tree : TreeView) (ms : MapsView) (row : Row) (map : MapId) : Type 0 where
  pub at : MapId
  pub known : IsKnown ms at
  pub here : row_of tree at ≡ row
  pub live : (map_at ms map).live ≡ true → (map_at ms at).live ≡ true
  pub below : IsBelow tree at map

module _ (tree : TreeView) (ms : MapsView) (b : BelongTogether tree ms) (row : Row) where
  front-below : (bound : ℕ) (map : MapId) → map.0 < bound → IsKnown ms map → (rest : List Step) → row_of tree map ≡ onward row rest → HasFront tree ms row map
  front-below zero map lt known rest e = absurd (omega arith)
  front-below (suc bound) map lt known rest e =
      elim (ends rest) [
        | inl none ↦ record { at = map; known = known; here = e ∙ ap (onward row) none ∙ onward-nil row; live = λ l. l; below = itself }
        | inr r ↦ front-step map known rest e r (λ p earlier path same. front-below bound p (omega arith) (omega arith) path same) (parent_of tree map) refl (b.under map known)
      ]
    where
      front-step : (map : MapId) → IsKnown ms map → (rest : List Step) → row_of tree map ≡ onward row rest → (r : EndsBy rest)
          → ((p : MapId) → p.0 < map.0 → (path : List Step) → row_of tree p ≡ onward row path → HasFront tree ms row p)
          → (o : Option MapId) → parent_of tree map ≡ o → MatchOption o ((row_of tree map).path ≡ []) (IsUnder tree ms map) → HasFront tree ms row map
      front-step map known rest e r above None is h =
          absurd (not-after (onward row r.front) r.last (sym h ∙ ap (λ (x : Row). x.path) (e ∙ ap (onward row) r.is ∙ onward-push row r.front r.last)))
      front-step map known rest e r above (Some p) is h =
          let parts = after-inverse (row_of tree p) (onward row r.front) h.by r.last (sym h.row ∙ e ∙ ap (onward row) r.is ∙ onward-push row r.front r.last) in
          let f = above p h.earlier r.front parts.0 in
          record { at = f.at; known = f.known; here = f.here; live = λ l. f.live (h.live l); below = under p is f.below }

  pub front-of : (map : MapId) → IsKnown ms map → (rest : List Step) → row_of tree map ≡ onward row rest → HasFront tree ms row map
  front-of map known rest e = front-below (suc map.0) map (omega arith) known rest e

  pub lacks-onward : LacksLive tree ms row → (rest : List Step) → LacksLive tree ms (onward row rest)
  lacks-onward lacks rest map known live e = let f = front-of map known rest e in lacks f.at f.known (f.live live) f.here

-- ---- what is below a map

pub record FollowsOn (tree : TreeView) (map n : MapId) : Type 0 where
  pub rest : List Step
  pub is : row_of tree n ≡ onward (row_of tree map) rest

pub below-onward : (tree : TreeView) (ms : MapsView) → BelongTogether tree ms → (map n : MapId) → IsKnown ms n → IsBelow tree map n → FollowsOn tree map n
below-onward tree ms b map n known itself = record { rest = []; is = sym (onward-nil (row_of tree map)) }
below-onward tree ms b map n known (under p is h) =
    let above : IsUnder tree ms n p = MatchOption-at_some ((row_of tree n).path ≡ []) (IsUnder tree ms n) p is (b.under n known) in
    let f = below-onward tree ms b map p (let earlier = above.earlier in omega arith) h in
    record { rest = f.rest ++ above.by ∷ []; is = above.row ∙ ap (λ (x : Row). after x above.by) f.is ∙ sym (onward-push (row_of tree map) f.rest above.by) }

pub below-later : (tree : TreeView) (ms : MapsView) → BelongTogether tree ms → (map n : MapId) → IsKnown ms n → IsBelow tree map n → map.0 ≤ n.0
below-later tree ms b map n known itself = omega arith
below-later tree ms b map n known (under p is h) =
    let above : IsUnder tree ms n p = MatchOption-at_some ((row_of tree n).path ≡ []) (IsUnder tree ms n) p is (b.under n known) in
    let bound = below-later tree ms b map p (let earlier = above.earlier in omega arith) h in
    let earlier = above.earlier in omega arith

pub record ParentBelow (tree : TreeView) (map n : MapId) : Type 0 where
  pub parent : MapId
  pub is : parent_of tree n ≡ Some parent
  pub below : IsBelow tree map parent

pub below-cases : (tree : TreeView) (map n : MapId) → IsBelow tree map n → (n.0 ≡ map.0) ⊎ ParentBelow tree map n
below-cases tree map n itself = inl refl
below-cases tree map n (under p is h) = inr (record { parent = p; is = is; below = h })
