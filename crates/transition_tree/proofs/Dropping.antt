-- A branch falls, map by map in the order of numbers.
use Rattle.std.proofs.Common.{◌≡◌, ◌≢◌, ◌⊎◌, inl, inr, ℕ, ◌+◌, ◌<◌, ◌≤◌, true, false, Option, Some, None, [], length, get_or, MatchOption, refl, ap, sym, subst, ◌∙◌, arith, length-set, true≢false}
use Rattle.std.proofs.Math.ListN.{set}
use Rattle.std.proofs.lemmas.Bool.{cases_eq, cases_lt, false_from_ne_true}
use Rattle.std.proofs.lemmas.List.{get_or-set_other, get_or-set_same}
use Rattle.std.proofs.lemmas.Option.{MatchOption-at_some, none-some, same_Some}
use Rattle.map_store.specs.declared.MapId.{MapId}
use Rattle.map_store.specs.Views.{IsKnown, KeepsEntries, MapView, MapsView, dead_map, map_at, marked_dead, no_map}
use Rattle.transition_tree.specs.Paths.{Fits, form_in}
use Rattle.transition_tree.specs.Rows.{TreeView, parent_of, row_of}
use Rattle.transition_tree.specs.Together.{BelongTogether, DropsBranch, IsBelow, IsUnder, StandsAt}
use Rattle.transition_tree.specs.Together.IsBelow.{itself, under}
use Rattle.transition_tree.proofs.Belonging.{below-cases, below-later}
use Rattle.transition_tree.proofs.Forms.{fits-same}

abbrev pub IsLeft : TreeView → MapsView → MapsView → MapId → MapId → Type 0
IsLeft tree before now map n = (IsBelow tree map n × (map_at now n ≡ dead_map (map_at before n))) ⊎ ((IsBelow tree map n → ⊥) × (map_at now n ≡ map_at before n))

-- the maps below a number are as they are left, and the others as they were
pub record IsDroppedTo (tree : TreeView) (before now : MapsView) (map : MapId) (k : ℕ) : Type 0 where
  pub count : length now.maps ≡ length before.maps
  pub arrays : now.lengths ≡ before.lengths
  pub done : (n : MapId) → n.0 < k → IsKnown before n → IsLeft tree before now map n
  pub rest : (n : MapId) → k ≤ n.0 → map_at now n ≡ map_at before n

-- what is seen of a map once one is dead
marked-here : (ms : MapsView) (m n : MapId) → IsKnown ms m → n.0 ≡ m.0 → map_at (marked_dead ms m) n ≡ dead_map (map_at ms n)
marked-here ms m n k e =
    ap (λ (j : ℕ). get_or (set ms.maps m.0 (dead_map (map_at ms m))) j no_map) e ∙ get_or-set_same ms.maps m.0 (dead_map (map_at ms m)) no_map k
    ∙ ap (λ (j : ℕ). dead_map (get_or ms.maps j no_map)) (sym e)

marked-there : (ms : MapsView) (m n : MapId) → n.0 ≢ m.0 → map_at (marked_dead ms m) n ≡ map_at ms n
marked-there ms m n ne = get_or-set_other ms.maps m.0 n.0 (dead_map (map_at ms m)) no_map ne

module _ (tree : TreeView) (before : MapsView) (map : MapId) (b : BelongTogether tree before) (known : IsKnown before map) where
  pub dropped-first : IsDroppedTo tree before (marked_dead before map) map (map.0 + 1)
  dropped-first = record {
    count = length-set before.maps map.0 (dead_map (map_at before map));
    arrays = refl;
    done = λ n lt k. elim (cases_eq n.0 map.0) [
      | inl same ↦ inl (subst (λ (j : ℕ). IsBelow tree map (record { 0 = j })) (sym same) itself, marked-here before map n known same)
      | inr ne ↦ inr (λ below. let later = below-later tree before b map n k below in ne (omega arith), marked-there before map n ne)
    ];
    rest = λ n ge. marked-there before map n (λ e. omega arith);
  }

  module _ (now : MapsView) (k : MapId) (to : IsDroppedTo tree before now map k.0) (later : map.0 < k.0) (there : IsKnown before k) where
    -- the next map stays
    pub dropped-stays : (IsBelow tree map k → ⊥) → IsDroppedTo tree before now map (k.0 + 1)
    dropped-stays apart = record {
      count = to.count;
      arrays = to.arrays;
      done = λ n lt known. elim (cases_lt n.0 k.0) [
        | inl c ↦ to.done n c known
        | inr c ↦
            let same : k.0 ≡ n.0 = omega arith in
            subst (λ (j : ℕ). IsLeft tree before now map (record { 0 = j })) same (inr (apart, to.rest k (omega arith)))
      ];
      rest = λ n ge. to.rest n (omega arith);
    }

    -- the next map falls
    pub dropped-falls : (IsBelow tree map k ⊎ ((IsBelow tree map k → ⊥) × ((map_at before k).live ≡ false))) → IsDroppedTo tree before (marked_dead now k) map (k.0 + 1)
    dropped-falls fate = record {
      count = length-set now.maps k.0 (dead_map (map_at now k)) ∙ to.count;
      arrays = to.arrays;
      done = λ n lt known. elim (cases_lt n.0 k.0) [
        | inl c ↦
            let stays : map_at (marked_dead now k) n ≡ map_at now n = marked-there now k n (λ e. omega arith) in
            elim (to.done n c known) [
              | inl f ↦ inl (f.0, stays ∙ f.1)
              | inr f ↦ inr (f.0, stays ∙ f.1)
            ]
        | inr c ↦
            let same : k.0 ≡ n.0 = omega arith in
            subst (λ (j : ℕ). IsLeft tree before (marked_dead now k) map (record { 0 = j })) same last
      ];
      rest = λ n ge. marked-there now k n (λ e. omega arith) ∙ to.rest n (omega arith);
    }
      where
        falls : map_at (marked_dead now k) k ≡ dead_map (map_at before k)
        falls = marked-here now k k (omega (arith, to.count)) refl ∙ ap (λ (v : MapView). dead_map v) (to.rest k (omega arith))

        last : IsLeft tree before (marked_dead now k) map k
        last = elim fate [
          | inl below ↦ inl (below, falls)
          | inr apart ↦ inr (apart.0, falls ∙ (λ t. record (map_at before k) { live = sym apart.1 t }))
        ]

    pub dropped-root : parent_of tree k ≡ None → IsDroppedTo tree before now map (k.0 + 1)
    dropped-root none =
        dropped-stays (λ below. elim (below-cases tree map k below) [
          | inl same ↦ omega arith
          | inr r ↦ none-some r.parent (sym none ∙ r.is)
        ])

    -- a map is below exactly where its parent is
    from-parent : (p : MapId) → parent_of tree k ≡ Some p → IsBelow tree map k → IsBelow tree map p
    from-parent p is below =
        elim (below-cases tree map k below) [
          | inl same ↦ absurd (omega arith)
          | inr r ↦ subst (λ (x : MapId). IsBelow tree map x) (same_Some r.parent p (sym r.is ∙ is)) r.below
        ]

    pub above-known : (p : MapId) → parent_of tree k ≡ Some p → IsUnder tree before k p
    above-known p is = MatchOption-at_some ((row_of tree k).path ≡ []) (IsUnder tree before k) p is (b.under k there)

    pub dropped-alive : (p : MapId) → parent_of tree k ≡ Some p → (map_at now p).live ≡ true → IsDroppedTo tree before now map (k.0 + 1)
    dropped-alive p is alive =
        let above = above-known p is in
        let earlier = above.earlier in
        dropped-stays (λ below. elim (to.done p earlier (omega arith)) [
          | inl f ↦ true≢false (sym alive ∙ ap (λ (v : MapView). v.live) f.1)
          | inr f ↦ f.0 (from-parent p is below)
        ])

    pub dropped-dead : (p : MapId) → parent_of tree k ≡ Some p → (map_at now p).live ≡ false → IsDroppedTo tree before (marked_dead now k) map (k.0 + 1)
    dropped-dead p is dead =
        let above = above-known p is in
        let earlier = above.earlier in
        dropped-falls (elim (to.done p earlier (omega arith)) [
          | inl f ↦ inl (under p is f.0)
          | inr f ↦ inr (
            λ below. f.0 (from-parent p is below),
            false_from_ne_true (map_at before k).live (λ l. true≢false (sym (above.live l) ∙ ap (λ (v : MapView). v.live) (sym f.1) ∙ dead)),
          )
        ])

  pub dropped-all : (now : MapsView) (k : ℕ) → IsDroppedTo tree before now map k → length before.maps ≤ k → DropsBranch tree before now map
  dropped-all now k to all = record { count = to.count; arrays = to.arrays; each = λ n known. to.done n (omega arith) known }

-- ---- what is left belongs together

module _ (tree : TreeView) (before now : MapsView) (map : MapId) (b : BelongTogether tree before) (d : DropsBranch tree before now map) where
  dead-stands : (v : MapView) (n : MapId) → StandsAt v (row_of tree n) → StandsAt (dead_map v) (row_of tree n)
  dead-stands v n h = record { origin = h.origin; proto = h.proto; form = h.form }

  still-stands : (n : MapId) → IsKnown before n → StandsAt (map_at now n) (row_of tree n)
  still-stands n k =
      elim (d.each n k) [
        | inl f ↦ subst (λ (v : MapView). StandsAt v (row_of tree n)) (sym f.1) (dead-stands (map_at before n) n (b.stands n k))
        | inr f ↦ subst (λ (v : MapView). StandsAt v (row_of tree n)) (sym f.1) (b.stands n k)
      ]

  still-dead : (n : MapId) → IsKnown before n → (map_at before n).live ≡ false → (map_at now n).live ≡ false
  still-dead n k dead =
      elim (d.each n k) [
        | inl f ↦ ap (λ (v : MapView). v.live) f.1
        | inr f ↦ ap (λ (v : MapView). v.live) f.1 ∙ dead
      ]

  pub entries-stay : (n : MapId) → IsKnown before n → form_in (map_at now n) ≡ form_in (map_at before n)
  entries-stay n k =
      elim (d.each n k) [
        | inl f ↦ ap (λ (v : MapView). form_in v) f.1
        | inr f ↦ ap (λ (v : MapView). form_in v) f.1
      ]

  still-under : (n : MapId) → IsKnown before n → (o : Option MapId) → parent_of tree n ≡ o → MatchOption o ((row_of tree n).path ≡ []) (IsUnder tree before n) → MatchOption o ((row_of tree n).path ≡ []) (IsUnder tree now n)
  still-under n k None is h = h
  still-under n k (Some p) is h =
      let known : IsKnown before p = let earlier = h.earlier in omega arith in
      record {
        earlier = h.earlier;
        live = λ l. elim (d.each n k) [
          | inl f ↦ absurd (true≢false (sym l ∙ ap (λ (v : MapView). v.live) f.1))
          | inr f ↦ elim (d.each p known) [
            | inl g ↦ absurd (f.0 (under p is g.0))
            | inr g ↦ ap (λ (v : MapView). v.live) g.1 ∙ h.live (sym (ap (λ (v : MapView). v.live) f.1) ∙ l)
          ]
        ];
        by = h.by;
        row = h.row;
        fits = elim (d.each p known) [
          | inl g ↦ subst (λ (v : MapView). Fits v h.by) (sym g.1) (dead-fits (map_at before p) h.fits)
          | inr g ↦ subst (λ (v : MapView). Fits v h.by) (sym g.1) h.fits
        ];
      }
    where
      dead-fits : (v : MapView) → Fits v h.by → Fits (dead_map v) h.by
      dead-fits v f = fits-same v (dead_map v) h.by refl f

  pub dropped-together : BelongTogether tree now
  dropped-together = record {
    count = b.count ∙ sym d.count;
    stands = λ n k. still-stands n (omega (arith, d.count));
    under = λ n k. let known : IsKnown before n = omega (arith, d.count) in still-under n known (parent_of tree n) refl (b.under n known);
    one = λ early late lt k same. still-dead early (omega (arith, d.count)) (b.one early late lt (omega (arith, d.count)) same);
  }

  pub dropped-entries : KeepsEntries before now
  dropped-entries = record {
    more = omega (arith, d.count);
    same = λ n k. elim (d.each n k) [
      | inl f ↦ ap (λ (v : MapView). v.entries) f.1
      | inr f ↦ ap (λ (v : MapView). v.entries) f.1
    ];
  }
