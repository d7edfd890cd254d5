-- Trees of counts: what a node stands for, and a leaf that is written.
use Rattle.std.proofs.Common.{◌≡◌, ◌≢◌, ◌<◌, ◌≤◌, ◌+◌, ◌-◌, ◌*◌, ◌^◌, ◌++◌, ◌∷◌, [], ℕ, zero, suc, eqb, MatchBool, List, length, get_or, set, take, drop, replicate, refl, sym, ap, ◌∙◌, inl, inr, arith, length-drop, length-set, pow-suc, pow_pos, pow_mono, pow-add, mul-le-mul_right}
use Rattle.std.specs.Prelude.{remove}
use Rattle.std.proofs.lemmas.Bool.{cases_lt}
use Rattle.std.proofs.lemmas.List.{ext_get_or, get_or_past, get_or-drop, get_or-replicate, length-replicate, take_at, get_or-set_same, get_or-set_other}
use Rattle.dictionary_mode.specs.Counts.{HasPlace, IsSum, IsTree, Lacks, TakesOut, marked_from, numbers_in, room_of}
use Rattle.dictionary_mode.proofs.Marks.{total, AreMarks, none-marked, total_more, total_zero, total_small, length-marked, within-marked, at-marked, lacks-marked, marked-unset, marked-set}

pub le_times : (x n : ℕ) → 1 ≤ n → x ≤ x * n
le_times x zero h = absurd (omega arith)
le_times x (suc n) h = omega arith

pub pow_positive : (h : ℕ) → 0 < 2 ^ h
pow_positive h = pow_pos h

pub le_product : (x a n : ℕ) → x * n ≤ a → 1 ≤ n → x ≤ a
le_product x a n le h = omega (arith, le_times x n h)

-- so many marks are below a node
pub node-total : (counts : List ℕ) (room : ℕ) → ((i : ℕ) → 1 ≤ i → i < room → IsSum counts i) → (h node low : ℕ) → node * 2 ^ h ≡ room + low → 1 ≤ node → low + 2 ^ h ≤ room
    → total (drop room counts) low + get_or counts node 0 ≡ total (drop room counts) (low + 2 ^ h)
node-total counts room sums zero node low covers first inside =
    let F = drop room counts in
    let e : node ≡ room + low = omega (arith, covers) in
    ap (λ n. total F low + get_or counts n 0) e ∙ ap (λ x. total F low + x) (sym (get_or-drop room counts low 0)) ∙ sym (total_more F low)
node-total counts room sums (suc h) node low covers first inside =
    let F = drop room counts in
    let p : 2 ^ suc h ≡ 2 ^ h * 2 = pow-suc 2 h in
    let one : 0 < 2 ^ h = pow_pos h in
    let c : node * (2 ^ h * 2) ≡ room + low = ap (λ w. node * w) (sym p) ∙ covers in
    let n : node ≤ node * 2 ^ h = le_times node (2 ^ h) one in
    let inner : node < room = omega arith in
    let left : total F low + get_or counts (2 * node) 0 ≡ total F (low + 2 ^ h) = node-total counts room sums h (2 * node) low (omega arith) (omega arith) (omega arith) in
    let right : total F (low + 2 ^ h) + get_or counts (2 * node + 1) 0 ≡ total F ((low + 2 ^ h) + 2 ^ h) = node-total counts room sums h (2 * node + 1) (low + 2 ^ h) (omega arith) (omega arith) (omega arith) in
    let both : get_or counts node 0 ≡ get_or counts (2 * node) 0 + get_or counts (2 * node + 1) 0 = sums node first inner in
    let further : (low + 2 ^ h) + 2 ^ h ≡ low + 2 ^ suc h = omega arith in
    let there : total F ((low + 2 ^ h) + 2 ^ h) ≡ total F (low + 2 ^ suc h) = ap (total F) further in
    omega arith

-- ---- a leaf that is written

-- the nodes from the room on are as before, but for one
pub leaves-set : (counts new : List ℕ) (room s v : ℕ) → length new ≡ length counts → ((i : ℕ) → room ≤ i → get_or new i 0 ≡ get_or (set counts (room + s) v) i 0) → room + s < length counts
    → drop room new ≡ set (drop room counts) s v
leaves-set counts new room s v same leaves lt =
    ext_get_or 0 (drop room new) (set (drop room counts) s v)
    (length-drop room new ∙ ap (λ n. n - room) same ∙ sym (length-drop room counts) ∙ sym (length-set (drop room counts) s v))
    (λ i within. get_or-drop room new i 0 ∙ leaves (room + i) (omega arith) ∙ at i)
  where
    at : (i : ℕ) → get_or (set counts (room + s) v) (room + i) 0 ≡ get_or (set (drop room counts) s v) i 0
    at i = elim (cases_lt i s) as (λ w. get_or (set counts (room + s) v) (room + i) 0 ≡ get_or (set (drop room counts) s v) i 0) [
      | inl a ↦
          let far : room + i ≢ room + s = omega arith in let near : i ≢ s = omega arith in
          get_or-set_other counts (room + s) (room + i) v 0 far ∙ sym (get_or-drop room counts i 0) ∙ sym (get_or-set_other (drop room counts) s i v 0 near)
      | inr a ↦ elim (cases_lt s i) as (λ w. get_or (set counts (room + s) v) (room + i) 0 ≡ get_or (set (drop room counts) s v) i 0) [
        | inl b ↦
            let far : room + i ≢ room + s = omega arith in let near : i ≢ s = omega arith in
            get_or-set_other counts (room + s) (room + i) v 0 far ∙ sym (get_or-drop room counts i 0) ∙ sym (get_or-set_other (drop room counts) s i v 0 near)
        | inr b ↦
            let e : i ≡ s = omega arith in
            ap (λ j. get_or (set counts (room + s) v) (room + j) 0) e ∙ get_or-set_same counts (room + s) v 0 lt
            ∙ sym (get_or-set_same (drop room counts) s v 0 (omega (arith, length-drop room counts)))
            ∙ ap (λ j. get_or (set (drop room counts) s v) j 0) (sym e)
      ]
    ]

-- where a number is there are counts
pub nonempty : (counts : List ℕ) (place : ℕ) → place < length (numbers_in counts) → 0 < length counts
nonempty [] place lt = absurd (omega arith)
nonempty (x ∷ xs) place lt = omega arith

pub match_mark : (x : ℕ) {P Q : Type 0} → x ≤ 1 → (x ≡ 1 → P) → (x ≡ 0 → Q) → MatchBool (eqb x 1) P Q
match_mark zero le p q = q refl
match_mark (suc zero) le p q = p refl
match_mark (suc (suc n)) le p q = absurd (omega arith)

-- a slice that was lent is written back
pub written_back : (xs ys : List ℕ) (n : ℕ) → length xs ≡ n → take n (xs ++ drop (length xs) ys) ≡ xs
written_back xs ys n e = take_at xs (drop (length xs) ys) n e

-- counts that are all 0
zeros : (n i : ℕ) → get_or (replicate {A = ℕ} n 0) i 0 ≡ zero
zeros n i = elim (cases_lt i n) [
  | inl lt ↦ get_or-replicate {A = ℕ} n i 0 0 lt
  | inr ge ↦ let none : List ℕ = replicate n 0 in get_or_past none i 0 (let e : length none ≡ n = length-replicate n 0 in omega arith)
]

module _ (counts : List ℕ) (height n : ℕ) (is : counts ≡ replicate n 0) (size : n ≡ 2 * 2 ^ height) where
  zero_at : (i : ℕ) → get_or counts i 0 ≡ 0
  zero_at i = ap (λ xs. get_or xs i 0) is ∙ zeros n i

  pub tree-zero : height ≤ 30 → IsTree counts
  tree-zero le = record {
    height = height;
    size = ap length is ∙ length-replicate n 0 ∙ size;
    fits = pow_mono le;
    sums = λ i one lt. omega (arith, zero_at i, zero_at (2 * i), zero_at (2 * i + 1));
    small = λ i. let e : get_or counts i 0 * i ≡ 0 * i = ap (λ x. x * i) (zero_at i) in omega arith;
    marks = λ i le. omega (arith, zero_at i);
  }

  pub numbers-zero : numbers_in counts ≡ []
  numbers-zero = none-marked (drop (room_of counts) counts) 0 (λ q. get_or-drop (room_of counts) counts q 0 ∙ zero_at (room_of counts + q))

module _ (counts : List ℕ) (tree : IsTree counts) where
  abbrev pub room : ℕ
  room = 2 ^ tree.height

  abbrev pub leaves : List ℕ
  leaves = drop room counts

  pub room-is : room_of counts ≡ 2 ^ tree.height
  room-is = omega (arith, tree.size)

  are_marks : AreMarks leaves
  are_marks s = let e : get_or leaves s 0 ≡ get_or counts (room + s) 0 = get_or-drop room counts s 0 in omega (arith, tree.marks (room + s) (omega arith))

  length-leaves : length leaves ≡ room
  length-leaves = omega (arith, length-drop room counts, tree.size)

  pub numbers-are : numbers_in counts ≡ marked_from 0 leaves
  numbers-are = ap (λ r. marked_from 0 (drop r counts)) room-is

  -- the root has them all
  pub root-is : get_or counts 1 0 ≡ length (numbers_in counts)
  root-is =
      let one : 1 * 2 ^ tree.height ≡ room + 0 = omega arith in
      let all : total leaves 0 + get_or counts 1 0 ≡ total leaves (0 + room) = node-total counts room tree.sums tree.height 1 0 one (omega arith) (omega arith) in
      let m : length (marked_from 0 leaves) ≡ total leaves room = length-marked leaves 0 room are_marks (omega (arith, length-leaves)) in
      let z : 0 + room ≡ room = omega arith in
      let same : total leaves (0 + room) ≡ total leaves room = ap (total leaves) z in
      let n : length (numbers_in counts) ≡ length (marked_from 0 leaves) = ap length numbers-are in
      omega (arith, all, m, same, n, total_zero leaves)

  plain_number : (s : ℕ) → 0 + s ≡ s
  plain_number s = omega arith

  pub mark-is : (s : ℕ) → get_or leaves s 0 ≡ get_or counts (room + s) 0
  mark-is s = get_or-drop room counts s 0

  pub marked-place : (s : ℕ) → get_or counts (room + s) 0 ≡ 1 → HasPlace (numbers_in counts) s
  marked-place s here = record {
    place = total leaves s;
    within = let w = within-marked leaves 0 s are_marks (mark-is s ∙ here) in omega (arith, w, ap length numbers-are);
    is = ap (λ is. get_or is (total leaves s) 0) numbers-are ∙ at-marked leaves 0 s are_marks (mark-is s ∙ here) ∙ plain_number s;
  }

  pub unmarked-lacks : (s : ℕ) → get_or counts (room + s) 0 ≡ 0 → Lacks (numbers_in counts) s
  unmarked-lacks s none place lt e =
      lacks-marked leaves 0 s place (mark-is s ∙ none) (omega (arith, ap length numbers-are)) (ap (λ is. get_or is place 0) (sym numbers-are) ∙ e ∙ sym (plain_number s))

  -- what stands in the list is marked
  pub has-mark : (s : ℕ) → HasPlace (numbers_in counts) s → get_or counts (room + s) 0 ≡ 1
  has-mark s has =
      elim (cases_lt (get_or counts (room + s) 0) 1) [
        | inl lt ↦ absurd (unmarked-lacks s (omega arith) has.place has.within has.is)
        | inr ge ↦ omega (arith, tree.marks (room + s) (omega arith))
      ]

  -- a number has one place, which so many marks come before
  pub place-is : (s : ℕ) → get_or counts (room + s) 0 ≡ 1 → (total leaves s < length (numbers_in counts)) × (get_or (numbers_in counts) (total leaves s) 0 ≡ s)
  unfolding marked-place
  place-is s here = let has = marked-place s here in (has.within, has.is)

  -- ---- a leaf is written and the nodes above are mended

  module _ (new : List ℕ) (s v : ℕ) (inside : s < room) (small : v ≤ 1) (same : length new ≡ length counts) (sums : (i : ℕ) → 1 ≤ i → i < room → IsSum new i)
      (bound : (i : ℕ) → get_or new i 0 * i ≤ 2 * room) (kept : (i : ℕ) → room ≤ i → get_or new i 0 ≡ get_or (set counts (room + s) v) i 0) where
    lt : room + s < length counts
    lt = omega (arith, tree.size)

    marks_new : (i : ℕ) → room ≤ i → get_or new i 0 ≤ 1
    marks_new i le =
        elim (cases_lt i (room + s)) [
          | inl a ↦ let ne : i ≢ room + s = omega arith in let e = get_or-set_other counts (room + s) i v 0 ne in omega (arith, kept i le, e, tree.marks i le)
          | inr a ↦ elim (cases_lt (room + s) i) [
            | inl b ↦ let ne : i ≢ room + s = omega arith in let e = get_or-set_other counts (room + s) i v 0 ne in omega (arith, kept i le, e, tree.marks i le)
            | inr b ↦
                let e : i ≡ room + s = omega arith in
                let f : get_or (set counts (room + s) v) i 0 ≡ v = ap (λ j. get_or (set counts (room + s) v) j 0) e ∙ get_or-set_same counts (room + s) v 0 lt in
                omega (arith, kept i le, f)
          ]
        ]

    pub tree-written : IsTree new
    tree-written = record {
      height = tree.height;
      size = same ∙ tree.size;
      fits = tree.fits;
      sums = sums;
      small = bound;
      marks = marks_new;
    }

    pub numbers-written : numbers_in new ≡ marked_from 0 (set leaves s v)
    numbers-written =
        let r : room_of new ≡ room = omega (arith, same, tree.size) in
        ap (λ n. marked_from 0 (drop n new)) r ∙ ap (marked_from 0) (leaves-set counts new room s v same kept lt)

  pub numbers-pushed : (s : ℕ) → s < room → ((i : ℕ) → i < length (numbers_in counts) → get_or (numbers_in counts) i 0 < s) → marked_from 0 (set leaves s 1) ≡ numbers_in counts ++ s ∷ []
  numbers-pushed s inside above =
      marked-set leaves 0 s (omega (arith, length-leaves)) free ∙ (λ t. sym numbers-are t ++ zero_plus t ∷ [])
    where
      zero_plus : 0 + s ≡ s
      zero_plus = omega arith

      free : (q : ℕ) → s ≤ q → get_or leaves q 0 ≡ 0
      free q le = elim (cases_lt (get_or leaves q 0) 1) [
        | inl l ↦ omega arith
        | inr g ↦
            let one : get_or leaves q 0 ≡ 1 = omega (arith, are_marks q) in
            let has : HasPlace (numbers_in counts) q = marked-place q (sym (mark-is q) ∙ one) in
            let below = above has.place has.within in
            absurd (omega (arith, has.is))
      ]

  pub numbers-taken : (new : List ℕ) (s : ℕ) → HasPlace (numbers_in counts) s → numbers_in new ≡ marked_from 0 (set leaves s 0) → TakesOut (numbers_in counts) (numbers_in new) s
  numbers-taken new s has e =
      let here : get_or leaves s 0 ≡ 1 = mark-is s ∙ has-mark s has in
      let p = place-is s (has-mark s has) in
      record {
        place = total leaves s;
        within = p.0;
        is = p.1;
        rest = e ∙ marked-unset leaves 0 s are_marks here ∙ ap (λ is. remove is (total leaves s)) (sym numbers-are);
      }

  -- ---- up from a leaf

  -- behind the node's last leaf: what was counted and what comes before the node's leaves are what comes before the number
  pub record Climbs (s node before : ℕ) : Type 0 where
    pub height : ℕ
    pub left : ℕ
    pub low : ℕ
    pub up : height + left ≡ tree.height
    pub from : 2 ^ left ≤ node
    pub below : node < 2 * 2 ^ left
    pub covers : node * 2 ^ height ≡ room + low
    pub sum : before + total leaves low ≡ total leaves s

  at_most_leaves : (s node before : ℕ) (c : Climbs s node before) → (node + 1) * 2 ^ c.height ≤ 2 * room
  at_most_leaves s node before c =
      let p : 2 ^ tree.height ≡ 2 ^ c.height * 2 ^ c.left = ap (λ n. 2 ^ n) (sym c.up) ∙ pow-add 2 c.height c.left in
      let le : (node + 1) * 2 ^ c.height ≤ (2 * 2 ^ c.left) * 2 ^ c.height = mul-le-mul_right (2 ^ c.height) (omega (arith, c.below)) in
      let q : (2 * 2 ^ c.left) * 2 ^ c.height ≡ 2 * (2 ^ c.height * 2 ^ c.left) = omega arith in
      omega arith

  pub climb-start : (s node : ℕ) → s < room → node ≡ room + s → Climbs s node 0
  climb-start s node inside e = record {
    height = 0;
    left = tree.height;
    low = s;
    up = omega arith;
    from = omega arith;
    below = omega arith;
    covers = omega arith;
    sum = omega arith;
  }

  pub climb-inside : (s node before : ℕ) → Climbs s node before → node < length counts
  climb-inside s node before c = let le : node + 1 ≤ (node + 1) * 2 ^ c.height = le_times (node + 1) (2 ^ c.height) (pow_pos c.height) in omega (arith, at_most_leaves s node before c, tree.size)

  not_last : (left l : ℕ) → left ≡ suc l → 2 ^ left ≡ 2 ^ l * 2
  not_last left l q = ap (λ n. 2 ^ n) q ∙ pow-suc 2 l

  pub climb-even : (s node before m : ℕ) → node ≡ 2 * m → 1 < node → Climbs s node before → Climbs s m before
  climb-even s node before m e gt c = by_left c.left refl
    where
      by_left : (l : ℕ) → c.left ≡ l → Climbs s m before
      by_left zero q = let p : 2 ^ c.left ≡ 1 = ap (λ n. 2 ^ n) q in absurd (omega (arith, c.below))
      by_left (suc l) q =
          let p : 2 ^ c.left ≡ 2 ^ l * 2 = not_last c.left l q in
          let w : 2 ^ suc c.height ≡ 2 ^ c.height * 2 = pow-suc 2 c.height in
          let same : m * (2 ^ c.height * 2) ≡ room + c.low = omega (arith, c.covers, ap (λ n. n * 2 ^ c.height) e) in
          record {
            height = suc c.height;
            left = l;
            low = c.low;
            up = omega (arith, c.up);
            from = omega (arith, c.from);
            below = omega (arith, c.below);
            covers = ap (λ x. m * x) w ∙ same;
            sum = c.sum;
          }

  pub climb-odd : (s node before m : ℕ) → node ≡ 2 * m + 1 → 1 < node → Climbs s node before → Climbs s m (before + get_or counts (node - 1) 0)
  climb-odd s node before m e gt c = by_left c.left refl
    where
      width : ℕ
      width = 2 ^ c.height

      by_left : (l : ℕ) → c.left ≡ l → Climbs s m (before + get_or counts (node - 1) 0)
      by_left zero q = let p : 2 ^ c.left ≡ 1 = ap (λ n. 2 ^ n) q in absurd (omega (arith, c.below))
      by_left (suc l) q =
          let p : 2 ^ c.left ≡ 2 ^ l * 2 = not_last c.left l q in
          let w : 2 ^ suc c.height ≡ 2 ^ c.height * 2 = pow-suc 2 c.height in
          let all : 2 ^ tree.height ≡ 2 ^ c.height * 2 ^ c.left = ap (λ n. 2 ^ n) (sym c.up) ∙ pow-add 2 c.height c.left in
          let low_m : 2 ^ l ≤ m = omega (arith, c.from) in
          let beyond : (2 ^ l * 2) * 2 ^ c.height ≤ (2 * m) * 2 ^ c.height = mul-le-mul_right (2 ^ c.height) (omega arith) in
          let all2 : 2 ^ c.height * 2 ^ c.left ≡ (2 ^ l * 2) * 2 ^ c.height = ap (λ x. 2 ^ c.height * x) p ∙ omega arith in
          let here : (2 * m + 1) * 2 ^ c.height ≡ room + c.low = ap (λ n. n * 2 ^ c.height) (sym e) ∙ c.covers in
          let enough : 2 ^ c.height ≤ c.low = omega arith in
          let covers : (node - 1) * 2 ^ c.height ≡ room + (c.low - 2 ^ c.height) = ap (λ n. n * 2 ^ c.height) (let k : node - 1 ≡ 2 * m = omega arith in k) ∙ omega arith in
          let most = at_most_leaves s node before c in
          let more : (node + 1) * 2 ^ c.height ≡ node * 2 ^ c.height + 2 ^ c.height = omega arith in
          let below : (c.low - 2 ^ c.height) + 2 ^ c.height ≤ room = omega (arith, c.covers) in
          let counted : total leaves (c.low - 2 ^ c.height) + get_or counts (node - 1) 0 ≡ total leaves ((c.low - 2 ^ c.height) + 2 ^ c.height) =
          node-total counts room tree.sums c.height (node - 1) (c.low - 2 ^ c.height) covers (omega arith) below in
          let back : (c.low - 2 ^ c.height) + 2 ^ c.height ≡ c.low = omega arith in
          let there : total leaves ((c.low - 2 ^ c.height) + 2 ^ c.height) ≡ total leaves c.low = ap (total leaves) back in
          let same : m * (2 ^ c.height * 2) ≡ room + (c.low - 2 ^ c.height) = omega arith in
          record {
            height = suc c.height;
            left = l;
            low = c.low - 2 ^ c.height;
            up = omega (arith, c.up);
            from = low_m;
            below = omega (arith, c.below);
            covers = ap (λ x. m * x) w ∙ same;
            sum = omega (arith, c.sum);
          }

  -- what was counted is no more than the number
  pub climb-small : (s node before : ℕ) → Climbs s node before → before ≤ s
  climb-small s node before c = omega (arith, c.sum, total_small leaves s are_marks)

  pub climb-end : (s node before : ℕ) → node ≤ 1 → Climbs s node before → before ≡ total leaves s
  climb-end s node before le c = by_left c.left refl
    where
      by_left : (l : ℕ) → c.left ≡ l → before ≡ total leaves s
      by_left zero q =
          let p : 2 ^ c.left ≡ 1 = ap (λ n. 2 ^ n) q in
          let n : node ≡ 1 = omega (arith, c.from) in
          let h : c.height ≡ tree.height = omega (arith, c.up) in
          let w : 2 ^ c.height ≡ room = ap (λ k. 2 ^ k) h in
          let one : node * 2 ^ c.height ≡ 2 ^ c.height = ap (λ k. k * 2 ^ c.height) n ∙ omega arith in
          let none : c.low ≡ 0 = omega (arith, c.covers) in
          let z : total leaves c.low ≡ 0 = ap (total leaves) none ∙ total_zero leaves in
          omega (arith, c.sum)
      by_left (suc l) q = let p : 2 ^ c.left ≡ 2 ^ l * 2 = not_last c.left l q in let o : 0 < 2 ^ l = pow_pos l in absurd (omega (arith, c.from))

  -- ---- down from the root

  -- the place is among the leaves of the node, behind so many of them
  pub record Descends (place node rest : ℕ) : Type 0 where
    pub height : ℕ
    pub low : ℕ
    pub covers : node * 2 ^ height ≡ room + low
    pub inside : low + 2 ^ height ≤ room
    pub first : 1 ≤ node
    pub sum : total leaves low + rest ≡ place
    pub here : rest < get_or counts node 0

  pub descend-start : (place : ℕ) → place < length (numbers_in counts) → Descends place 1 place
  descend-start place lt = record {
    height = tree.height;
    low = 0;
    covers = omega arith;
    inside = omega arith;
    first = omega arith;
    sum = omega (arith, total_zero leaves);
    here = omega (arith, root-is);
  }

  leaf_height : (node low : ℕ) → node * 2 ^ 0 ≡ room + low → node < room → ⊥
  leaf_height node low covers lt = omega arith

  module _ (place node rest : ℕ) (inner : node < room) (d : Descends place node rest) where
    pub descend-left : rest < get_or counts (2 * node) 0 → Descends place (2 * node) rest
    descend-left lt = by_height d.height refl
      where
        by_height : (h : ℕ) → d.height ≡ h → Descends place (2 * node) rest
        by_height zero q = absurd (leaf_height node d.low (ap (λ k. node * 2 ^ k) (sym q) ∙ d.covers) inner)
        by_height (suc h) q =
            let w : 2 ^ d.height ≡ 2 ^ h * 2 = not_last d.height h q in
            let c : node * (2 ^ h * 2) ≡ room + d.low = ap (λ x. node * x) (sym w) ∙ d.covers in
            record { height = h; low = d.low; covers = omega arith; inside = omega (arith, d.inside); first = omega (arith, d.first); sum = d.sum; here = lt }

    pub descend-right : get_or counts (2 * node) 0 ≤ rest → Descends place (2 * node + 1) (rest - get_or counts (2 * node) 0)
    descend-right le = by_height d.height refl
      where
        by_height : (h : ℕ) → d.height ≡ h → Descends place (2 * node + 1) (rest - get_or counts (2 * node) 0)
        by_height zero q = absurd (leaf_height node d.low (ap (λ k. node * 2 ^ k) (sym q) ∙ d.covers) inner)
        by_height (suc h) q =
            let w : 2 ^ d.height ≡ 2 ^ h * 2 = not_last d.height h q in
            let c : node * (2 ^ h * 2) ≡ room + d.low = ap (λ x. node * x) (sym w) ∙ d.covers in
            let l : total leaves d.low + get_or counts (2 * node) 0 ≡ total leaves (d.low + 2 ^ h) =
            node-total counts room tree.sums h (2 * node) d.low (omega arith) (omega (arith, d.first)) (omega (arith, d.inside)) in
            let both : get_or counts node 0 ≡ get_or counts (2 * node) 0 + get_or counts (2 * node + 1) 0 = tree.sums node d.first inner in
            record {
              height = h;
              low = d.low + 2 ^ h;
              covers = omega arith;
              inside = omega (arith, d.inside);
              first = omega arith;
              sum = omega (arith, d.sum);
              here = omega (arith, d.here);
            }

  pub descend-end : (place node rest : ℕ) → room ≤ node → Descends place node rest → get_or (numbers_in counts) place 0 ≡ node - room
  descend-end place node rest ge d = by_height d.height refl
    where
      by_height : (h : ℕ) → d.height ≡ h → get_or (numbers_in counts) place 0 ≡ node - room
      by_height zero q =
          let c : node * 2 ^ 0 ≡ room + d.low = ap (λ k. node * 2 ^ k) (sym q) ∙ d.covers in
          let n : node ≡ room + d.low = omega arith in
          let at : get_or counts node 0 ≡ get_or counts (room + d.low) 0 = ap (λ k. get_or counts k 0) n in
          let m : get_or counts (room + d.low) 0 ≤ 1 = tree.marks (room + d.low) (omega arith) in
          let one : get_or counts (room + d.low) 0 ≡ 1 = omega (arith, d.here) in
          let p : total leaves d.low ≡ place = omega (arith, d.here, d.sum) in
          ap (λ k. get_or (numbers_in counts) k 0) (sym p) ∙ (place-is d.low one).1 ∙ omega arith
      by_height (suc h) q =
          let w : 2 ^ d.height ≡ 2 ^ h * 2 = not_last d.height h q in
          let o : 0 < 2 ^ h = pow_pos h in
          let c : node * (2 ^ h * 2) ≡ room + d.low = ap (λ x. node * x) (sym w) ∙ d.covers in
          let n : node ≤ node * 2 ^ h = le_times node (2 ^ h) o in
          absurd (omega (arith, d.inside))
