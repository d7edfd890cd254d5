-- The count of a node is summed anew.
use Rattle.std.proofs.Common.{◌≡◌, ◌≢◌, ◌<◌, ◌≤◌, ◌+◌, ◌*◌, ◌/◌, ℕ, List, length, get_or, set, ap, ◌∙◌, inl, inr, arith}
use Rattle.std.proofs.lemmas.Bool.{cases_lt}
use Rattle.std.proofs.lemmas.List.{get_or-set_same, get_or-set_other}
use Rattle.dictionary_mode.specs.Counts.{IsSum}
use Rattle.dictionary_mode.proofs.Trees.{le_times}

module _ (counts : List ℕ) (room node sum : ℕ) (first : 1 ≤ node) (inner : node < room) (inside : node < length counts)
    (is : sum ≡ get_or counts (2 * node) 0 + get_or counts (2 * node + 1) 0) where
  abbrev new : List ℕ
  new = set counts node sum

  other : (i : ℕ) → i ≢ node → get_or new i 0 ≡ get_or counts i 0
  other i ne = get_or-set_other counts node i sum 0 ne

  here : get_or new node 0 ≡ sum
  here = get_or-set_same counts node sum 0 inside

  pub sums-mended : ((i : ℕ) → 1 ≤ i → i < room → i ≢ node → IsSum counts i) → (i : ℕ) → 1 ≤ i → i < room → i ≢ node / 2 → IsSum new i
  sums-mended sums i one lt ne =
      let left : 2 * i ≢ node = omega arith in
      let right : 2 * i + 1 ≢ node = omega arith in
      elim (cases_lt i node) [
        | inl a ↦ let far : i ≢ node = omega arith in omega (arith, other i far, other (2 * i) left, other (2 * i + 1) right, sums i one lt far)
        | inr a ↦ elim (cases_lt node i) [
          | inl b ↦ let far : i ≢ node = omega arith in omega (arith, other i far, other (2 * i) left, other (2 * i + 1) right, sums i one lt far)
          | inr b ↦
              let e : i ≡ node = omega arith in
              let l : get_or counts (2 * i) 0 ≡ get_or counts (2 * node) 0 = ap (λ k. get_or counts (2 * k) 0) e in
              let r : get_or counts (2 * i + 1) 0 ≡ get_or counts (2 * node + 1) 0 = ap (λ k. get_or counts (2 * k + 1) 0) e in
              let h : get_or new i 0 ≡ sum = ap (λ k. get_or new k 0) e ∙ here in
              omega (arith, other (2 * i) left, other (2 * i + 1) right)
        ]
      ]

  pub small-mended : (most : ℕ) → ((i : ℕ) → i ≢ node → get_or counts i 0 * i ≤ most) → (i : ℕ) → get_or new i 0 * i ≤ most
  small-mended most small i =
      elim (cases_lt i node) [
        | inl a ↦ let far : i ≢ node = omega arith in let e : get_or new i 0 * i ≡ get_or counts i 0 * i = ap (λ x. x * i) (other i far) in omega (arith, small i far)
        | inr a ↦ elim (cases_lt node i) [
          | inl b ↦ let far : i ≢ node = omega arith in let e : get_or new i 0 * i ≡ get_or counts i 0 * i = ap (λ x. x * i) (other i far) in omega (arith, small i far)
          | inr b ↦
              let k : i ≡ node = omega arith in
              let e : get_or new i 0 * i ≡ sum * node = (λ t. get_or new (k t) 0 * k t) ∙ ap (λ x. x * node) here in
              omega (arith, at_node most small)
        ]
      ]
    where
      at_node : (most : ℕ) → ((i : ℕ) → i ≢ node → get_or counts i 0 * i ≤ most) → sum * node ≤ most
      at_node most small =
          let l : get_or counts (2 * node) 0 * (2 * node) ≤ most = small (2 * node) (omega arith) in
          let r : get_or counts (2 * node + 1) 0 * (2 * node + 1) ≤ most = small (2 * node + 1) (omega arith) in
          let s : sum * node ≡ (get_or counts (2 * node) 0 + get_or counts (2 * node + 1) 0) * node = ap (λ x. x * node) is in
          omega arith

  pub leaves-mended : (i : ℕ) → room ≤ i → get_or new i 0 ≡ get_or counts i 0
  leaves-mended i le = other i (omega arith)

-- what two nodes have together is no more than the bound
pub sum-small : (counts : List ℕ) (node most : ℕ) → 1 ≤ node → ((i : ℕ) → i ≢ node → get_or counts i 0 * i ≤ most) → get_or counts (2 * node) 0 + get_or counts (2 * node + 1) 0 ≤ most
sum-small counts node most first small =
    let l : get_or counts (2 * node) 0 * (2 * node) ≤ most = small (2 * node) (omega arith) in
    let r : get_or counts (2 * node + 1) 0 * (2 * node + 1) ≤ most = small (2 * node + 1) (omega arith) in
    let x : get_or counts (2 * node) 0 ≤ get_or counts (2 * node) 0 * node = le_times (get_or counts (2 * node) 0) node first in
    let y : get_or counts (2 * node + 1) 0 ≤ get_or counts (2 * node + 1) 0 * node = le_times (get_or counts (2 * node + 1) 0) node first in
    omega arith
