-- A set of numbers below a room, kept as a tree of counts: node 1 is the root, the nodes 2 i and 2 i + 1 are below node i,
-- and the number s has the leaf room + s.
use Rattle.std.specs.Prelude.{◌≡◌, ◌≢◌, ◌+◌, ◌*◌, ◌/◌, ◌^◌, ◌<◌, ◌≤◌, ℕ, zero, suc, List, [], ◌∷◌, drop, length, remove, slice_index}

-- what is seen of a set of numbers: the list of them, which rises, and how many numbers there can be
pub record Numbered : Type 0 where
  pub list : List ℕ
  pub room : ℕ

-- the numbers whose mark is not 0, where the first mark is that of the number s
abbrev pub marked_from : ℕ → List ℕ → List ℕ
marked_from s [] = []
marked_from s (zero ∷ marks) = marked_from (s + 1) marks
marked_from s (suc n ∷ marks) = s ∷ marked_from (s + 1) marks

abbrev pub room_of : List ℕ → ℕ
room_of counts = length counts / 2

-- the marks stand in the second half
abbrev pub numbers_in : List ℕ → List ℕ
numbers_in counts = marked_from 0 (drop (room_of counts) counts)

-- the count of an inner node is that of the two nodes below it
abbrev pub IsSum : List ℕ → ℕ → Type 0
IsSum counts i = slice_index counts i ≡ slice_index counts (2 * i) + slice_index counts (2 * i + 1)

pub record IsTree (counts : List ℕ) : Type 0 where
  pub height : ℕ
  pub size : length counts ≡ 2 * 2 ^ height
  pub fits : 2 ^ height ≤ 2 ^ 30
  pub sums : (i : ℕ) → 1 ≤ i → i < 2 ^ height → IsSum counts i
  -- a node i has 2 ^ height / i leaves at most
  pub small : (i : ℕ) → slice_index counts i * i ≤ 2 * 2 ^ height
  pub marks : (i : ℕ) → 2 ^ height ≤ i → slice_index counts i ≤ 1

-- the number stands in the list
pub record HasPlace (list : List ℕ) (number : ℕ) : Type 0 where
  pub place : ℕ
  pub within : place < length list
  pub is : slice_index list place ≡ number

abbrev pub Lacks : List ℕ → ℕ → Type 0
Lacks list number = (place : ℕ) → place < length list → slice_index list place ≢ number

-- the number was taken out of its place, and the others keep their order
pub record TakesOut (old new : List ℕ) (number : ℕ) : Type 0 where
  pub place : ℕ
  pub within : place < length old
  pub is : slice_index old place ≡ number
  pub rest : new ≡ remove old place
