-- The whole numbers that a value can be.
use Rattle.std.specs.Prelude.{ℕ, ℤ, pos, neg_ℤ, ◌≤ℤ◌, ◌-◌, ◌^◌}

-- the greatest of them, 2 ^ 53 - 1 (ECMA-262, 21.1.2.6)
abbrev pub most_whole : ℕ
most_whole = 2 ^ 53 - 1

-- from -(2 ^ 53 - 1) to 2 ^ 53 - 1
abbrev pub IsWhole : ℤ → Type 0
IsWhole n = (neg_ℤ (pos most_whole) ≤ℤ n) × (n ≤ℤ pos most_whole)
