-- Counts that a program keeps: they grow by one, and stand still at the end of their type.
use Rattle.std.specs.Prelude.{◌≤◌, ◌+◌, ◌-◌, ◌^◌, ℕ, min, max}

-- one more; at 2 ^ 64 - 1 a count stays where it is
abbrev pub counted : ℕ → ℕ
counted n = max n (min (n + 1) (2 ^ 64 - 1))

-- a count grew by at most this
pub record TakesAtMost (most before now : ℕ) : Type 0 where
  pub later : before ≤ now
  pub bound : now ≤ before + most
