-- Several steps at once.
use Rattle.std.specs.Prelude.{ℕ, ◌+◌, ◌-◌, ◌^◌, min, max}

-- what a count is after so many steps: it stands still at 2 ^ 64 - 1, as in a single step
abbrev pub counted_times : ℕ → ℕ → ℕ
counted_times steps count = max count (min (count + steps) (2 ^ 64 - 1))
