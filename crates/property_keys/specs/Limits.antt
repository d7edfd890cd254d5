-- How long a text can be.
use Rattle.std.specs.Prelude.{ℕ, ◌^◌}

-- a text has at most so many code units
abbrev pub most_units : ℕ
most_units = 2 ^ 20
