-- What the scanners' numbers are limited to.
use Rattle.std.specs.Prelude.{◌<◌, ◌≤◌, ◌-◌, ◌^◌, ℕ, min, Option, IfSome}

-- a number and its length, where 2^64 - 1 stands for every greater number
abbrev pub limited : ℕ × ℕ → ℕ × ℕ
limited number = (min number.0 (2 ^ 64 - 1), number.1)

-- a part of a text takes a character at least, and no more than there are; it stands for a code point, if for one
abbrev pub FitsPart : ℕ → ℕ × Option ℕ → Type 0
FitsPart available part = (0 < part.0) × (part.0 ≤ available) × IfSome part.1 (λ point. point < 0x110000)
