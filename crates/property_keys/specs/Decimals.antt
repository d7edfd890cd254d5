-- The canonical decimal text of a whole number (Number::toString, ECMA-262, 6.1.6.1.20).
use Rattle.std.specs.Prelude.{ℕ, ℤ, List}
use Rattle.std.specs.Fmt.{signed_decimal}

-- its code units: `-` before a negative number, no leading zero, no sign else
abbrev pub whole_units : ℤ → List ℕ
whole_units n = signed_decimal n
