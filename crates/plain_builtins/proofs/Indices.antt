-- The array index that a number is.
use Rattle.std.proofs.Common.{◌≡◌, None, refl, arith}
use Rattle.std.proofs.lemmas.Int.{ints}
use Rattle.std.specs.Prelude.{ℤ, pos, negsuc, nat_abs, ◌<ℤ◌, ◌≤ℤ◌}
use Rattle.plain_builtins.specs.Conversions.{index_of}

pub negative_index : (z : ℤ) → z <ℤ pos 0 → None ≡ index_of z
negative_index (pos n) h = absurd (omega (arith, ints))
negative_index (negsuc n) h = refl

pub index_from_zero : (z : ℤ) → pos 0 ≤ℤ z → index_of (pos (nat_abs z)) ≡ index_of z
index_from_zero (pos n) h = refl
index_from_zero (negsuc n) h = absurd (omega arith)
