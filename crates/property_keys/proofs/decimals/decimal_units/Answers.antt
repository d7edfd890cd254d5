use Rattle.std.proofs.Common.{ℕ, ◌≡◌, ◌∙◌, ap, length, ◌≤◌, List, arith}
use Rattle.std.proofs.lemmas.Fmt.{length_signed_le}
use Rattle.std.proofs.lemmas.Int.{to_z-of_z}
use Rattle.std.specs.Fmt.{signed_decimal}
use Rattle.std.specs.Prelude.{ℤ}
use mir.Syntax.{w64}
use mir.Val.{SFits}
use Rattle.property_keys.proofs.decimals.decimal_units.Goals as goal

-- a number of 64 bits has a sign and 19 digits at most
at_most_20 : (z : ℤ) (text : List ℕ) → SFits w64 z → text ≡ signed_decimal z → length text ≤ 20
at_most_20 z text fits e =
    let most : length (signed_decimal z) ≤ 20 = length_signed_le 19 z (omega (arith, fits.sfits)) (fits.sfits) in
    omega (arith, ap length e)

pub units_of-requires : goal.units_of-requires
units_of-requires c = at_most_20 c.args.n _ c.ranges.n
    (c.as_bytes.ensures.value ∙ c.as_str.ensures.value ∙ c.in-Ok.ensures.ok ∙ ap signed_decimal (to_z-of_z w64 c.args.n c.ranges.n))
