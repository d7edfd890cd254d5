use Rattle.std.proofs.Common.{ℕ, ◌≡◌, ◌<◌, ◌≤◌, ◌∙◌, ◌^◌, ap, length, List, arith}
use Rattle.std.proofs.lemmas.Fmt.{length-decimal-le}
use Rattle.std.specs.Fmt.{decimal}
use Rattle.evaluator.proofs.names.index_units.Goals as goal

-- a number of 32 bits has 10 digits at most
short : (n : ℕ) (text : List ℕ) → n < 2 ^ 32 → text ≡ decimal n → length text ≤ 100
short n text fits e =
    let most : length (decimal n) ≤ 10 = length-decimal-le 10 n (omega arith) (omega arith) (omega arith) in
    omega (arith, ap length e)

pub units_of-requires : goal.units_of-requires
units_of-requires c = short c.args.n _ (omega (arith, c.ranges.n)) (c.as_bytes.ensures.value ∙ c.as_str.ensures.value ∙ c.in-Ok.ensures.ok)
