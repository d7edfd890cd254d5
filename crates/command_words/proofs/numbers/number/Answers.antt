use Rattle.std.proofs.Common.{arith, ◌≤◌, ◌^◌, ◌<◌, ◌≡◌, ◌*◌, ◌+◌, length, lit<}
use Rattle.std.proofs.Math.Nat.{pow-le-pow_right}
use Rattle.command_words.proofs.numbers.number.Goals as goal

-- a digit at one of eight places: the number before it is small
pub overflow_mul-value : goal.overflow_mul-value
overflow_mul-value c =
    let places : 10 ^ c.loop-digit.digit-index ≤ 10 ^ 7 = pow-le-pow_right {n = 10} (lit< tt) {j = 7} (omega arith) in
    omega (arith, c.loop-digit.invariant.bound)

pub overflow_add-value : goal.overflow_add-value
overflow_add-value c =
    let places : 10 ^ c.loop-digit.digit-index ≤ 10 ^ 7 = pow-le-pow_right {n = 10} (lit< tt) {j = 7} (omega arith) in
    omega (arith, c.loop-digit.invariant.bound)
