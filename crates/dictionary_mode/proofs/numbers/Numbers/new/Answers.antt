use Rattle.std.proofs.Common.{◌≡◌, ◌≤◌, ◌*◌, ◌%◌, ◌^◌, ℕ, arith, pow_mono}
use Rattle.dictionary_mode.proofs.Trees.{tree-zero, numbers-zero}
use Rattle.dictionary_mode.proofs.numbers.Numbers.new.Goals as goal

fits : (h : ℕ) → h ≤ 30 → (2 * 2 ^ h) % 2 ^ 64 ≡ 2 * 2 ^ h
fits h le = let small : 2 ^ h ≤ 2 ^ 30 = pow_mono le in omega arith

pub invariant_of-result : goal.invariant_of-result
invariant_of-result c = λ some.
    tree-zero c.in-Ok.counts.items c.args.height ((2 * 2 ^ c.args.height) % 2 ^ 64) (c.in-Ok.ensures.items_if_clones_equal (λ y e. e))
    (fits c.args.height c.if-height-gt-MOST_HEIGHT.false) c.if-height-gt-MOST_HEIGHT.false

pub returns-in-Ok-clause-list : goal.returns-in-Ok-clause-list
returns-in-Ok-clause-list c =
    numbers-zero c.in-Ok.counts.items c.args.height ((2 * 2 ^ c.args.height) % 2 ^ 64) (c.in-Ok.ensures.items_if_clones_equal (λ y e. e))
    (fits c.args.height c.if-height-gt-MOST_HEIGHT.false)
