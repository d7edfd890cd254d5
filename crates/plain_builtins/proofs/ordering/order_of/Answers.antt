use Rattle.std.proofs.Common.{◌+◌, ap, ◌∙◌, arith}
use Rattle.std.specs.Prelude.{nat_lt}
use Rattle.plain_builtins.proofs.Orders.{same-on, differ-looked, differ-less, left-looked, right-looked, left-less, right-less}
use Rattle.plain_builtins.proofs.ordering.order_of.Goals as goal
use Rattle.plain_builtins.proofs.ordering.order_of.Goals.{then-places-test+else-i-len, else-places-test}

pub places-preserved : goal.places-preserved
places-preserved c = (
  omega (arith, c.len.ensures.value, c.places-test.true),
  same-on c.args.left.now c.args.right.now c.places.i (c.places.i + 1) c.unit-unit.result c.unit-other.result (omega arith) c.unit-unit.ensures c.unit-other.ensures c.if-unit-other.false c.places.invariant.1,
)

pub returns-then-unit-other-clause-looked : goal.returns-then-unit-other-clause-looked
returns-then-unit-other-clause-looked c = differ-looked c.args.left.now c.args.right.now c.places.i c.unit-unit.result c.unit-other.result c.unit-unit.ensures c.unit-other.ensures c.if-unit-other.true c.places.invariant.1

pub returns-then-unit-other-clause-less : goal.returns-then-unit-other-clause-less
returns-then-unit-other-clause-less c = differ-less c.args.left.now c.args.right.now c.places.i c.unit-unit.result c.unit-other.result c.unit-unit.ensures c.unit-other.ensures c.if-unit-other.true c.places.invariant.1

pub returns-clause-looked : goal.returns-clause-looked
returns-clause-looked c = elim c.places-test.branch [
  | then-places-test+else-i-len w ↦ right-looked c.args.left.now c.args.right.now c.places.i (omega (arith, w.len-in-places.ensures.value, w.if-i-len.false)) c.places.invariant.1
  | else-places-test w ↦ left-looked c.args.left.now c.args.right.now c.places.i (omega (arith, c.len.ensures.value, w.places-test.false)) c.places.invariant.1
]

pub returns-clause-less : goal.returns-clause-less
returns-clause-less c =
    ap (λ n. nat_lt c.places.i n) c.len-2.ensures.value ∙ elim c.places-test.branch [
      | then-places-test+else-i-len w ↦ right-less c.args.left.now c.args.right.now c.places.i (omega (arith, w.len-in-places.ensures.value, w.if-i-len.false)) c.places.invariant.1
      | else-places-test w ↦ left-less c.args.left.now c.args.right.now c.places.i (omega (arith, c.len.ensures.value, w.places-test.false)) c.places.invariant.1
    ]
