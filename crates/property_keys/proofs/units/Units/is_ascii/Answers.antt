use Rattle.std.proofs.Common.{arith}
use Rattle.property_keys.proofs.SameText.{differs, agrees}
use Rattle.property_keys.proofs.units.Units.is_ascii.Goals as goal

pub returns-then-unit-from : goal.returns-then-unit-from
returns-then-unit-from c =
    differs c.args.self.now c.args.text.now c.loop-i.i c.unit.result c.from.result (omega arith) (omega arith) c.unit.ensures c.from.ensures c.if-unit-from.true c.loop-i.invariant

pub loop-i-preserved : goal.loop-i-preserved
loop-i-preserved c =
    agrees c.args.self.now c.args.text.now c.loop-i.i c.unit.result c.from.result (omega arith) (omega arith) c.unit.ensures c.from.ensures c.if-unit-from.false c.loop-i.invariant
