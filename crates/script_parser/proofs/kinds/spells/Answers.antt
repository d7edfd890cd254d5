use Rattle.std.proofs.Common.{◌∙◌, sym}
use Rattle.script_parser.proofs.Texts.{same_on, differ_at, lengths_differ}
use Rattle.script_parser.proofs.kinds.spells.Goals as goal

pub returns-then-text-len : goal.returns-then-text-len
returns-then-text-len c = sym (lengths_differ c.args.text.now c.args.units.now (λ e. c.if-text-len.true (e ∙ sym c.len.ensures.value)))

pub returns-then-from-unit : goal.returns-then-from-unit
returns-then-from-unit c =
    sym (differ_at c.args.text.now c.args.units.now c.loop-i.i c.unit.result c.loop-i-test.true c.unit.ensures (λ e. c.if-from-unit.true (c.from.ensures ∙ e))) ∙ c.loop-i.invariant.rest

pub loop-i-preserved : goal.loop-i-preserved
loop-i-preserved c = record {
  rest =
      same_on c.args.text.now c.args.units.now c.loop-i.i c.unit.result c.loop-i-test.true c.unit.ensures (sym c.from.ensures ∙ c.if-from-unit.false)
      ∙ c.loop-i.invariant.rest;
  same = c.loop-i.invariant.same;
}
