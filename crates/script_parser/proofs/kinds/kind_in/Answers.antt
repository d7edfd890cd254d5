use Rattle.std.proofs.Common.{◌∙◌, sym}
use Rattle.script_parser.proofs.Texts.{passed_by, found_at}
use Rattle.script_parser.proofs.kinds.kind_in.Goals as goal

pub returns-then-spells : goal.returns-then-spells
returns-then-spells c =
    sym (found_at (λ row. (row.0.now, row.1)) c.args.table.now c.args.units.now c.loop-text.text-index _ c.loop-text-test.true (sym c.spells.ensures ∙ c.if-spells.true))
    ∙ c.loop-text.invariant

pub loop-text-preserved : goal.loop-text-preserved
loop-text-preserved c =
    passed_by (λ row. (row.0.now, row.1)) c.args.table.now c.args.units.now c.loop-text.text-index _ c.loop-text-test.true (sym c.spells.ensures ∙ c.if-spells.false)
    ∙ c.loop-text.invariant
