use Rattle.std.proofs.Common.{◌<◌, set, length, ap, ◌∙◌, arith}
use Rattle.property_keys.specs.Counts.{counted}
use Rattle.slot_storage.proofs.Carried.{carried, counted_more}
use Rattle.slot_storage.proofs.block.carry_over.Goals as goal

pub loop-i-preserved : goal.loop-i-preserved
loop-i-preserved g c =
    let i = c.loop-i.i in
    let inside : i < length c.args.from.now = omega arith in
    record {
      words =
          c.put-zero.ensures.1 ∙ (λ t. set (c.loop-i.invariant.words t) i (c.read.ensures t))
          ∙ carried c.args.from.now (length c.args.to.now) i inside c.requires.room;
      steps = c.tick.ensures ∙ ap counted c.loop-i.invariant.steps ∙ counted_more i (g.L.Ledger.ticks c.args.steps.now);
    }
