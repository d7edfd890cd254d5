use Rattle.std.proofs.Common.{◌<◌, length, set, ap, ◌∙◌, arith, rules}
use Rattle.elements_kinds.proofs.Holes.{filled}
use Rattle.elements_kinds.proofs.slots.fill.Goals as goal

pub loop-i-preserved : goal.loop-i-preserved
loop-i-preserved g c =
    let inside : c.loop-i.i < length c.args.block.now = omega arith in
    record {
      words =
          c.set.ensures.words ∙ ap (λ b. set b c.loop-i.i c.args.word) c.loop-i.invariant.words
          ∙ filled c.args.block.now c.args.from c.loop-i.i c.args.word c.loop-i.auto.i inside;
      steps = search rules;
    }
