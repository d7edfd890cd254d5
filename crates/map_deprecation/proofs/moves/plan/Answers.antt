use Rattle.std.proofs.Common.{◌<◌, ◌++◌, length, sym, ◌∙◌, arith}
use Rattle.map_store.specs.Views.{map_at}
use Rattle.map_deprecation.specs.Moves.{change_of}
use Rattle.map_deprecation.proofs.Changes.{moves_more, same_count}
use Rattle.map_deprecation.proofs.moves.plan.Goals as goal

pub loop-i-preserved : goal.loop-i-preserved
loop-i-preserved g c =
    let es = (map_at c.args.maps.now c.args.from).entries in
    let fs = (map_at c.args.maps.now c.args.to).entries in
    let within : c.loop-i.i < length es = omega (arith, c.loop-i-test.true, c.count-i-end.ensures) in
    let beside : c.loop-i.i < length fs = omega (arith, same_count es fs c.requires.path) in
    record {
      changes = c.in_ok-add_change.ensures
          ∙ (λ t. c.loop-i.invariant.changes t ++ change_of (c.entry-old.ensures.value t) (c.entry-new.ensures.value t))
          ∙ sym (moves_more es fs c.loop-i.i within beside);
      counted = omega (arith, c.entry-old.ensures.steps, c.entry-new.ensures.steps, c.loop-i.invariant.counted);
    }
